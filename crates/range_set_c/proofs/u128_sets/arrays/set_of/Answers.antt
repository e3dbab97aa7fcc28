-- Written by tools/c/narrow from proofs/u64_sets/arrays/set_of/Answers.antt.
use Rattle.range_set_c.specs.U128Runs.{interval_of_run}
use Rattle.range_set_c.proofs.lemmas.Arrays.{one-more}
use Rattle.range_set_c.proofs.u128_sets.arrays.set_of.Goals as goal

-- The set gets the values of one run more.
pub loop-run-preserved : goal.loop-run-preserved
loop-run-preserved c =
    one-more interval_of_run c.args.runs.now c.loop-run.run-index _ c.loop-run-test.true _ _
    c.loop-run.invariant c.in_ok-add_run.ensures
