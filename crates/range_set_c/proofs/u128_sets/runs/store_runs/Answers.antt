-- Written by tools/c/narrow from proofs/u64_sets/runs/store_runs/Answers.antt.
use Rattle.std.proofs.Common.{ap, ◌^◌, arith}
use Rattle.rsb_integer.specs.Rank.{intervals_of}
use Rattle.range_set_c.specs.U128Runs.{interval_of_run}
use Rattle.range_set_c.proofs.lemmas.Filling.{begins-ended, begins-full, runs-between}
use Rattle.range_set_c.proofs.u128_sets.runs.store_runs.Goals as goal

-- No range is left.
pub returns-in_default-clause-stored : goal.returns-in_default-clause-stored
returns-in_default-clause-stored c =
    let runs = runs-between (2 ^ 128) _ _ _ _ c.args.first c.args.last c.new.ensures.start
    c.new.ensures.end (c.ranges_in-ranges.ensures.runs c.new.ensures.exhausted) in
    begins-ended interval_of_run (2 ^ 128) _ _ runs c.args.runs.now c.loop-count.runs
    c.loop-count.count _ c.loop-count.auto.runs (omega (arith, c.loop-count-test.true))
    c.loop-count.invariant.1 (ap (intervals_of (λ x. x)) c.in_default.ensures.steps.0) _

-- The array is full.
pub returns-clause-stored : goal.returns-clause-stored
returns-clause-stored c =
    let runs = runs-between (2 ^ 128) _ _ _ _ c.args.first c.args.last c.new.ensures.start
    c.new.ensures.end (c.ranges_in-ranges.ensures.runs c.new.ensures.exhausted) in
    begins-full interval_of_run (2 ^ 128) _ _ runs c.args.runs.now c.loop-count.runs
    c.loop-count.count _ c.loop-count.auto.runs c.loop-count.auto.count-end
    c.loop-count.invariant.1 c.loop-count-test.false
