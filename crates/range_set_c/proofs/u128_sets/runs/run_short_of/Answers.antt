-- Written by tools/c/narrow from proofs/u64_sets/runs/run_short_of/Answers.antt.
use Rattle.std.proofs.Common.{refl, arith}
use Rattle.rsb_integer.specs.Runs.{from_to}
use Rattle.range_set_c.proofs.lemmas.Walk.{found-before, last-before, none-before, skips-back_none, skips-back_run}
use Rattle.range_set_c.proofs.u128_sets.runs.run_short_of.Goals as goal

-- No run has a value before the given one.
pub returns-in_err-run-clause-none : goal.returns-in_err-run-clause-none
returns-in_err-run-clause-none c none =
    let last = c.in_ok-below.ensures in
    none-before _ _ c.args.value c.in_ok-below.below
    (skips-back_none _ _ c.args.value c.in_ok-below.below (omega (arith, last.0, last.1)))
    (c.in_err-run.ensures.none refl)

-- The last run that has one ends before it.
pub returns-then-run-value-clause-run : goal.returns-then-run-value-clause-run
returns-then-run-value-clause-run c =
    let last = c.in_ok-below.ensures in
    last-before _ _ c.args.value c.in_ok-below.below
    (skips-back_none _ _ c.args.value c.in_ok-below.below (omega (arith, last.0, last.1)))
    _ c.in_ok-run.ensures.run c.if-run-value.true c.in_ok-run.ensures.gap

-- Or it has the given value, and the last run before it is the last that ends before the value.
pub returns-clause-none : goal.returns-clause-none
returns-clause-none c none =
    let last = c.in_ok-short.ensures in
    none-before _ _ c.args.value c.in_ok-short.short
    (skips-back_run _ _ c.args.value
    (from_to c.in_ok-run.run'.first c.in_ok-run.run'.last) c.in_ok-run.ensures.run
    c.if-run-value.false c.in_ok-short.short (omega (arith, last.0, last.1)))
    (c.run_up_to-2.ensures.none none)

pub returns-clause-run : goal.returns-clause-run
returns-clause-run c =
    let last = c.in_ok-short.ensures in
    let starts = c.in_ok-run.ensures.reach in
    let below = c.in_ok-below.ensures in
    found-before _ _ c.args.value
    (from_to c.in_ok-run.run'.first c.in_ok-run.run'.last) c.in_ok-run.ensures.run
    (omega (arith, starts, below.0, below.1)) c.if-run-value.false c.in_ok-short.short
    (omega (arith, last.0, last.1)) (λ run. from_to run.first run.last) c.run_up_to-2.result
    c.run_up_to-2.ensures.run c.run_up_to-2.ensures.reach c.run_up_to-2.ensures.gap
