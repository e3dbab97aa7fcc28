-- Written by tools/c/narrow from proofs/u64_sets/runs/run_past/Answers.antt.
use Rattle.std.proofs.Common.{refl, arith}
use Rattle.rsb_integer.specs.Runs.{from_to}
use Rattle.range_set_c.proofs.lemmas.Walk.{first-after, found-after, none-after, skips-none, skips-run}
use Rattle.range_set_c.proofs.u128_sets.runs.run_past.Goals as goal

-- No run has a value past the given one.
pub returns-in_err-run-clause-none : goal.returns-in_err-run-clause-none
returns-in_err-run-clause-none c none =
    none-after _ _ c.args.value c.in_ok-next.next
    (skips-none _ _ c.args.value c.in_ok-next.next c.in_ok-next.ensures.1)
    (c.in_err-run.ensures.none refl)

-- The first run that has one starts past it.
pub returns-then-value-run-clause-run : goal.returns-then-value-run-clause-run
returns-then-value-run-clause-run c =
    first-after _ _ c.args.value c.in_ok-next.next
    (skips-none _ _ c.args.value c.in_ok-next.next c.in_ok-next.ensures.1)
    _ c.in_ok-run.ensures.run c.if-value-run.true c.in_ok-run.ensures.gap

-- Or it has the given value, and the next run is the first that starts past it.
pub returns-clause-none : goal.returns-clause-none
returns-clause-none c none =
    none-after _ _ c.args.value c.in_ok-past.past
    (skips-run _ _ c.args.value (from_to c.in_ok-run.run'.first c.in_ok-run.run'.last)
    c.in_ok-run.ensures.run c.if-value-run.false c.in_ok-past.past
    c.in_ok-past.ensures.1)
    (c.run_from-2.ensures.none none)

pub returns-clause-run : goal.returns-clause-run
returns-clause-run c =
    let ends = c.in_ok-run.ensures.reach in
    let next = c.in_ok-next.ensures.1 in
    found-after _ _ c.args.value
    (from_to c.in_ok-run.run'.first c.in_ok-run.run'.last) c.in_ok-run.ensures.run
    c.if-value-run.false (omega (arith, ends, next)) c.in_ok-past.past
    c.in_ok-past.ensures.1 (λ run. from_to run.first run.last) c.run_from-2.result
    c.run_from-2.ensures.run c.run_from-2.ensures.reach c.run_from-2.ensures.gap
