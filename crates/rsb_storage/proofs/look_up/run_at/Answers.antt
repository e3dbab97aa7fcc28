use Rattle.std.proofs.Common.{arith, refl}
use Rattle.rsb_integer.specs.Runs.{members}
use Rattle.rsb_integer.proofs.lemmas.List.{not_both}
use Rattle.rsb_storage.proofs.lemmas.runs.Apart.{contained-members, last-gap, none-gap}
use Rattle.rsb_storage.proofs.lemmas.runs.Storage.{lt-fails}
use Rattle.rsb_storage.proofs.lemmas.look_up.Gaps.{contained-around}
use Rattle.rsb_storage.proofs.look_up.run_at.Goals as goal

-- If no run starts at or before the value, it is not a member.
pub returns-in_err-run-clause-none : goal.returns-in_err-run-clause-none
returns-in_err-run-clause-none g c =
    rw c.from_residual.ensures (
      (λ none. none-gap _ _ c.requires.canonical _ c.in_err-run.ensures _ (omega arith)),
      (λ absent. refl),
    )

-- If the last of those runs ends below the value, it is not a member.
pub returns-then-ends_before-clause-none : goal.returns-then-ends_before-clause-none
returns-then-ends_before-clause-none g c = (
  (λ none. last-gap _ _ c.requires.canonical _ _ c.in_ok-run.ensures _
      (c.ends_before.ensures.0 c.if-ends_before.true) (omega arith)),
  (λ absent. refl),
)

-- Otherwise that run has the value.
pub returns-clause-run : goal.returns-clause-run
returns-clause-run g c =
    let starts = c.in_ok-run.ensures.starts in
    contained-around _ _ c.requires.canonical _ _ c.in_ok-run.ensures.among
    (omega (arith, starts)) (lt-fails c.ends_before.result _ _ c.ends_before.ensures c.if-ends_before.false)

pub returns-clause-none : goal.returns-clause-none
returns-clause-none g c =
    let starts = c.in_ok-run.ensures.starts in
    let member = contained-members _ _ c.requires.canonical _ (g.T.Integer.rank c.args.value)
    c.in_ok-run.ensures.among (omega (arith, starts))
    (lt-fails c.ends_before.result _ _ c.ends_before.ensures c.if-ends_before.false) in (
      (λ none. absurd (cc)),
      (λ absent. absurd (not_both (members c.args.runs.now
          (g.T.Integer.rank c.args.value)) member absent)),
    )
