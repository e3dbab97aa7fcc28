use Rattle.std.proofs.Common.{◌+◌, ap, arith, inl, inr}
use Rattle.std.proofs.lemmas.Bool.{cases_lt}
use Rattle.rsb_integer.specs.Runs.{members}
use Rattle.rsb_integer.proofs.lemmas.Count.{count-within}
use Rattle.rsb_integer.proofs.lemmas.List.{not_both}
use Rattle.range_set_blaze.proofs.lemmas.removal.Cuts.{removes-only}
use Rattle.rsb_storage.proofs.lemmas.runs.Apart.{contained-members, last-gap, none-gap}
use Rattle.rsb_storage.proofs.lemmas.runs.Storage.{lt-fails}
use Rattle.range_set_blaze.proofs.set.remove.remove_value.Goals as goal

-- If no run starts at or before the value, it is not a member.
pub returns-in_default-clause-none : goal.returns-in_default-clause-none
returns-in_default-clause-none g c none =
    none-gap _ _ c.requires.kept.canonical _ c.in_default.ensures _ (omega arith)

-- If the last of those runs ends below the value, it is not a member.
pub returns-then-ends_before-clause-none : goal.returns-then-ends_before-clause-none
returns-then-ends_before-clause-none g c none =
    last-gap _ _ c.requires.kept.canonical _ _ c.in-Some.ensures _
    (c.ends_before.ensures.0 c.if-ends_before.true) (omega arith)

-- Otherwise that run has the value.
pub returns-clause-some : goal.returns-clause-some
returns-clause-some g c some =
    let starts = c.in-Some.ensures.starts in
    contained-members _ _ c.requires.kept.canonical _ _ c.in-Some.ensures.among
    (omega (arith, starts)) (lt-fails c.ends_before.result _ _ c.ends_before.ensures c.if-ends_before.false)

-- If an allocation fails, the value is a member.
pub returns-in_err-cut-clause-absent : goal.returns-in_err-cut-clause-absent
returns-in_err-cut-clause-absent g c absent =
    let starts = c.in-Some.ensures.starts in
    absurd (not_both (members c.args.runs.now (g.T.Integer.rank c.args.value))
    (contained-members _ _ c.requires.kept.canonical _ _ c.in-Some.ensures.among
    (omega (arith, starts)) (lt-fails c.ends_before.result _ _ c.ends_before.ensures c.if-ends_before.false))
    absent)

pub returns-in_err-cut-clause-succeeds : goal.returns-in_err-cut-clause-succeeds
returns-in_err-cut-clause-succeeds g c last =
    let rank = g.T.Integer.rank in
    let starts = c.in-Some.ensures.starts in
    elim (cases_lt (rank c.args.value) (rank c.in-Some.run'.end)) [
      | inl more ↦ absurd (not_both (members c.args.runs.now
          (rank c.args.value + 1))
          (contained-members _ _ c.requires.kept.canonical _ _ c.in-Some.ensures.among
          (omega (arith, starts)) (omega (arith, more))) last)
      | inr less ↦
          let fails = c.in_err-cut.ensures.succeeds
          (omega (arith, less, ap rank c.only-piece.ensures.end)) in
          absurd (cc)
    ]

-- The number of members is at most the size of the type.
pub subtract_length-requires-clause-fits : goal.subtract_length-requires-clause-fits
subtract_length-requires-clause-fits g c =
    let within = count-within g.T.Integer.value_count
    (members c.args.runs.now) in
    omega (arith, within, c.requires.kept.length)

-- Only the value is removed.
pub returns-clause-removed : goal.returns-clause-removed
returns-clause-removed g c some =
    let rank = g.T.Integer.rank in
    removes-only _ _ (rank c.only-piece.result.start) (rank c.only-piece.result.end)
    (rank c.args.value) (ap rank c.only-piece.ensures.start) (ap rank c.only-piece.ensures.end)
    c.in_ok-cut.ensures.removed.removes
