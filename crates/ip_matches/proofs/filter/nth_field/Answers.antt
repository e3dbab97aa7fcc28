use Rattle.std.proofs.Common.{◌∙◌, ◌+◌, arith, length-drop, sym}
use Rattle.std.proofs.lemmas.List.{take_rest}
use Rattle.ip_matches.proofs.lemmas.Fields.{first_passed, first_reached, last_passed, last_reached}
use Rattle.ip_matches.proofs.filter.nth_field.Goals as goal

-- The part is the field.
pub returns-then-is_reached : goal.returns-then-is_reached
returns-then-is_reached c =
    let reached = c.is_reached.ensures.0 c.if-is_reached.true in
    sym (c.loop-end.invariant.1
    ∙ first_reached c.loop-end.rest.now c.in-Some.end (sym c.in-Some.ensures.place) c.loop-end.left
    reached.0 reached.1)

-- The field comes after the part.
pub loop-end-preserved : goal.loop-end-preserved
loop-end-preserved c =
    let rest = c.loop-end.rest.now in
    rw take_rest (
      omega (arith, length-drop (c.in-Some.end + 1) rest, c.loop-end.invariant.0),
      c.loop-end.invariant.1
          ∙ first_passed rest c.in-Some.end (sym c.in-Some.ensures.place) c.loop-end.left
          c.left_past-left.result c.left_past-left.ensures.none c.left_past-left.ensures.one,
    )

-- There are too few fields.
pub returns-then-not-is_reached : goal.returns-then-not-is_reached
returns-then-not-is_reached c =
    sym (c.loop-end.invariant.1
    ∙ last_passed c.loop-end.rest.now (sym c.in_default.ensures.place) c.loop-end.left
    (λ reached. cc (c.is_reached-2.ensures.1 reached, c.if-not-is_reached.true)))

-- The rest is the field.
pub returns : goal.returns
returns c =
    let reached = c.is_reached-2.ensures.0 c.if-not-is_reached.false in
    sym (c.loop-end.invariant.1
    ∙ last_reached c.loop-end.rest.now (sym c.in_default.ensures.place) c.loop-end.left reached.0
    reached.1)
