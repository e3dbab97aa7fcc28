use Rattle.std.proofs.Common.{◌∙◌, ◌≤◌, ◌+◌, arith, sym}
use Rattle.rsb_integer.proofs.lemmas.List.{not_both}
use Rattle.range_map_blaze.proofs.lemmas.Past.{last-within, past-apart, past-joined}
use Rattle.range_map_blaze.proofs.cut.start_past.Goals as goal
use Rattle.range_map_blaze.proofs.cut.start_past.Goals.{else-reaches-via-then-reaches+else-eq, else-reaches-via-else-reaches}

-- The last piece is within the type.
pub ends_before-requires-clause-end : goal.ends_before-requires-clause-end
ends_before-requires-clause-end g c =
    last-within g.T.Integer.value_count _ c.requires.canonical _ c.in-Some.ensures

-- It ends right below the start, and has the value.
pub returns-then-eq : goal.returns-then-eq
returns-then-eq g c =
    past-joined g.T.Integer.value_count _ c.requires.canonical _ c.in-Some.ensures _
    (c.ends_before.ensures.0 c.if-not-ends_before.false) _ (c.reaches.ensures.0 c.if-reaches.true)
    ((g.met.V.MapValue.exact _ _).0 (sym c.eq.ensures ∙ c.if-eq.true))

-- It has another value, or does not touch the start.
pub returns-else-reaches : goal.returns-else-reaches
returns-else-reaches g c =
    let rank = g.T.Integer.rank in
    past-apart g.T.Integer.value_count _ c.requires.canonical _ c.in-Some.ensures _
    (c.ends_before.ensures.0 c.if-not-ends_before.false) _
    (λ touch same. elim c.else-reaches.branch [
      | else-reaches-via-then-reaches+else-eq w ↦
          not_both w.eq.result (w.eq.ensures ∙ (g.met.V.MapValue.exact _ _).1 same) w.if-eq.false
      | else-reaches-via-else-reaches w ↦
          let meets : rank c.args.start ≤ rank c.in-Some.last.run.end + 1 = omega (arith, touch) in
          not_both c.reaches.result (c.reaches.ensures.1 meets) w.if-reaches.false
    ])
