use Rattle.std.proofs.Common.{◌≡◌, ◌∙◌, Option, MatchOption, ap, arith, subst}
use Rattle.range_map_blaze.specs.Storage.{without_inside, IsInside}
use Rattle.range_map_blaze.proofs.lemmas.Inside.{inside-removed, inside-shorter}
use Rattle.range_map_blaze.proofs.cut.remove_inside.Goals as goal

-- The start of the piece is at most `last`.
pub remove-requires : goal.remove-requires
remove-requires g c =
    let rank = g.T.Integer.rank in
    let first = rank c.args.first in
    let last = rank c.args.last in
    let pieces = c.loop-next.pieces in
    let found = subst (λ (next : Option g.row.T.Denot). MatchOption next
    (without_inside first last pieces ≡ pieces)
    (λ start. IsInside pieces first last (rank start))) c.in-Some.is c.loop-next.invariant.1 in
    omega (arith, found.to, c.requires.last)

-- The piece is removed.
pub loop-next-smaller : goal.loop-next-smaller
loop-next-smaller g c =
    let rank = g.T.Integer.rank in
    let first = rank c.args.first in
    let last = rank c.args.last in
    let pieces = c.loop-next.pieces in
    let found = subst (λ (next : Option g.row.T.Denot). MatchOption next
    (without_inside first last pieces ≡ pieces)
    (λ start. IsInside pieces first last (rank start))) c.in-Some.is c.loop-next.invariant.1 in
    rw c.remove.ensures (inside-shorter pieces first last (rank c.in-Some.start) found)

-- It starts inside, so it would be removed anyway.
pub loop-next-preserved : goal.loop-next-preserved
loop-next-preserved g c =
    let rank = g.T.Integer.rank in
    let first = rank c.args.first in
    let last = rank c.args.last in
    let pieces = c.loop-next.pieces in
    let found = subst (λ (next : Option g.row.T.Denot). MatchOption next
    (without_inside first last pieces ≡ pieces)
    (λ start. IsInside pieces first last (rank start))) c.in-Some.is c.loop-next.invariant.1 in (
      ap (without_inside first last) c.remove.ensures
          ∙ inside-removed first last (rank c.in-Some.start) pieces found.past found.to
          ∙ c.loop-next.invariant.0,
      c.last_inside-next-in-Some.ensures,
    )
