use Rattle.std.proofs.Common.{◌∙◌, refl, sym}
use Rattle.range_map_blaze.proofs.lemmas.Joined.{joined-end, joined-greatest}
use Rattle.range_map_blaze.proofs.cut.joined_end.Goals as goal

-- The end is the greatest value.
pub returns-in_default : goal.returns-in_default
returns-in_default g c =
    joined-greatest _ _ _ _ c.requires.canonical (c.in_default.ensures.none.0 refl)

-- The piece that starts right past the end has the value.
pub returns-then-eq : goal.returns-then-eq
returns-then-eq g c =
    joined-end _ _ _ _ _ _ c.requires.canonical c.in-Some-piece_at.ensures.around c.in-Some.ensures.next
    ((g.met.V.MapValue.exact _ _).0 (sym c.eq.ensures ∙ c.if-eq.true))
