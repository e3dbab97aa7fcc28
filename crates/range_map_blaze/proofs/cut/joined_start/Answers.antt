use Rattle.std.proofs.Common.{◌∙◌, sym}
use Rattle.range_map_blaze.proofs.lemmas.Joined.{joined-start}
use Rattle.range_map_blaze.proofs.cut.joined_start.Goals as goal

-- The piece that ends right below the start has the value.
pub returns-then-eq : goal.returns-then-eq
returns-then-eq g c =
    joined-start g.T.Integer.value_count _ _ _ _ _ c.in-Some-piece_at.ensures.around c.in-Some.ensures.some
    ((g.met.V.MapValue.exact _ _).0 (sym c.eq.ensures ∙ c.if-eq.true))
