use Rattle.range_map_blaze.proofs.lemmas.Compared.{told-same}
use Rattle.range_map_blaze.proofs.map.order.RangeMapBlazePartialEq.eq.Goals as goal

-- Maps are equal exactly if their pieces are the same.
pub returns : goal.returns
returns g c =
    rw (← c.self.view_is, ← c.other.view_is)
    (told-same g.T.Integer.value_count g.V.PartialEq.eq g.V.MapValue.seen g.met.V.MapValue.exact
    g.met.V.Eq.laws c.self.inside.pieces c.other.inside.pieces c.same.result c.self.invariant
    c.other.invariant c.same.ensures.settled c.same.ensures.settled_other c.same.ensures.same)
