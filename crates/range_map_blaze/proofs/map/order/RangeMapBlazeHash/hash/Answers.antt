use Rattle.std.proofs.Common.{ap, sym}
use Rattle.std.specs.Hash.{fed_along, slice}
use Rattle.range_map_blaze.specs.Made.{fed_piece}
use Rattle.range_map_blaze.proofs.lemmas.Made.{made-again}
use Rattle.range_map_blaze.proofs.map.order.RangeMapBlazeHash.hash.Goals as goal

-- The pieces that are made of the values of the map are its own.
pub returns : goal.returns
returns g c =
    let key = g.T.Hash.hash_input in
    rw (← c.self.view_is)
    (fed_along g.H.Hasher.write c.args.state.now c.feed.new.state
    (ap (slice (fed_piece (λ each. key (g.T.Integer.value_at each)) g.V.Hash.hash_input))
    (sym (made-again g.V.PartialEq.eq g.V.MapValue.seen g.met.V.MapValue.exact g.T.Integer.value_count
    c.self.inside.pieces c.self.invariant c.feed.ensures.settled)))
    c.feed.ensures.fed)
