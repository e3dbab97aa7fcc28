use Rattle.range_map_blaze.specs.Map.{PutsAll}
use Rattle.range_map_blaze.specs.Storage.{pieces_in}
use Rattle.range_map_blaze.proofs.map.RangeMapBlaze.extend.Given as goal

abbrev pub invariant-loop-pair : goal.invariant-loop-pair
invariant-loop-pair g l =
    PutsAll l.fn.self (pieces_in g.T.Integer.rank g.V.MapValue.seen l.yielded) l.self
