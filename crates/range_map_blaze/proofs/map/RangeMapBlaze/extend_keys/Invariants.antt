use Rattle.range_map_blaze.specs.Map.{PutsAll}
use Rattle.range_map_blaze.specs.Storage.{keyed}
use Rattle.range_map_blaze.proofs.map.RangeMapBlaze.extend_keys.Given as goal

abbrev pub invariant-loop-pair : goal.invariant-loop-pair
invariant-loop-pair g l =
    PutsAll l.fn.self (keyed g.T.Integer.rank g.V.MapValue.seen l.yielded) l.self
