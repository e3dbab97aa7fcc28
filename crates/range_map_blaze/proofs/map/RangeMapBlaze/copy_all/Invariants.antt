-- The pieces that were copied, and those still to come, are those of the other map.
use Rattle.std.proofs.Common.{◌≡◌, ◌++◌, List}
use Rattle.rsb_integer.specs.Runs.{Interval}
use Rattle.range_map_blaze.specs.Map.{PutsAll}
use Rattle.range_map_blaze.specs.Storage.{pieces_in}
use Rattle.range_map_blaze.proofs.map.RangeMapBlaze.copy_all.Given as goal

abbrev pub invariant-loop-range : goal.invariant-loop-range
invariant-loop-range g l =
    (copied : List (Interval × g.row.V.Denot))
    × (copied ++ pieces_in g.T.Integer.rank g.V.MapValue.seen l.range-iterator ≡ l.fn.other)
    × PutsAll l.fn.self copied l.self
