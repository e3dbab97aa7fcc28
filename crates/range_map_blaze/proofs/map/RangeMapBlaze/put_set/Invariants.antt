-- The runs that were put, and those still to come, are those of the set.
use Rattle.std.proofs.Common.{◌≡◌, ◌++◌, List}
use Rattle.rsb_integer.specs.Rank.{intervals_of}
use Rattle.rsb_integer.specs.Runs.{Interval, members}
use Rattle.range_map_blaze.specs.Map.{value_at, IsPut}
use Rattle.range_map_blaze.proofs.map.RangeMapBlaze.put_set.Given as goal

abbrev pub invariant-loop-range : goal.invariant-loop-range
invariant-loop-range g l =
    (done : List Interval)
    × (done ++ intervals_of g.T.Integer.rank l.range-iterator ≡ l.fn.set)
    × IsPut (value_at l.fn.self) (members done) (g.V.MapValue.seen l.fn.value) (value_at l.self)
