-- The gaps whose values were removed, and those still to come, are those of the set.
use Rattle.std.proofs.Common.{◌≡◌, ◌++◌, ◌<◌, ℕ, not, List}
use Rattle.rsb_integer.specs.Rank.{intervals_of}
use Rattle.rsb_integer.specs.Runs.{Interval, members}
use Rattle.range_map_blaze.specs.Map.{value_at, IsMapIn, IsWithout}
use Rattle.range_map_blaze.proofs.map.RangeMapBlaze.keep_set.Given as goal

abbrev pub invariant-loop-gap : goal.invariant-loop-gap
invariant-loop-gap g l =
    (done gaps : List Interval)
    × (done ++ intervals_of g.T.Integer.rank l.gap-iterator ≡ gaps)
    × ((rank : ℕ) → rank < g.T.Integer.value_count → members gaps rank ≡ not (members l.fn.set rank))
    × IsMapIn g.T.Integer.value_count l.fn.self
    × IsWithout (value_at l.fn.self) (members done) (value_at l.self)
