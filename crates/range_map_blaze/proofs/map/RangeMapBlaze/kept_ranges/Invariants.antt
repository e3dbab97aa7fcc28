-- The closure was called on the ranges that are no longer left. The new map has those for which it
-- returned true.
use Rattle.range_map_blaze.specs.Storage.{pieces_in}
use Rattle.range_map_blaze.proofs.lemmas.RetainingRanges.{IsKeepingRanges}
use Rattle.range_map_blaze.proofs.map.RangeMapBlaze.kept_ranges.Given as goal

abbrev pub invariant-loop-range : goal.invariant-loop-range
invariant-loop-range g l =
    let rank = g.T.Integer.rank in
    let seen = g.V.MapValue.seen in
    goal.F-IsAlwaysCallable g l.f
    × IsKeepingRanges rank g.T.Integer.value_count seen g.F.FnMut l.initial.f l.fn.self
    (pieces_in rank seen l.range-iterator) l.kept l.f
