-- The closure was called on the keys that are no longer left. The new map has those for which it
-- returned true.
use Rattle.range_map_blaze.proofs.lemmas.Retaining.{IsKeeping}
use Rattle.range_map_blaze.proofs.map.RangeMapBlaze.kept_pairs.Given as goal

abbrev pub invariant-loop-key : goal.invariant-loop-key
invariant-loop-key g l =
    goal.F-IsAlwaysCallable g l.f
    × IsKeeping g.T.Integer.rank g.T.Integer.value_count g.V.MapValue.seen g.F.FnMut l.initial.f
    l.fn.self l.key-iterator l.kept l.f
