-- What was collected, followed by what may still come, is a list that the stream might give at
-- first.
use Rattle.std.proofs.Common.{List, ◌++◌}
use Rattle.std.specs.Iterator.{IsFinite, size}
use Rattle.rsb_integer.specs.Rank.{intervals_of}
use Rattle.rsb_integer.specs.Runs.{Interval}
use Rattle.rsb_many.proofs.dyn_sorted_disjoint.DynSortedDisjoint.new.Given as goal

abbrev pub invariant-loop-range : goal.invariant-loop-range
invariant-loop-range g l = record {
  ready : g.I.Draw.can_draw l.stream;
  finite : IsFinite (g.I.Draw.draws_left l.stream);
  given : (rest : List Interval) → g.I.Draw.may_give l.stream rest
      → g.I.Draw.may_give l.fn.stream (intervals_of g.T.Integer.rank l.ranges.items ++ rest);
}

abbrev pub decreases-loop-range : goal.decreases-loop-range
decreases-loop-range g l = size (g.I.Draw.draws_left l.stream)
