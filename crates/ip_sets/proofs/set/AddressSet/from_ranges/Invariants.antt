-- What was taken, followed by what the stream may still give, is a list that it might give at
-- first.
use Rattle.std.proofs.Common.{List, ◌++◌}
use Rattle.std.specs.Iterator.{IsFinite, size}
use Rattle.range_set_blaze.specs.Runs.{Interval}
use Rattle.ip_sets.specs.Pairs.{spans_of}
use Rattle.ip_sets.proofs.set.AddressSet.from_ranges.Given as goal

abbrev pub invariant-loop-range : goal.invariant-loop-range
invariant-loop-range g l = record {
  ready : g.I.Draw.can_draw l.ranges;
  finite : IsFinite (g.I.Draw.draws_left l.ranges);
  given : (rest : List Interval) → g.I.Draw.may_give l.ranges rest
      → g.I.Draw.may_give l.fn.ranges (spans_of g.T.Integer.rank l.runs.items ++ rest);
}

abbrev pub decreases-loop-range : goal.decreases-loop-range
decreases-loop-range g l = size (g.I.Draw.draws_left l.ranges)
