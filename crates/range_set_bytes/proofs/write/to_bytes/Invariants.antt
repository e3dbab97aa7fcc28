use Rattle.std.proofs.Common.{◌≡◌, ◌+◌, ◌++◌}
use Rattle.rsb_integer.specs.Rank.{intervals_of}
use Rattle.rsb_integer.specs.Runs.{IsCanonicalFrom}
use Rattle.range_set_bytes.specs.Format.{bytes_of, bytes_of_runs}
use Rattle.range_set_bytes.specs.Reading.{from_of, least_gap}
use Rattle.range_set_bytes.proofs.write.to_bytes.Given as goal

-- What was written, followed by the bytes of the runs that are left, is the bytes of the set.
abbrev pub invariant-loop-range : goal.invariant-loop-range
invariant-loop-range g l = record {
  ready : (goal.iterator-loop-range g).can_next l.ranges;
  finite : (goal.iterator-loop-range g).is_finite l.ranges;
  after : IsCanonicalFrom (from_of l.previous + least_gap l.previous)
      (intervals_of g.T.Integer.rank l.ranges);
  written : l.bytes.items ++ bytes_of_runs (from_of l.previous) (intervals_of g.T.Integer.rank l.ranges)
      ≡ bytes_of g.T.Integer.value_count l.fn.set;
}
