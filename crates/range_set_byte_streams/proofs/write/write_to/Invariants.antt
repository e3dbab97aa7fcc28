use Rattle.std.proofs.Common.{◌+◌, ◌++◌}
use Rattle.rsb_integer.specs.Rank.{intervals_of}
use Rattle.rsb_integer.specs.Runs.{IsCanonicalFrom}
use Rattle.range_set_bytes.specs.Format.{bytes_of, bytes_of_runs}
use Rattle.range_set_bytes.specs.Reading.{from_of, least_gap}
use Rattle.range_set_byte_streams.specs.Transfer.{HasWritten}
use Rattle.range_set_byte_streams.proofs.write.write_to.Given as goal

-- What waits, followed by the bytes of the runs that are left, is still to be written.
abbrev pub invariant-loop-range : goal.invariant-loop-range
invariant-loop-range g l = record {
  ready : (goal.iterator-loop-range g).can_next l.ranges;
  finite : (goal.iterator-loop-range g).is_finite l.ranges;
  after : IsCanonicalFrom (from_of l.previous + least_gap l.previous)
      (intervals_of g.T.Integer.rank l.ranges);
  written : HasWritten (g.W.Write.contents l.fn.output) (g.W.Write.contents l.output)
      (bytes_of g.T.Integer.value_count l.fn.set)
      (l.page.items ++ bytes_of_runs (from_of l.previous) (intervals_of g.T.Integer.rank l.ranges));
}
