use Rattle.std.proofs.Common.{◌-◌, ◌≢◌, []}
use Rattle.rsb_integer.specs.Rank.{intervals_of}
use Rattle.range_set_bytes.specs.Reading.{BeginsWithRun, ExpectsRuns}
use Rattle.range_set_bytes.proofs.read.read_runs.Given as goal

-- The ranges are those read so far, and the others are expected.
abbrev pub invariant-loop-index : goal.invariant-loop-index
invariant-loop-index g l = record {
  expected : ExpectsRuns g.T.Integer.value_count l.bytes l.left
      (intervals_of g.T.Integer.rank l.ranges.items) l.previous (l.count - l.index);
  begun : BeginsWithRun l.left → BeginsWithRun l.rest;
  some : l.ranges.items ≢ [] → BeginsWithRun l.rest;
}
