use Rattle.std.proofs.Common.{ℕ, List, [], ◌+◌, ◌-◌, ◌*◌, ◌<◌, ◌≤◌, None}
use Rattle.range_set_bytes.specs.Reading.{from_of, least_gap, BeginsWithRun}
use Rattle.range_set_byte_streams.specs.Source.{ReadsRuns}
use Rattle.range_set_byte_streams.proofs.read.read_runs.Given as goal

-- The set has the runs read so far, and the others are expected.
abbrev pub invariant-loop-index : goal.invariant-loop-index
invariant-loop-index g l = record {
  room : 0 < l.count - l.index
      → from_of l.previous + least_gap l.previous + 2 * (l.count - l.index) ≤ l.greatest + 2;
  reads : (bytes : List ℕ) (first : ReadsRuns bytes (g.R.Read.remaining l.fn.input)
      g.T.Integer.value_count l.start [] None l.count)
      → (now : ReadsRuns bytes (g.R.Read.remaining l.input) g.T.Integer.value_count l.place l.set
      l.previous (l.count - l.index)) × (BeginsWithRun now.rest → BeginsWithRun first.rest);
}
