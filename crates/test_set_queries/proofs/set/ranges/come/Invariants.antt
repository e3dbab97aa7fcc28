use Rattle.std.proofs.Common.{w32}
use Rattle.rsb_integer.specs.Rank.{signed_rank}
use Rattle.range_set_blaze.specs.BothEnds.{IsListReady}
use Rattle.test_set_queries.proofs.set.ranges.come.Given as goal

-- The runs that are left are ready at both ends.
abbrev pub invariant-loop-end : goal.invariant-loop-end
invariant-loop-end l = IsListReady (signed_rank w32) 4294967296 l.ranges
