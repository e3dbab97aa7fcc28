use Rattle.std.proofs.Common.{All}
use Rattle.rsb_integer.specs.Rank.{intervals_of}
use Rattle.rsb_integer.specs.Runs.{IsCanonicalIn}
use Rattle.test_many.proofs.many.thousand.singles.Given as goal

-- The streams so far are ready.
abbrev pub invariant-loop-start : goal.invariant-loop-start
invariant-loop-start g l = All (λ ranges.
    IsCanonicalIn g.T.Integer.value_count (intervals_of g.T.Integer.rank ranges)) l.streams.items
