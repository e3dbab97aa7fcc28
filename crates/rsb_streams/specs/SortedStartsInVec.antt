-- The union of ranges in any order.
use Rattle.std.specs.Prelude.{ℕ, ◌≤◌, List, IsFalse}
use Rattle.std.specs.declared.ops.RangeInclusive.{RangeInclusive}
use Rattle.rsb_integer.specs.Rank.{intervals_of}
use Rattle.rsb_integer.specs.Runs.{members, AreRuns}
use Rattle.rsb_streams.specs.Stream.{Outcomes, ◌⊆◌}

-- Whether a stream built from ranges gives only the runs of their members, all of which are in the
-- type. So a set built from them is known at every rank.
pub record GivesRunsOf {T : Type 0} (rank : T → ℕ) (n : ℕ) (given : Outcomes)
    (ranges : List (RangeInclusive T)) : Type 0 where
  pub runs : given ⊆ AreRuns n (members (intervals_of rank ranges))
  pub ends : (place : ℕ) → n ≤ place → IsFalse (members (intervals_of rank ranges) place)
