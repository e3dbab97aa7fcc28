-- What a removal does to a list of runs.
use Rattle.std.specs.Prelude.{◌≡◌, ℕ, ◌&&◌, ◌||◌, nat_lt, ◌+◌, List, Contains}
use Rattle.rsb_integer.specs.Runs.{Interval, covers, length_of, members, IsCanonicalIn}
use Rattle.rsb_integer.specs.Selection.{count}
use Rattle.rsb_storage.specs.Set.{Removes}
use Rattle.rsb_storage.specs.Starts.{without_start}

-- Whether the new runs are canonical and have the members of the old ones except the ranks of the
-- piece, all of which were members.
pub record IsRemoved (n : ℕ) (old new : List Interval) (piece : Interval) : Type 0 where
  pub canonical : IsCanonicalIn n new
  pub removes : Removes old new (covers piece)
  pub counted : count n (members new) + length_of piece ≡ count n (members old)

-- Whether `now` has a run that starts where `run` does, and its other runs are canonical. They have
-- the members of the other old runs, and the ranks of `run` past the point.
pub record IsCutAbove (n : ℕ) (old : List Interval) (run : Interval) (point : ℕ)
    (now : List Interval) : Type 0 where
  pub there : (other : Interval) × Contains now other × (other.first ≡ run.first)
  pub canonical : IsCanonicalIn n (without_start run.first now)
  pub has : (rank : ℕ) → members (without_start run.first now) rank
      ≡ (members (without_start run.first old) rank || (covers run rank && nat_lt point rank))
  pub counted : count n (members (without_start run.first now)) + point
      ≡ count n (members (without_start run.first old)) + run.last
