-- The steps of a walk over the runs of a set, by one run or by an array of runs.
use Rattle.std.specs.Prelude.{◌≡◌, ℕ, ◌<◌, ◌≤◌, List, length, min, take}
use Rattle.rsb_integer.specs.Runs.{Interval, AreRuns, IsMaximalRun}
use Rattle.rsb_integer.specs.Selection.{Selection}

module _ (n : ℕ) (selected : Selection) (rank : ℕ) where
  -- Whether the run is the first of the maximal runs that start past the rank.
  pub record IsFirstAfter (run : Interval) : Type 0 where
    pub maximal : IsMaximalRun n selected run
    pub later : rank < run.first
    pub first : (other : Interval) → IsMaximalRun n selected other → rank < other.first
        → run.first ≤ other.first

  -- Whether no maximal run starts past the rank.
  abbrev pub NoneAfter : Type 0
  NoneAfter = (run : Interval) → IsMaximalRun n selected run → run.first ≤ rank

  -- Whether the run is the last of the maximal runs that end before the rank.
  pub record IsLastBefore (run : Interval) : Type 0 where
    pub maximal : IsMaximalRun n selected run
    pub earlier : run.last < rank
    pub last : (other : Interval) → IsMaximalRun n selected other → other.last < rank
        → other.last ≤ run.last

  -- Whether no maximal run ends before the rank.
  abbrev pub NoneBefore : Type 0
  NoneBefore = (run : Interval) → IsMaximalRun n selected run → rank ≤ run.last

-- Whether the list begins with the first `count` maximal runs of the set, in ascending order. If
-- there are fewer than `most`, these are all of them; otherwise, `count` is `most`.
pub record BeginsWithRuns (n : ℕ) (selected : Selection) (most : ℕ) (list : List Interval)
    (count : ℕ) : Type 0 where
  pub all : List Interval
  pub runs : AreRuns n selected all
  pub counted : count ≡ min (length all) most
  pub begins : take count list ≡ take count all
