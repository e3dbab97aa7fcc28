-- The first run, or the first gap, that has at least a given length.
use Rattle.std.specs.Prelude.{ℕ, ◌+◌, ◌<◌, ◌≤◌, List, IsFalse, IsTrue}
use Rattle.rsb_integer.specs.Runs.{Interval, length_of, members, IsMaximalRun}
use Rattle.rsb_integer.specs.Selection.{Selection}

module _ (n : ℕ) (selected : Selection) (len : ℕ) where
  -- Whether every maximal run is shorter than `len`.
  abbrev pub AllShorter : Type 0
  AllShorter = (run : Interval) → IsMaximalRun n selected run → length_of run < len

  -- Whether every maximal run that starts before the rank is shorter than `len`.
  abbrev pub AllShorterBefore : ℕ → Type 0
  AllShorterBefore rank = (run : Interval) → IsMaximalRun n selected run → run.first < rank
      → length_of run < len

  -- Whether `run` is the first maximal run of at least this length.
  pub record IsFirstFit (run : Interval) : Type 0 where
    pub maximal : IsMaximalRun n selected run
    pub long : len ≤ length_of run
    pub first : AllShorterBefore run.first

-- Whether the block of `len` ranks that starts at `start` is within the type, and none of its ranks
-- is a member.
pub record IsFree (n : ℕ) (set : List Interval) (start len : ℕ) : Type 0 where
  pub in_type : start + len ≤ n
  pub free : (rank : ℕ) → start ≤ rank → rank < start + len → IsFalse (members set rank)

-- Whether every rank of the type that is at or above `from` is a member.
abbrev pub HasAllFrom : ℕ → List Interval → ℕ → Type 0
HasAllFrom n set from = (rank : ℕ) → from ≤ rank → rank < n → IsTrue (members set rank)

-- Whether `rank` is the first rank at or above `from` that is not a member.
pub record IsFirstFree (n : ℕ) (set : List Interval) (from rank : ℕ) : Type 0 where
  pub later : from ≤ rank
  pub in_type : rank < n
  pub free : IsFalse (members set rank)
  pub before : (other : ℕ) → from ≤ other → other < rank → IsTrue (members set other)
