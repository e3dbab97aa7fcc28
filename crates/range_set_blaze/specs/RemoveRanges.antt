-- What a removal of the values between two bounds does to a list of runs.
use Rattle.std.specs.Prelude.{◌≡◌, ℕ, ◌+◌, ◌<◌, ◌≤◌, max, min, List, Option, IfSome, IsNone, IsSome, IsTrue, IsFalse}
use Rattle.rsb_integer.specs.Runs.{Interval, covers, members}
use Rattle.rsb_integer.specs.Selection.{intersection, IsEmpty, Selection}
use Rattle.rsb_storage.specs.Set.{Removes}
use Rattle.rsb_storage.specs.Storage.{IsKept}
use Rattle.rsb_storage.specs.Starts.{IsLastBelow}

-- Whether the set has one of the ranks.
abbrev pub HasSome : Selection → Selection → Type 0
HasSome set ranks = (rank : ℕ) × IsTrue (ranks rank) × IsTrue (set rank)

-- Whether the rank is not a member of the set, or is past the end of a type of n values.
abbrev pub Lacks : ℕ → List Interval → ℕ → Type 0
Lacks n set rank = rank < n → IsFalse (members set rank)

-- Whether the run is the last that has a rank of the range.
pub record IsLastMeeting (runs : List Interval) (range run : Interval) : Type 0 where
  pub last : IsLastBelow runs (range.last + 1) run
  pub reaches : range.first ≤ run.last

-- Whether the piece has exactly the ranks that the run and the range have in common.
pub record IsCommon (run range piece : Interval) : Type 0 where
  pub first : piece.first ≡ max run.first range.first
  pub last : piece.last ≡ min run.last range.last

-- Whether the new runs have the same members as the old ones outside the range.
abbrev pub IsSameOutside : Interval → List Interval → List Interval → Type 0
IsSameOutside range old new = (rank : ℕ) → IsFalse (covers range rank)
    → members new rank ≡ members old rank

-- Whether the new runs and the length represent a set that has the same members as the old one
-- outside the range, and lacks the last rank of the range. So no run crosses the end of the range.
pub record IsNarrowed (n : ℕ) (range : Interval) (old new : List Interval) (length : ℕ) : Type 0 where
  pub kept : IsKept n new length
  pub outside : IsSameOutside range old new
  pub ends : IsFalse (members new range.last)

-- What a removal of the ranks of a window returns, and does to the runs. If the set has none of
-- these ranks, it returns `None` and changes nothing. Otherwise it removes them, and returns the
-- number of members left.
pub record RemovesFound {L : Type 0} (number : L → ℕ) (n : ℕ) (window : Interval)
    (old new : List Interval) (found : Option L) : Type 0 where
  pub none : IsNone found → IsEmpty (intersection (members old) (covers window))
  pub unchanged : IsNone found → new ≡ old
  pub some : IsSome found → HasSome (members old) (covers window)
  pub removed : IsSome found → Removes old new (covers window)
  pub kept : IfSome found (λ (length : L). IsKept n new (number length))
