-- Sets of ranks and their algebra. A rank is the position of a value in its type, starting at 0
-- (docs/DECISIONS.md, predicates-on-ranks).
use Rattle.std.specs.Prelude.{◌≡◌, ℕ, zero, suc, Bool, true, false, not, ◌&&◌, ◌||◌, cond, ◌+◌, ◌<◌, nat_le, nat_lt, List, [], ◌∷◌, IsTrue, IsFalse}

-- A set of ranks, as a test that is true for its members.
abbrev pub Selection : Type 0
Selection = ℕ → Bool

-- Whether one of the two is true, but not both. (std's `xor` means the same, but does not unfold by
-- itself.)
abbrev pub exclusive_or : Bool → Bool → Bool
exclusive_or true b = not b
exclusive_or false b = b

-- ---- operations on one or two sets, rank by rank

-- The ranks that are not in the set.
abbrev pub complement : Selection → Selection
complement selected rank = not (selected rank)

-- The ranks of a type of n values that are not in the set.
abbrev pub complement_in : ℕ → Selection → Selection
complement_in n selected rank = nat_lt rank n && not (selected rank)

-- The ranks in either set or in both.
abbrev pub union : Selection → Selection → Selection
union left right rank = left rank || right rank

-- The ranks in both sets.
abbrev pub intersection : Selection → Selection → Selection
intersection left right rank = left rank && right rank

-- The ranks in the left set and not in the right one.
abbrev pub difference : Selection → Selection → Selection
difference left right rank = left rank && not (right rank)

-- The ranks in one of the two sets, but not in both.
abbrev pub symmetric_difference : Selection → Selection → Selection
symmetric_difference left right rank = exclusive_or (left rank) (right rank)

-- ---- operations on any number of sets

-- The ranks in at least one of the sets. There are none if there are no sets.
abbrev pub any_of : List Selection → Selection
any_of [] rank = false
any_of (set ∷ sets) rank = set rank || any_of sets rank

-- The ranks in all of the sets. These are all ranks if there are no sets.
abbrev pub all_of : List Selection → Selection
all_of [] rank = true
all_of (set ∷ sets) rank = set rank && all_of sets rank

-- The ranks in an odd number of the sets. There are none if there are no sets.
abbrev pub odd_of : List Selection → Selection
odd_of [] rank = false
odd_of (set ∷ sets) rank = exclusive_or (set rank) (odd_of sets rank)

-- The number of sets that contain the rank. A set that is in the list twice counts twice.
abbrev pub how_many : List Selection → ℕ → ℕ
how_many [] rank = 0
how_many (set ∷ sets) rank = cond (set rank) 1 0 + how_many sets rank

-- The ranks in at least k of the sets. These are all ranks if k is 0, and none if there are fewer
-- than k sets.
abbrev pub at_least : ℕ → List Selection → Selection
at_least k sets rank = nat_le k (how_many sets rank)

-- ---- comparisons of sets in a type of n values

-- Whether the two sets have the same ranks below n.
abbrev pub Agree : ℕ → Selection → Selection → Type 0
Agree n left right = (rank : ℕ) → rank < n → left rank ≡ right rank

-- Whether each rank below n in the left set is in the right one.
abbrev pub IsSubset : ℕ → Selection → Selection → Type 0
IsSubset n left right = (rank : ℕ) → rank < n → IsTrue (left rank) → IsTrue (right rank)

-- Whether no rank below n is in both sets.
abbrev pub AreDisjoint : ℕ → Selection → Selection → Type 0
AreDisjoint n left right = (rank : ℕ) → rank < n → IsTrue (left rank) → IsFalse (right rank)

-- Whether at least one of `ranks` is not in the set.
abbrev pub LacksSome : Selection → Selection → Type 0
LacksSome set ranks = (rank : ℕ) × IsTrue (ranks rank) × IsFalse (set rank)

-- Whether no rank is selected.
abbrev pub IsEmpty : Selection → Type 0
IsEmpty selected = (rank : ℕ) → IsFalse (selected rank)

-- Whether every rank below n is selected.
abbrev pub IsUniversal : ℕ → Selection → Type 0
IsUniversal n selected = (rank : ℕ) → rank < n → IsTrue (selected rank)

-- The number of selected ranks below n. This is not an abbreviation, because n may be 2 ^ 128.
unfoldable pub count : ℕ → Selection → ℕ
count zero selected = 0
count (suc n) selected = count n selected + cond (selected n) 1 0
