-- Lists of intervals of ranks, and when such a list is the runs of a set.
use Rattle.std.specs.Prelude.{◌≡◌, ℕ, ◌&&◌, cond, ◌+◌, ◌-◌, ◌<◌, ◌≤◌, nat_le, nat_lt, List, [], ◌∷◌, All, AllPairs, Contains, IsTrue, IsFalse}
use Rattle.rsb_integer.specs.Selection.{Selection}

-- The ranks from `first` to `last`, both included. There are none if `last` is below `first`.
pub record Interval : Type 0 where
  pub first : ℕ
  pub last : ℕ

-- The interval from one rank to another.
abbrev pub from_to : ℕ → ℕ → Interval
from_to first last = record { first = first; last = last }

-- The ranks in an interval.
abbrev pub covers : Interval → Selection
covers run rank = nat_le run.first rank && nat_le rank run.last

-- The number of ranks in an interval.
abbrev pub length_of : Interval → ℕ
length_of run = run.last + 1 - run.first

-- Whether an interval is non-empty.
abbrev pub HasRanks : Interval → Type 0
HasRanks run = run.first ≤ run.last

-- Whether an interval is empty.
abbrev pub HasNoRanks : Interval → Type 0
HasNoRanks run = run.last < run.first

-- Whether `rest` is `run` without its first rank. If `run` has at most one rank, `rest` is empty.
pub record IsAfterFirst (run rest : Interval) : Type 0 where
  pub more : run.first < run.last → (rest.first ≡ run.first + 1) × (rest.last ≡ run.last)
  pub none : run.last ≤ run.first → HasNoRanks rest

-- Whether `rest` is `run` without its last rank. If `run` has at most one rank, `rest` is empty.
pub record IsBeforeLast (run rest : Interval) : Type 0 where
  pub more : run.first < run.last → (rest.first ≡ run.first) × (rest.last + 1 ≡ run.last)
  pub none : run.last ≤ run.first → HasNoRanks rest

-- ---- lists of intervals

-- The number of intervals in the list that contain the rank.
abbrev pub cover : List Interval → ℕ → ℕ
cover [] rank = 0
cover (run ∷ runs) rank = cond (covers run rank) 1 0 + cover runs rank

-- The ranks in at least one interval of the list.
abbrev pub members : List Interval → Selection
members runs rank = nat_lt 0 (cover runs rank)

-- Whether the intervals are non-empty, the first starts at `low` or later, and there is a gap
-- before each of the others.
abbrev pub IsCanonicalFrom : ℕ → List Interval → Type 0
IsCanonicalFrom low [] = Unit {0}
IsCanonicalFrom low (run ∷ runs) = record {
  starts : low ≤ run.first;
  in_order : run.first ≤ run.last;
  rest : IsCanonicalFrom (run.last + 2) runs;
}

-- Whether the intervals are non-empty, ascend, and neither overlap nor touch.
abbrev pub IsCanonical : List Interval → Type 0
IsCanonical runs = IsCanonicalFrom 0 runs

-- Whether every interval of the list ends below n.
abbrev pub AllEndBelow : ℕ → List Interval → Type 0
AllEndBelow n runs = All (λ (run : Interval). run.last < n) runs

-- Whether the list is canonical and within a type of n values.
pub record IsCanonicalIn (n : ℕ) (runs : List Interval) : Type 0 where
  pub apart : IsCanonical runs
  pub within : AllEndBelow n runs

-- ---- the runs of a set, in a type of n values

module _ (n : ℕ) (selected : Selection) where
  -- Whether `run` is non-empty and within the type, all its ranks are selected, and no rank of the
  -- type next to it is selected.
  pub record IsMaximalRun (run : Interval) : Type 0 where
    pub in_order : run.first ≤ run.last
    pub in_type : run.last < n
    pub whole : (rank : ℕ) → IsTrue (covers run rank) → IsTrue (selected rank)
    pub begins_here : 0 < run.first → IsFalse (selected (run.first - 1))
    pub ends_here : run.last + 1 < n → IsFalse (selected (run.last + 1))

  -- Whether `runs` is the ascending list of all maximal runs of the set.
  pub record AreRuns (runs : List Interval) : Type 0 where
    pub ascending : AllPairs (λ (before after : Interval). before.first < after.first) runs
    pub maximal : All IsMaximalRun runs
    pub complete : (run : Interval) → IsMaximalRun run → Contains runs run
