-- The place of a run among others by its start, and what calls to a map do to a list of runs.
use Rattle.std.specs.Prelude.{◌≡◌, ℕ, Bool, true, false, not, ◌||◌, nat_le, nat_lt, ◌==◌, ◌+◌, ◌<◌, ◌≤◌, List, [], ◌∷◌, ◌++◌, Option, MatchOption, Contains}
use Rattle.std.specs.List.{filter}
use Rattle.rsb_integer.specs.Runs.{Interval, covers, length_of, members, IsCanonicalIn}
use Rattle.rsb_integer.specs.Selection.{count}
use Rattle.rsb_storage.specs.Storage.{run_of}
use Rattle.rsb_storage.specs.declared.run.Run.{Run}

-- ---- parts of a list, by starts

-- The runs whose starts pass a test.
abbrev pub runs_starting : (ℕ → Bool) → List Interval → List Interval
runs_starting test runs = filter (λ run. test run.first) runs

-- The runs that start below the rank.
abbrev pub runs_below : ℕ → List Interval → List Interval
runs_below rank runs = runs_starting (λ start. nat_lt start rank) runs

-- The runs that start past the rank.
abbrev pub runs_past : ℕ → List Interval → List Interval
runs_past rank runs = runs_starting (λ start. nat_lt rank start) runs

-- The runs that start at the rank or past it.
abbrev pub starting_from : ℕ → List Interval → List Interval
starting_from rank runs = runs_starting (λ start. nat_le rank start) runs

-- The runs that do not start at the rank.
abbrev pub without_start : ℕ → List Interval → List Interval
without_start rank runs = runs_starting (λ start. not (start == rank)) runs

-- The runs with one more inserted where its start belongs. It replaces any run with the same start.
abbrev pub with_run : Interval → List Interval → List Interval
with_run run runs = runs_below run.first runs ++ run ∷ runs_past run.first runs

-- Whether the starts ascend strictly, from `low` or later, and are below n.
abbrev pub StartsAscendFrom : ℕ → ℕ → List Interval → Type 0
StartsAscendFrom n low [] = Unit {0}
StartsAscendFrom n low (run ∷ runs) = record {
  starts : low ≤ run.first;
  in_type : run.first < n;
  rest : StartsAscendFrom n (run.first + 1) runs;
}

-- ---- one run among others

-- Whether the run is the last of those that start below the rank.
pub record IsLastBelow (runs : List Interval) (bound : ℕ) (run : Interval) : Type 0 where
  pub among : Contains runs run
  pub starts : run.first < bound
  pub last : (other : Interval) → Contains runs other → other.first < bound
      → other.first ≤ run.first

-- Whether no run starts below the rank.
abbrev pub NoneBelow : List Interval → ℕ → Type 0
NoneBelow runs bound = (run : Interval) → Contains runs run → run.first < bound → ⊥

-- Whether `last` is the last run that starts below the rank, and `before` the last one before it.
-- Each is `None` if there is no such run.
abbrev pub IsLastTwo : {T : Type 0} → (T → ℕ) → List Interval → ℕ → Option (Run T) → Option (Run T)
    → Type 0
IsLastTwo rank runs bound last before = MatchOption last (NoneBelow runs bound)
    (λ run. IsLastBelow runs bound (run_of rank run)
    × MatchOption before (NoneBelow runs (rank run.start))
    (λ other. IsLastBelow runs (rank run.start) (run_of rank other)))

-- Whether this item is the last of the list.
pub record EndsWith {X : Type 0} (items : List X) (last : X) : Type 0 where
  pub front : List X
  pub parts : items ≡ front ++ last ∷ []

-- Whether this item is the first of the list.
pub record StartsWith {X : Type 0} (items : List X) (first : X) : Type 0 where
  pub rest : List X
  pub parts : items ≡ first ∷ rest

-- Whether none of the ranks from `first` to `last`, or next to them, is a member.
abbrev pub LeavesApart : List Interval → ℕ → ℕ → Type 0
LeavesApart runs first last = (rank : ℕ) → first ≤ rank + 1 → rank ≤ last + 1 → members runs rank ≡ false

-- ---- one more run, or one fewer

-- Whether one list differs from the other only by one more run, which touches no other.
pub record IsJoined (n : ℕ) (fewer : List Interval) (run : Interval) (more : List Interval) : Type 0
  where
    pub fewer_canonical : IsCanonicalIn n fewer
    pub more_canonical : IsCanonicalIn n more
    pub free : LeavesApart fewer run.first run.last
    pub has : (rank : ℕ) → members more rank ≡ (members fewer rank || covers run rank)
    pub counted : count n (members more) ≡ count n (members fewer) + length_of run

-- Whether the gap that contains the point ends at this rank. No rank past the point and up to this
-- one is a member. The next rank is a member or past the end of the type.
pub record IsGapEnd (n : ℕ) (runs : List Interval) (point rank : ℕ) : Type 0 where
  pub from : point ≤ rank
  pub in_type : rank < n
  pub free : (other : ℕ) → point < other → other ≤ rank → members runs other ≡ false
  pub ends : rank + 1 < n → members runs (rank + 1) ≡ true
