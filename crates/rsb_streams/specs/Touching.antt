-- Lists of intervals that ascend with a given gap, and those that may touch.
use Rattle.std.specs.Prelude.{ℕ, ◌+◌, ◌≤◌, List, [], ◌∷◌}
use Rattle.rsb_integer.specs.Runs.{Interval, AllEndBelow}

-- Whether the intervals are non-empty, the first starts at `low` or later, and each other one
-- starts at `gap` past the last rank of the one before, or later.
abbrev pub IsSpacedFrom : ℕ → ℕ → List Interval → Type 0
IsSpacedFrom gap low [] = Unit {0}
IsSpacedFrom gap low (run ∷ runs) = record {
  starts : low ≤ run.first;
  in_order : run.first ≤ run.last;
  rest : IsSpacedFrom gap (run.last + gap) runs;
}

-- Whether the list is spaced in this way, wherever it starts, and within a type of n values.
pub record IsSpacedIn (gap n : ℕ) (runs : List Interval) : Type 0 where
  pub spaced : IsSpacedFrom gap 0 runs
  pub within : AllEndBelow n runs

-- Whether the intervals are non-empty, the first starts at `low` or later, and each other one
-- starts past the end of the one before.
abbrev pub IsTouchingFrom : ℕ → List Interval → Type 0
IsTouchingFrom low runs = IsSpacedFrom 1 low runs

-- Whether the intervals are non-empty, ascend, and do not overlap. They may touch.
abbrev pub IsTouching : List Interval → Type 0
IsTouching runs = IsTouchingFrom 0 runs

-- Whether the list is such a list, and within a type of n values.
abbrev pub IsTouchingIn : ℕ → List Interval → Type 0
IsTouchingIn n runs = IsSpacedIn 1 n runs
