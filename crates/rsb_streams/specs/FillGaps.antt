-- The runs and gaps of a set, in one list.
use Rattle.std.specs.Prelude.{ℕ, Bool, cond, ◌+◌, ◌≤◌, List, [], ◌∷◌}
use Rattle.rsb_integer.specs.Runs.{Interval, AreRuns}
use Rattle.rsb_integer.specs.Selection.{Selection, complement}

-- The intervals marked `true`, as runs, in order.
abbrev pub marked_runs : List (Interval × Bool) → List Interval
marked_runs [] = []
marked_runs (pair ∷ pairs) = cond pair.1 (pair.0 ∷ marked_runs pairs) (marked_runs pairs)

-- The intervals marked `false`, as gaps, in order.
abbrev pub marked_gaps : List (Interval × Bool) → List Interval
marked_gaps [] = []
marked_gaps (pair ∷ pairs) = cond pair.1 (marked_gaps pairs) (pair.0 ∷ marked_gaps pairs)

-- Whether the first interval starts at `low` or later, and each other one starts past the start of
-- the one before.
abbrev pub IsAscendingFrom : ℕ → List (Interval × Bool) → Type 0
IsAscendingFrom low [] = Unit {0}
IsAscendingFrom low (pair ∷ pairs) =
    (low ≤ pair.0.first) × IsAscendingFrom (pair.0.first + 1) pairs

-- Whether the list ascends and has exactly the runs of the set with `true` and those of its
-- complement with `false`, in a type of n values.
pub record IsFilledList (n : ℕ) (selected : Selection) (pairs : List (Interval × Bool)) : Type
    0 where
  pub ascending : IsAscendingFrom 0 pairs
  pub runs : AreRuns n selected (marked_runs pairs)
  pub gaps : AreRuns n (complement selected) (marked_gaps pairs)
