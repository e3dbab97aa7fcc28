-- A set split at a rank.
use Rattle.std.specs.Prelude.{◌≡◌, ℕ, nat_le, ◌+◌, ◌<◌, ◌≤◌, List, Contains}
use Rattle.rsb_integer.specs.Runs.{Interval, members, IsCanonicalIn}
use Rattle.rsb_integer.specs.Selection.{Selection, count, intersection}
use Rattle.rsb_storage.specs.Set.{IsSetOf, Removes}

-- The rank and all ranks past it.
abbrev pub from_on : ℕ → Selection
from_on rank other = nat_le rank other

-- Whether no run that starts below the point reaches it.
abbrev pub NoneOver : List Interval → ℕ → Type 0
NoneOver runs point = (run : Interval) → Contains runs run → run.first < point
    → point ≤ run.last → ⊥

-- Whether the runs are split at the point into low and high ones, both canonical. The low ones have
-- the members below it, and the high ones have the others.
pub record IsParting (n : ℕ) (old low high : List Interval) (point : ℕ) : Type 0 where
  pub low_canonical : IsCanonicalIn n low
  pub high_canonical : IsCanonicalIn n high
  pub below : Removes old low (from_on point)
  pub from : IsSetOf high (intersection (members old) (from_on point))
  pub counted : count n (members low) + count n (members high) ≡ count n (members old)
