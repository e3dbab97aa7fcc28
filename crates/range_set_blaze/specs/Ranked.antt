-- The part of a run below a rank.
use Rattle.std.specs.Prelude.{◌≡◌, ℕ, ◌+◌, ◌<◌, min}
use Rattle.rsb_integer.specs.Runs.{Interval}

-- Whether the part has exactly the ranks of the run below the bound, and at least one.
pub record IsPartBelow (run : Interval) (bound : ℕ) (part : Interval) : Type 0 where
  pub some : run.first < bound
  pub first : part.first ≡ run.first
  pub last : part.last + 1 ≡ min (run.last + 1) bound
