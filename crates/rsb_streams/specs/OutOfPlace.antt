-- The first position at which a list of ranges breaks a law.
use Rattle.std.specs.Prelude.{ℕ, ◌+◌, ◌<◌, List, length, take, Option, Some, None}
use Rattle.rsb_integer.specs.Runs.{Interval}
use Rattle.rsb_streams.specs.declared.out_of_place.Spacing.{Spacing}
use Rattle.rsb_streams.specs.declared.out_of_place.Spacing.TheVariants.{Apart, Touching}

-- Whether the intervals before the position satisfy the law, but no longer do if the one at the
-- position is added.
pub record IsFirstBad (law : List Interval → Type 0) (runs : List Interval) (position : ℕ)
    : Type 0 where
  pub within : position < length runs
  pub before : law (take position runs)
  pub broken : ¬ (law (take (position + 1) runs))

-- How far past the end of a range the next one may start: with a rank between, or right after it.
abbrev pub gap_of : Spacing → ℕ
gap_of Apart = 2
gap_of Touching = 1

-- Where a range may start after one with the given end, if there is one before it.
abbrev pub start_after : {T : Type 0} → (T → ℕ) → ℕ → Option T → ℕ
start_after rank gap None = 0
start_after rank gap (Some end) = rank end + gap
