-- The weekends of a year of 365 days that begins on a Sunday, as ranks of the numbers of its days.
use Rattle.std.specs.Prelude.{ℕ, zero, suc, ◌+◌, ◌*◌, ◌^◌, List, [], ◌∷◌}
use Rattle.range_set_blaze.specs.Runs.{Interval}

-- The rank in `i32` of the number of a day.
abbrev pub rank_of_day : ℕ → ℕ
rank_of_day day = 2 ^ 31 + day

-- The Saturday at the end of the given number of weeks, and the Sunday after it.
abbrev pub weekend_after : ℕ → Interval
weekend_after weeks =
    record { first = rank_of_day (7 * weeks); last = rank_of_day (7 * weeks + 1) }

-- The given number of weekends, of which the first is at the end of the given number of weeks.
abbrev pub weekends_after : ℕ → ℕ → List Interval
weekends_after weeks zero = []
weekends_after weeks (suc more) = weekend_after weeks ∷ weekends_after (weeks + 1) more

-- The first day, a Sunday whose Saturday lies in the year before, and fifty-two weekends.
unfoldable pub weekends : List Interval
weekends = record { first = rank_of_day 1; last = rank_of_day 1 } ∷ weekends_after 1 52
