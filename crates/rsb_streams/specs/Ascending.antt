-- Streams of which one law about a single call is known: where its range is, and where the next one
-- may start.
use Rattle.std.specs.Prelude.{ℕ, ◌+◌, ◌<◌, ◌≤◌}
use Rattle.std.specs.Iterator.{Count, IsNearerEnd}
use Rattle.std.specs.declared.ops.RangeInclusive.{RangeInclusive}
use Rattle.rsb_integer.specs.Rank.{interval_of}

module _ {S T : Type 0} (rank : T → ℕ) (n : ℕ) (can_next : S → Type 0) (remaining : S → Count)
    (low : S → ℕ) where
  -- Whether the range of a call from `s` is non-empty, is within the type, and starts at `low s` or
  -- later. Whatever comes after it starts at `gap` past its end, or later, and fewer ranges are
  -- still to come.
  pub record AscendsBy (gap : ℕ) (s : S) (range : RangeInclusive T) (t : S) : Type 0 where
    pub from_low : low s ≤ (interval_of rank range).first
    pub in_order : (interval_of rank range).first ≤ (interval_of rank range).last
    pub in_type : (interval_of rank range).last < n
    pub past : (interval_of rank range).last + gap ≤ low t
    pub nearer : IsNearerEnd can_next remaining s t

  -- The same, with at least one rank between the range and what comes after it.
  abbrev pub Ascends : S → RangeInclusive T → S → Type 0
  Ascends = AscendsBy 2

  -- The same, except that what comes after the range may touch it.
  abbrev pub AscendsTouching : S → RangeInclusive T → S → Type 0
  AscendsTouching = AscendsBy 1
