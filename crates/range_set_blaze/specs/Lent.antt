-- Values and ranges that an iterator gives by reference.
use denote.Ref.{Bor}
use Rattle.std.specs.Prelude.{◌≡◌, ℕ, List, map, Option, None, Some, MatchOption}
use Rattle.std.specs.declared.ops.RangeInclusive.{RangeInclusive}
use Rattle.rsb_integer.specs.Rank.{interval_of}
use Rattle.rsb_integer.specs.Runs.{covers}
use Rattle.range_set_blaze.specs.declared.set.collect.by_reference.LentRanges.{LentRanges}

-- The values that the references point to.
abbrev pub pointed_to : {T : Type 0} → List (Bor T) → List T
pointed_to lent = map (λ item. item.now) lent

-- Whether two ranges have the same ranks.
abbrev pub HaveSameRanks : {T : Type 0} → (T → ℕ) → RangeInclusive T → RangeInclusive T → Type 0
HaveSameRanks rank one other = (point : ℕ)
    → covers (interval_of rank one) point ≡ covers (interval_of rank other) point

-- Whether a call returns a range with the ranks of the one that the inner iterator gives by
-- reference.
abbrev pub lent_steps : {T I : Type 0} → (T → ℕ)
    → (I → Option (Bor (RangeInclusive T)) → I → Type 0) → LentRanges I
    → Option (RangeInclusive T) → LentRanges I → Type 0
lent_steps {T} rank steps s answer t = MatchOption answer (steps s.ranges None t.ranges) (λ range.
    (lent : Bor (RangeInclusive T)) × steps s.ranges (Some lent) t.ranges
    × HaveSameRanks rank range lent.now)
