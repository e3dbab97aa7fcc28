-- The ranks of values, and ranges of values as intervals of ranks.
use Rattle.std.specs.Prelude.{ℕ, ℤ, pos, negsuc, false, cond, map, ◌+◌, ◌-◌, ◌*◌, ◌^◌, nat_lt, List}
use Rattle.std.specs.Int.{Width}
use Rattle.std.specs.Range.{range_inclusive_start, range_inclusive_end, range_inclusive_exhausted}
use Rattle.std.specs.declared.ops.RangeInclusive.{RangeInclusive}
use Rattle.rsb_integer.specs.Runs.{Interval}
use mir.Val.{hbits}

-- The range from one value to another.
abbrev pub range_of : {T : Type 0} → T × T → RangeInclusive T
range_of ends = record { start = ends.0; end = ends.1; exhausted = false }

-- The range of each pair of ends.
abbrev pub ranges_of : {T : Type 0} → List (T × T) → List (RangeInclusive T)
ranges_of pairs = map range_of pairs

-- The ranks of a range. A range that was iterated to its end has none.
abbrev pub interval_of : {T : Type 0} → (T → ℕ) → RangeInclusive T → Interval
interval_of rank range = cond (range_inclusive_exhausted range)
    (record { first = 1; last = 0 })
    (record { first = rank (range_inclusive_start range); last = rank (range_inclusive_end range) })

-- The ranks of each range of a list.
abbrev pub intervals_of : {T : Type 0} → (T → ℕ) → List (RangeInclusive T) → List Interval
intervals_of rank ranges = map (interval_of rank) ranges

-- The rank of a signed number: the negative numbers come first. A number that does not fit gets a
-- rank past all values.
abbrev pub signed_rank : Width → ℤ → ℕ
signed_rank width (pos n) = 2 ^ hbits width + n
signed_rank width (negsuc n) =
    cond (nat_lt n (2 ^ hbits width)) (2 ^ hbits width - 1 - n) (2 * 2 ^ hbits width)

-- The signed number with a given rank.
abbrev pub signed_value : Width → ℕ → ℤ
signed_value width rank =
    cond (nat_lt rank (2 ^ hbits width)) (negsuc (2 ^ hbits width - 1 - rank))
    (pos (rank - 2 ^ hbits width))

-- The rank of a character, from its code. Past the 2048 codes that are not characters, the rank is
-- 2048 less than the code. Those codes themselves get a rank past all characters.
abbrev pub scalar_rank : ℕ → ℕ
scalar_rank code = cond (nat_lt code 0xD800) code (cond (nat_lt code 0xE000) 1112064 (code - 2048))

-- The code of the character with a given rank.
abbrev pub scalar_value : ℕ → ℕ
scalar_value rank = cond (nat_lt rank 0xD800) rank (rank + 2048)
