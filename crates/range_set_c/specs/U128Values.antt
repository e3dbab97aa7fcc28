-- The numbers that values and counts of C stand for.
use Rattle.std.specs.Prelude.{ℕ, ◌+◌, ◌-◌, ◌*◌, ◌^◌}
use Rattle.rsb_length.specs.UIntPlusOne.{number_of}
use Rattle.rsb_length.specs.declared.uint_plus_one.UIntPlusOne.{UIntPlusOne}
use Rattle.range_set_c.specs.declared.u128_values.Count.{Count}
use Rattle.range_set_c.specs.declared.u128_values.Value.{Value}

-- The number that two words stand for.
unfoldable pub number : Value → ℕ
number value = value.low + 2 ^ 64 * value.high

-- The number of members that three words stand for.
unfoldable pub total : Count → ℕ
total count = count.low + 2 ^ 64 * count.high + 2 ^ 128 * count.top

-- The number that a length of a set of `u128` stands for.
abbrev pub length_number : UIntPlusOne ℕ → ℕ
length_number = number_of (λ value. value) (2 ^ 128 - 1)
