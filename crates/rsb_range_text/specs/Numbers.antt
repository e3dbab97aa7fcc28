-- Element types whose values are whole numbers, written in decimal.
use Rattle.std.specs.Prelude.{◌≡◌, ℕ, ℤ, ◌^◌, ◌<◌, ◌≤◌, Bool, List, Option, Some, unsigned_abs}
use Rattle.std.specs.Fmt.{signed_decimal}
use Rattle.rsb_range_text.specs.Text.{signed_by}

-- Whether each number of the type is one value, which is written in decimal. If a number is of the
-- type, so is every number of the same sign and smaller magnitude.
pub record AreNumbers {T : Type 0} (rank : T → ℕ) (n : ℕ) (number : T → ℤ) (fits : ℤ → Type 0)
    (written : T → Option (List ℕ)) : Type 0 where
  pub differ : (x y : T) → number x ≡ number y → x ≡ y
  pub all : (z : ℤ) → fits z → (x : T) × (number x ≡ z)
  pub lower : (negative : Bool) (low high : ℕ) → low ≤ high → fits (signed_by negative high)
      → fits (signed_by negative low)
  pub of_type : (x : T) → rank x < n → fits (number x)
  pub short : (z : ℤ) → fits z → unsigned_abs z < 10 ^ 64
  pub decimal : (x : T) → written x ≡ Some (signed_decimal (number x))
