-- The values of the number types are whole numbers, written in decimal.
use Rattle.std.specs.Prelude.{◌≡◌, ℕ, ℤ, pos, negsuc, zero, suc, ◌*◌, ◌^◌, ◌<◌, ◌≤◌, Bool, true, false, Some, decimal, unsigned_abs}
use Rattle.std.specs.Fmt.{signed_decimal}
use Rattle.std.specs.Int.{FitsUnsignedBits, Width}
use Rattle.std.specs.Int.RustNames.{FitsSigned}
use Rattle.std.proofs.Common.{arith, refl, lit<}
use Rattle.std.proofs.lemmas.Bool.Decides.{nat_tests}
use Rattle.std.proofs.lemmas.Nat.{pow_pos}
use Rattle.rsb_integer.specs.Rank.{signed_rank}
use Rattle.rsb_range_text.specs.Numbers.{AreNumbers}
use Rattle.rsb_range_text.specs.Text.{signed_by}
use mir.Val.{hbits}

below : (a b c d : ℕ) → a < b → b ≤ c → c < d → a < d
below a b c d less most last = omega arith

-- ---- unsigned types

module _ (k : ℕ) where
  unsigned-differ : (x y : ℕ) → pos x ≡ pos y → x ≡ y
  unsigned-differ x y same = cc

  unsigned-all : (z : ℤ) → FitsUnsignedBits k z → (x : ℕ) × (pos x ≡ z)
  unsigned-all (pos m) fit = (m, refl)
  unsigned-all (negsuc m) fit = absurd fit

  unsigned-lower : (negative : Bool) (low high : ℕ) → low ≤ high
      → FitsUnsignedBits k (signed_by negative high) → FitsUnsignedBits k (signed_by negative low)
  unsigned-lower false low high most fit = omega arith
  unsigned-lower true zero zero most fit = fit
  unsigned-lower true (suc low) zero most fit = absurd (omega arith)
  unsigned-lower true low (suc high) most fit = absurd fit

  unsigned-short : 2 ^ k ≤ 2 ^ 128 → (z : ℤ) → FitsUnsignedBits k z → unsigned_abs z < 10 ^ 64
  unsigned-short small (pos m) fit = below m (2 ^ k) (2 ^ 128) (10 ^ 64) fit small (lit< tt)
  unsigned-short small (negsuc m) fit = absurd fit

  pub unsigned-numbers : 2 ^ k ≤ 2 ^ 128
      → AreNumbers (λ x. x) (2 ^ k) (λ x. pos x) (FitsUnsignedBits k) (λ x. Some (decimal x))
  unsigned-numbers small = record {
    differ = unsigned-differ;
    all = unsigned-all;
    lower = unsigned-lower;
    of_type = λ x less. less;
    short = unsigned-short small;
    decimal = λ x. refl;
  }

-- ---- signed types

module _ (w : Width) where
  signed-of_type : (z : ℤ) → signed_rank w z < 2 * 2 ^ hbits w → FitsSigned w z
  signed-of_type (pos m) less = record { sfits = omega arith }
  signed-of_type (negsuc m) less = record { sfits = grind (arith, nat_tests) }

  signed-lower : (negative : Bool) (low high : ℕ) → low ≤ high → FitsSigned w (signed_by negative high)
      → FitsSigned w (signed_by negative low)
  signed-lower false low high most fit =
      let less = fit.sfits in record { sfits = omega arith }
  signed-lower true zero high most fit = record { sfits = pow_pos (hbits w) }
  signed-lower true (suc low) zero most fit = absurd (omega arith)
  signed-lower true (suc low) (suc high) most fit =
      let less = fit.sfits in record { sfits = omega arith }

  signed-short : 2 ^ hbits w ≤ 2 ^ 128 → (z : ℤ) → FitsSigned w z → unsigned_abs z < 10 ^ 64
  signed-short small (pos m) fit = below m (2 ^ hbits w) (2 ^ 128) (10 ^ 64) fit.sfits small (lit< tt)
  signed-short small (negsuc m) fit =
      let less = fit.sfits in
      let most : suc m ≤ 2 ^ hbits w = omega arith in
      let wide : 2 ^ 128 < 10 ^ 64 = lit< tt in
      last (suc m) (2 ^ hbits w) (2 ^ 128) (10 ^ 64) most small wide
    where
      last : (a b c d : ℕ) → a ≤ b → b ≤ c → c < d → a < d
      last a b c d one two three = omega arith

  pub signed-numbers : 2 ^ hbits w ≤ 2 ^ 128
      → AreNumbers (signed_rank w) (2 * 2 ^ hbits w) (λ z. z) (FitsSigned w) (λ z. Some (signed_decimal z))
  signed-numbers small = record {
    differ = λ x y same. same;
    all = λ z fit. (z, refl);
    lower = signed-lower;
    of_type = signed-of_type;
    short = signed-short small;
    decimal = λ z. refl;
  }
