-- The lengths of prefixes, in decimal without a leading zero.
use Rattle.std.proofs.Common.{◌≡◌, ◌∙◌, ℕ, ◌^◌, ◌<◌, true, List, [], ◌∷◌, length, get_or, refl, sym, ap, inl, inr, arith}
use Rattle.std.proofs.lemmas.Bool.{cases_lt}
use Rattle.std.proofs.lemmas.Bool.Decides.{nat_tests}
use Rattle.std.proofs.lemmas.Fmt.{decimal_is_IsNumeral, decimal_digit, first_decimal, decimal-digits_value}
use Rattle.std.proofs.lemmas.Str.Parse.{digit_from_value, numerals_by_value, tells_digits}
use Rattle.std.specs.Char.{digit_value, is_ascii_digit}
use Rattle.std.specs.Fmt.{decimal}
use Rattle.std.specs.List.{list_all}
use Rattle.std.specs.Str.Parse.{AllDigits, IsNumeral, digits_value}
use Rattle.ip_sets.specs.AddressRange.{WritesLength}

-- A number in decimal has one digit or does not begin with 0.
one_or_no_zero : (n : ℕ) → n < 2 ^ 32 → 1 < length (decimal n) → get_or (decimal n) 0 0 ≡ 48 → ⊥
one_or_no_zero n fits long zero_first = elim (cases_lt n 10) [
  | inl one ↦ absurd (omega (arith, long, ap length (decimal_digit n one)))
  | inr more ↦
      let first = first_decimal n (omega arith) (omega arith) in
      absurd (omega (arith, first, zero_first))
]

-- A text of two bytes or more that begins with 0 is no number in decimal.
pub no_zero_first : (text : List ℕ) (n : ℕ) → 1 < length text → get_or text 0 0 ≡ 48
    → n < 2 ^ 32 → text ≡ decimal n → ⊥
no_zero_first text n long zero_first fits is =
    one_or_no_zero n fits (rw is at long) (rw is at zero_first)

-- The digits of a number in decimal have its value.
pub value_of_decimal : (text : List ℕ) (n : ℕ) → n < 2 ^ 32 → text ≡ decimal n
    → IsNumeral 10 text × (digits_value 10 text ≡ n)
value_of_decimal text n fits is = rw is (decimal_is_IsNumeral n (omega arith))

-- Digits without a leading zero are their value in decimal.
pub decimal_of_value : (text : List ℕ) (n : ℕ) → IsNumeral 10 text → digits_value 10 text ≡ n
    → n < 2 ^ 32 → (get_or text 0 0 ≡ 48 → length text ≡ 1) → text ≡ decimal n
decimal_of_value text n numeral value fits alone =
    let small : digits_value 10 text < 2 ^ 64 = omega arith in
    sym (decimal-digits_value (numerals_by_value _ tells_digits) text numeral.1 numeral.0 alone
    small)
    ∙ ap decimal value

-- ---- lengths in decimal

-- A byte with the value of a digit is a digit.
is_digit : (byte : ℕ) → digit_value byte < 10 → is_ascii_digit byte ≡ true
is_digit byte small = let between = digit_from_value byte small in grind (arith, nat_tests)

-- Digits pass the test for digits.
digits_pass : (text : List ℕ) → AllDigits 10 text → list_all is_ascii_digit text ≡ true
digits_pass [] all = refl
digits_pass (byte ∷ text) all = rw (is_digit byte all.0) (digits_pass text all.1)

-- A number in decimal writes a length.
pub decimal_length : (bits : ℕ) (IsAddress : List ℕ → ℕ → Type 0) (text : List ℕ) (n : ℕ)
    → n < 2 ^ 64 → text ≡ decimal n → WritesLength bits IsAddress text n
decimal_length bits IsAddress text n fits is =
    rw (ap (list_all is_ascii_digit) is
    ∙ digits_pass (decimal n) (decimal_is_IsNumeral n fits).0.1) is
