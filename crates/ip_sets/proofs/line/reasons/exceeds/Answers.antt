use Rattle.std.proofs.Common.{◌≡◌, ◌==◌, ◌∙◌, ℕ, ◌<◌, ◌≤◌, ◌^◌, Bool, true, false, List, [], ◌∷◌, length, nat_lt, refl, sym, ap, arith}
use Rattle.std.proofs.lemmas.Bool.{false≢true}
use Rattle.std.proofs.lemmas.Bool.Decides.{nat_tests}
use Rattle.std.specs.Char.{digit_value, is_ascii_digit}
use Rattle.std.specs.List.{list_all}
use Rattle.std.specs.Str.Parse.{AllDigits, IsNumeral, digits_value}
use Rattle.ip_sets.specs.Reason.{exceeds}
use Rattle.ip_sets.proofs.line.reasons.exceeds.Goals as goal

-- A digit has a value.
digit_has_value : (byte : ℕ) → is_ascii_digit byte ≡ true → digit_value byte < 10
digit_has_value byte is = grind (arith, nat_tests)

-- Bytes that pass the test are digits.
all_digits : (text : List ℕ) → list_all is_ascii_digit text ≡ true → AllDigits 10 text
all_digits [] all = tt
all_digits (byte ∷ text) all = by (is_ascii_digit byte) refl (λ others. all_digits text others)
  where
    by : (digit : Bool) → is_ascii_digit byte ≡ digit
        → (list_all is_ascii_digit text ≡ true → AllDigits 10 text) → AllDigits 10 (byte ∷ text)
    by true is later = (digit_has_value byte is, later (rw is at all))
    by false is later = absurd (false≢true (rw is at all))

-- A number that was read is compared.
read : (most number : ℕ) (text : List ℕ) → list_all is_ascii_digit text ≡ true
    → number ≡ digits_value 10 text → nat_lt most number ≡ exceeds most text
read most number text all is = rw all (ap (nat_lt most) is)

-- A number that was not read is too great for 32 bits.
unread : (most : ℕ) (text : List ℕ) → most < 2 ^ 32 → 0 < length text
    → list_all is_ascii_digit text ≡ true
    → ¬ (IsNumeral 10 text × (digits_value 10 text < 2 ^ 32)) → true ≡ exceeds most text
unread most text fits some all none =
    rw all (by (nat_lt most (digits_value 10 text)) refl)
  where
    by : (above : Bool) → nat_lt most (digits_value 10 text) ≡ above → true ≡ above
    by true is = refl
    by false is =
        let small : digits_value 10 text ≤ most = grind (arith, nat_tests) in
        absurd (none ((some, all_digits text all), omega (arith, small, fits)))

-- A text that is not empty has a byte.
has_bytes : (text : List ℕ) → false ≡ (length text == 0) → 0 < length text
has_bytes [] some = absurd (false≢true some)
has_bytes (byte ∷ text) some = omega arith

pub returns-in-Some : goal.returns-in-Some
returns-in-Some c = read c.args.most c.in-Some.number c.args.text.now
    (sym c.has_only_digits.ensures ∙ c.if-not-has_only_digits.false) (c.in-Some.ensures).1

pub returns-in-None : goal.returns-in-None
returns-in-None c = unread c.args.most c.args.text.now c.ranges.most.fits
    (has_bytes c.args.text.now c.if-is_empty.ensures)
    (sym c.has_only_digits.ensures ∙ c.if-not-has_only_digits.false) c.in-None.ensures
