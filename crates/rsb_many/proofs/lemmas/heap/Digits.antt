-- How many binary digits numbers have.
use Rattle.std.proofs.Common.{◌≡◌, ℕ, zero, suc, ◌+◌, ◌-◌, ◌/◌, ◌<◌, ◌≤◌, true, false, cond, nat_lt, refl, ap, ◌∙◌, arith}
use Rattle.std.proofs.lemmas.Bool.Decides.{nat_tests}
use Rattle.rsb_many.specs.HeapOrder.{parent}
use Rattle.rsb_many.specs.Heads.{binary_digits, digits_within}

-- Counting with more steps than a number needs gives the same number of digits.
digits_within-enough : (least most n : ℕ) → n ≤ least → least ≤ most
    → digits_within least n ≡ digits_within most n
digits_within-enough zero zero n small within = refl
digits_within-enough zero (suc most) n small within =
    let nothing : nat_lt 0 n ≡ false = grind (arith, nat_tests) in
    rw nothing refl
digits_within-enough (suc least) zero n small within = absurd (omega arith)
digits_within-enough (suc least) (suc most) n small within =
    ap (λ digits. cond (nat_lt 0 n) (suc digits) 0)
    (digits_within-enough least most (n / 2) (omega arith) (omega arith))

-- A number other than 0 has one digit more than its half.
pub binary_digits-half : (n : ℕ) → 0 < n → binary_digits n ≡ binary_digits (n / 2) + 1
unfolding binary_digits
binary_digits-half zero some = absurd (omega arith)
binary_digits-half (suc n) some =
    let above : nat_lt 0 (suc n) ≡ true = grind (arith, nat_tests) in
    let more : digits_within (suc n) (suc n) ≡ suc (digits_within n (suc n / 2)) =
    ap (λ test. cond test (suc (digits_within n (suc n / 2))) 0) above in
    let half = digits_within-enough (suc n / 2) n (suc n / 2) (omega arith) (omega arith) in
    omega (arith, more, half)

-- A greater number has no fewer digits, if both are counted with the same number of steps.
digits_within-more : (most least n : ℕ) → least ≤ n
    → digits_within most least ≤ digits_within most n
digits_within-more zero least n less = omega arith
digits_within-more (suc most) least n less =
    let halves = digits_within-more most (least / 2) (n / 2) (omega arith) in
    grind (arith, nat_tests, halves)

-- A greater number has no fewer digits.
pub binary_digits-more : (least n : ℕ) → least ≤ n → binary_digits least ≤ binary_digits n
unfolding binary_digits
binary_digits-more least n less =
    let same = digits_within-enough least n least (omega arith) less in
    let more = digits_within-more n least n less in
    omega (arith, same, more)

-- A number other than 0 has at least one digit.
pub binary_digits-some : (n : ℕ) → 1 ≤ binary_digits (n + 1)
binary_digits-some n = let half = binary_digits-half (n + 1) (omega arith) in omega (arith, half)

-- The number of a place other than the first has one digit more than that of its parent.
pub binary_digits-parent : (place : ℕ) → 0 < place
    → binary_digits (place + 1) ≡ binary_digits (parent place + 1) + 1
binary_digits-parent place some =
    let half : (place + 1) / 2 ≡ parent place + 1 = omega arith in
    binary_digits-half (place + 1) (omega arith) ∙ ap (λ n. binary_digits n + 1) half

-- The number of a place in a list has at most one digit more than the length of the list.
pub binary_digits-within : (place count : ℕ) → place ≤ count - 1
    → binary_digits (place + 1) ≤ binary_digits count + 1
unfolding binary_digits
binary_digits-within place zero within =
    let none : place ≡ 0 = omega arith in
    rw none (omega arith)
binary_digits-within place (suc count) within =
    let more = binary_digits-more (place + 1) (suc count) (omega arith) in
    omega (arith, more)
