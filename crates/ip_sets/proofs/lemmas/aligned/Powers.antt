-- Powers of 2, and which of them divide a number.
use Rattle.std.specs.Int.{◌∣◌}
use Rattle.std.proofs.Common.{◌≡◌, ℕ, zero, suc, ◌+◌, ◌-◌, ◌*◌, ◌/◌, ◌%◌, ◌^◌, ◌<◌, ◌≤◌, zero-le, suc-le-suc, refl, sym, ap, ◌∙◌, subst, inl, inr, arith}
use Rattle.std.proofs.Math.Nat.{dvd-mul_left, dvd-mul_right, dvd-sub, dvd_of_mod-eq-zero, dvd_of_mul-dvd-mul_right, dvd_trans, le_of_dvd, mod-eq-zero_of_dvd, mod-one, mul-dvd-mul_right, pow-le-pow_right, pow-suc}
use Rattle.std.proofs.lemmas.Bool.{cases_lt}
use Rattle.std.proofs.lemmas.Nat.{pow-add}
use lib.Count.{count_trailing_zeros, under}

-- ---- powers of 2

-- A greater exponent gives a greater power.
pub pow-most : (i j : ℕ) → i ≤ j → 2 ^ i ≤ 2 ^ j
pow-most i j less = let some : 0 < 2 = omega arith in pow-le-pow_right some less

-- A power below twice another has at most its exponent.
pub pow-under : (i j : ℕ) → 2 ^ i < 2 * 2 ^ j → i ≤ j
pow-under i j less = elim (cases_lt j i) [
  | inl past ↦
      let up = pow-most (suc j) i past in
      let twice = pow-suc 2 j in
      absurd (omega (arith, up, twice, less))
  | inr most ↦ most
]

-- A power of 2 divides each greater one.
pub pow-divides : (i j : ℕ) → i ≤ j → 2 ^ i ∣ 2 ^ j
pow-divides i j less =
    let split : j ≡ i + (j - i) = omega arith in
    subst (λ n. 2 ^ i ∣ n) (sym (ap (λ k. 2 ^ k) split ∙ pow-add 2 i (j - i)))
    (dvd-mul_right (2 ^ i) (2 ^ (j - i)))

-- ---- multiples

-- There is no multiple of a number between one multiple and the next.
pub none_between : (size low number : ℕ) → size ∣ low → size ∣ number → low < number
    → number < low + size → ⊥
none_between size low number divides also above below =
    let gap : 0 < number - low = omega arith in
    let most = le_of_dvd gap (dvd-sub size also divides) in
    omega (arith, most, above, below)

-- ---- how many zeros a number ends in

-- 1 divides every number.
one-divides : (n : ℕ) → 1 ∣ n
one-divides n = dvd_of_mod-eq-zero 1 (mod-one n)

-- One more digit. The cases are whether it is 0.
divides-under : (n digit power : ℕ) → n % 2 ≡ digit → 2 ^ power ∣ n / 2
    → 2 ^ under digit power ∣ n
divides-under n zero power is half =
    let whole : n / 2 * 2 ≡ n = omega (arith, is) in
    subst (λ m. m ∣ n) (sym (pow-suc 2 power))
    (subst (λ m. 2 ^ power * 2 ∣ m) whole (mul-dvd-mul_right (2 ^ power) half 2))
divides-under n (suc digit) power is half = one-divides n

-- The power of 2 with as many zeros as a number ends in divides the number.
pub trailing-divides : (digits n : ℕ) → 2 ^ count_trailing_zeros digits n ∣ n
unfolding count_trailing_zeros
trailing-divides zero n = one-divides n
trailing-divides (suc digits) n =
    divides-under n (n % 2) (count_trailing_zeros digits (n / 2)) refl
    (trailing-divides digits (n / 2))

-- No greater power of 2 divides the number.
pub trailing-most : (digits n power : ℕ) → power ≤ digits → 2 ^ power ∣ n
    → power ≤ count_trailing_zeros digits n
unfolding count_trailing_zeros
trailing-most zero n power within divides = within
trailing-most (suc digits) n zero within divides = zero-le
trailing-most (suc digits) n (suc power) within divides =
    let twice = subst (λ m. m ∣ n) (pow-suc 2 power) divides in
    let even : n % 2 ≡ 0 =
    mod-eq-zero_of_dvd 2 (dvd_trans 2 (dvd-mul_left 2 (2 ^ power)) twice) in
    let whole : n / 2 * 2 ≡ n = omega (arith, even) in
    let some : 0 < 2 = omega arith in
    let half : 2 ^ power ∣ n / 2 = dvd_of_mul-dvd-mul_right {k = 2} (2 ^ power) {n = n / 2} some
    (subst (λ m. 2 ^ power * 2 ∣ m) (sym whole) twice) in
    let less : power ≤ digits = omega arith in
    let rest = trailing-most digits (n / 2) power less half in
    subst (λ digit. suc power ≤ under digit (count_trailing_zeros digits (n / 2))) (sym even)
    (suc-le-suc rest)
