-- The number that a `UIntPlusOne` represents, and why it satisfies the laws of lengths. `number`
-- and `limit` belong to the unsigned type that it extends.
use Rattle.std.specs.Prelude.{◌≡◌, ◌≢◌, ◌↔◌, ◌==◌, ℕ, ℤ, Bool, List, Option, Some, true, false, pos, negsuc, cond, nat_le, ◌+◌, ◌≤◌, ◌≤ℤ◌, IsTrue}
use Rattle.std.specs.Bool.{one_answer}
use Rattle.std.specs.Cmp.{IsPartialOrder, nat_cmp_total, on_total, po, unsigned_Decides, unsigned_ties}
use Rattle.std.specs.Ordering.{nat_cmp}
use Rattle.std.proofs.Common.{arith, ap, refl, sym, ◌∙◌}
use Rattle.std.proofs.lemmas.Bool.Decides.{nat_tests}
use Rattle.std.proofs.lemmas.Int.{ints}
use Rattle.rsb_length.specs.declared.uint_plus_one.UIntPlusOne.{UIntPlusOne}
use Rattle.rsb_length.specs.declared.uint_plus_one.UIntPlusOne.TheVariants.{UInt, MaxPlusOne}

-- The number that `UInt` of n represents. Up to the limit, and so for every value of the unsigned
-- type, it is n. No code can build `UInt` of a number past the limit, but the laws of `==` and of
-- the order cover those too. Suppose `UInt` of limit + 1 represented limit + 1, as `MaxPlusOne`
-- does. Then the derived `==`, which distinguishes the two, would not be equality of numbers. So
-- `UInt` of a number past the limit represents the next number, and only `MaxPlusOne` represents
-- limit + 1.
abbrev pub uint_number : ℕ → ℕ → ℕ
uint_number limit n = cond (nat_le n limit) n (n + 1)

-- The number that a `UIntPlusOne` represents.
abbrev pub number_of : {T : Type 0} → (T → ℕ) → ℕ → UIntPlusOne T → ℕ
number_of number limit (UInt value) = uint_number limit (number value)
number_of number limit MaxPlusOne = limit + 1

-- The `UIntPlusOne` that represents a number: `MaxPlusOne` for every number past the limit.
abbrev pub plus_one_at : {T : Type 0} → (ℕ → T) → ℕ → ℕ → UIntPlusOne T
plus_one_at value_at limit n = cond (nat_le n limit) (UInt (value_at n)) MaxPlusOne

-- The text of a `UIntPlusOne`, from the texts of the values and of the number one past the limit.
abbrev pub text_of : {T : Type 0} → (T → Option (List ℕ)) → List ℕ → UIntPlusOne T → Option (List ℕ)
text_of output past_text (UInt value) = output value
text_of output past_text MaxPlusOne = Some past_text

-- Whether an integer is a whole number of at most n.
abbrev pub IsUpTo : ℕ → ℤ → Type 0
IsUpTo n (pos m) = m ≤ n
IsUpTo n (negsuc m) = ⊥

-- An integer between two whole numbers of at most n is one too.
pub IsUpTo-between : (n : ℕ) (x y z : ℤ) → IsUpTo n x → IsUpTo n z → x ≤ℤ y → y ≤ℤ z → IsUpTo n y
IsUpTo-between n x (pos m) (pos k) f g low high = let h : k ≤ n = g in omega (arith, ints)
IsUpTo-between n x (pos m) (negsuc k) f g low high = absurd g
IsUpTo-between n (pos j) (negsuc m) z f g low high = absurd (omega (arith, ints))
IsUpTo-between n (negsuc j) (negsuc m) z f g low high = absurd f

-- `UInt` of a number within the limit represents that number.
pub stretched-within : (limit n m : ℕ) → n ≡ m → m ≤ limit → uint_number limit n ≡ m
stretched-within limit n m e h = grind (arith, nat_tests)

-- If `UInt` of two numbers represents the same number, the two are equal.
pub stretched-same : (limit m n : ℕ) → uint_number limit m ≡ uint_number limit n → m ≡ n
stretched-same limit m n e = grind (arith, nat_tests)

-- No `UInt` represents the number one past the limit.
pub stretched-not_past : (limit n : ℕ) → uint_number limit n ≢ limit + 1
stretched-not_past limit n e = grind (arith, nat_tests)

-- `same` behaves as the derived `==`. It compares two `UInt`s by `equal`, which is true exactly for
-- equal numbers. Between a `UInt` and `MaxPlusOne`, `same` is false.
module _ {T : Type 0} (number : T → ℕ) (limit : ℕ) (equal : T → T → Bool)
    (same : UIntPlusOne T → UIntPlusOne T → Bool)
    (by_number : (a b : T) → IsTrue (equal a b) ↔ (number a ≡ number b))
    (of_values : (a b : T) → same (UInt a) (UInt b) ≡ equal a b)
    (of_value_and_past : (a : T) → same (UInt a) MaxPlusOne ≡ false)
    (of_past_and_value : (b : T) → same MaxPlusOne (UInt b) ≡ false)
    (of_past : same MaxPlusOne MaxPlusOne ≡ true)
  where
    -- Then `same` is true exactly for equal numbers.
    pub same-number_of : (x y : UIntPlusOne T)
        → IsTrue (same x y) ↔ (number_of number limit x ≡ number_of number limit y)
    same-number_of (UInt a) (UInt b) = (
      (λ h. ap (uint_number limit) ((by_number a b).0 (sym (of_values a b) ∙ h))),
      (λ h. of_values a b ∙ (by_number a b).1 (stretched-same limit (number a) (number b) h)),
    )
    same-number_of (UInt a) MaxPlusOne = (
      (λ h. let other = of_value_and_past a in absurd (cc)),
      (λ h. absurd (stretched-not_past limit (number a) h)),
    )
    same-number_of MaxPlusOne (UInt b) = (
      (λ h. let other = of_past_and_value b in absurd (cc)),
      (λ h. absurd (stretched-not_past limit (number b) (sym h))),
    )
    same-number_of MaxPlusOne MaxPlusOne = ((λ h. refl), (λ h. of_past))

-- If `UInt` of n represents at most limit + 1, then n is within the limit.
stretched-limited : (limit n : ℕ) → uint_number limit n ≤ limit + 1 → n ≤ limit
stretched-limited limit n h = grind (arith, nat_tests)

-- The test `nat_le` is true of each number within the limit, and false of the one after the limit.
le-within : (n limit : ℕ) → n ≤ limit → nat_le n limit ≡ true
le-within n limit h = grind (arith, nat_tests)

le-past : (limit : ℕ) → nat_le (limit + 1) limit ≡ false
le-past limit = grind (arith, nat_tests)

-- If `value_at` takes the number of each value back to that value, `plus_one_at` takes the number
-- of each `UIntPlusOne` back to it.
pub plus_one_at-number : {T : Type 0} (number : T → ℕ) (limit : ℕ) (value_at : ℕ → T)
    → ((a : T) → number a ≤ limit → value_at (number a) ≡ a)
    → (x : UIntPlusOne T) → number_of number limit x ≤ limit + 1
    → plus_one_at value_at limit (number_of number limit x) ≡ x
plus_one_at-number number limit value_at numbers (UInt a) h =
    let within = stretched-limited limit (number a) h in
    rw (stretched-within limit (number a) (number a) refl within, le-within (number a) limit within)
    (ap UInt (numbers a within))
plus_one_at-number number limit value_at numbers MaxPlusOne h = rw (le-past limit) refl

-- If `==` is true exactly for equal numbers, comparing by number is a partial order that fits `==`.
pub order-by_number : {A : Type 0} (number : A → ℕ) (same : A → A → Bool)
    → ((x y : A) → IsTrue (same x y) ↔ (number x ≡ number y))
    → IsPartialOrder same (λ x y. Some (nat_cmp (number x) (number y)))
order-by_number number same by_number = po (on_total number nat_cmp_total) (λ x y.
    one_answer (same x y) (number x == number y) (by_number x y)
    (unsigned_Decides (number x) (number y))
    ∙ unsigned_ties (number x) (number y))

-- A test that is true exactly for equal whole numbers is also true exactly for equal integers.
pub same-integers : (same : Bool) (m n : ℕ) → IsTrue same ↔ (m ≡ n) → IsTrue same ↔ (pos m ≡ pos n)
same-integers same m n told = ((λ h. ap pos (told.0 h)), (λ h. told.1 (omega (arith, ints))))

-- No number is below 0.
pub zero-le : (n : ℕ) → 0 ≤ n
zero-le n = omega arith

-- One more than any number is at least 1.
pub one-le_next : (n : ℕ) → 1 ≤ n + 1
one-le_next n = omega arith
