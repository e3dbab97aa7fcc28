-- Tests that pass at each number below another.
use Rattle.std.proofs.Common.{◌≡◌, ◌≢◌, ℕ, zero, suc, ◌<◌, Bool, true, false, cond, ◌&&◌, eqb, nat_lt, refl, sym, arith}
use Rattle.std.proofs.lemmas.Bool.{and_parts, eqb-false, eqb-true}
use Rattle.std.proofs.lemmas.Bool.Decides.{nat_tests}

-- Whether a test passes at each number below another.
unfoldable pub passes_below : ℕ → (ℕ → Bool) → Bool
passes_below zero test = true
passes_below (suc n) test = test n && passes_below n test

-- A test that passes at a number, and at each below it, passes at each below the next one.
passes_step : (test : ℕ → Bool) (n k : ℕ) (is_last : Bool) → is_last ≡ eqb k n → test n ≡ true
    → ((i : ℕ) → i < n → test i ≡ true) → k < suc n → test k ≡ true
passes_step test n k true is last before within = rw (eqb-true k n (sym is)) last
passes_step test n k false is last before within =
    let other : k ≢ n = eqb-false k n (sym is) in
    before k (omega (arith, other, within))

-- If the test for all numbers below another holds, the test passes at each of them.
pub passes_at : (test : ℕ → Bool) (n : ℕ) → passes_below n test ≡ true → (k : ℕ) → k < n
    → test k ≡ true
unfolding passes_below
passes_at test zero all k within = absurd (omega (arith, within))
passes_at test (suc n) all k within =
    let both = and_parts (test n) (passes_below n test) all in
    passes_step test n k (eqb k n) refl both.0 (passes_at test n both.1) within

-- What a test of small numbers says of one.
pub when_small : (limit value read : ℕ) → cond (nat_lt read limit) (eqb value read) true ≡ true
    → read < limit → value ≡ read
when_small limit value read is small = grind (arith, nat_tests)
