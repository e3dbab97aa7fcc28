-- The number of bits of a rank.
use Rattle.std.proofs.Common.{◌≡◌, ℕ, suc, ◌-◌, ◌<◌, ◌≤◌, ◌^◌, arith, inl, inr}
use Rattle.std.proofs.Math.Nat.{pow-le-pow_right}
use Rattle.std.proofs.lemmas.Bool.{cases_lt}
use Rattle.std.proofs.lemmas.Nat.{leading_top}
use Rattle.range_set_bytes.specs.Format.{bit_count}

-- The number of bits is one more than that of the highest binary digit of the greatest rank.
pub record HasBits (n : ℕ) : Type 0 where
  pub digit : ℕ
  pub bits : bit_count n ≡ suc digit
  pub low : 2 ^ digit ≤ n - 1
  pub high : n - 1 < 2 ^ suc digit

has-bits : (n : ℕ) → 2 ≤ n → n ≤ 2 ^ 128 → HasBits n
has-bits n some most =
    let top = leading_top 128 (n - 1) (omega arith) (omega arith) in
    record { digit = top.0; bits = omega (arith, top.1); low = top.2; high = top.3 }

pub bits-suffice : (n rank : ℕ) → 2 ≤ n → n ≤ 2 ^ 128 → rank < n → rank < 2 ^ bit_count n
bits-suffice n rank some most less =
    let is = has-bits n some most in
    let high = is.high in
    rw is.bits (omega arith)

pub bits-least : (n bits : ℕ) → 2 ≤ n → n ≤ 2 ^ 128 → n ≤ 2 ^ bits → bit_count n ≤ bits
bits-least n bits some most enough =
    let is = has-bits n some most in
    let low = is.low in
    elim (cases_lt is.digit bits) [
      | inl less ↦ rw is.bits (omega arith)
      | inr past ↦ absurd (
          let fewer : 2 ^ bits ≤ 2 ^ is.digit = pow-le-pow_right (omega arith) past in omega arith)
    ]
