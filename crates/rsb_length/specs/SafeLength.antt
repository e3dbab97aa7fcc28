-- Proofs that the unsigned types satisfy the laws of `SafeLength`.
use Rattle.std.specs.Prelude.{◌≡◌, ◌↔◌, ◌==◌, ℕ, ◌+◌, ◌-◌, ◌<◌, ◌≤◌, ◌^◌, pos, IsTrue}
use Rattle.std.specs.Int.{FitsUnsignedBits}
use Rattle.std.proofs.Common.{arith}
use Rattle.std.proofs.lemmas.Nat.{pow_pos}
use Rattle.std.proofs.lemmas.Bool.Decides.{Decides-eqb}

-- A whole number fits in k unsigned bits exactly when it is at most the greatest value.
pub unsigned-fits : (k n : ℕ) → FitsUnsignedBits k (pos n) ↔ (n ≤ 2 ^ k - 1)
unsigned-fits k n = let some = pow_pos k in ((λ h. omega arith), (λ h. omega arith))

-- A sum that is at most the greatest value fits.
pub unsigned-sum_fits : (k a b : ℕ) → a + b ≤ 2 ^ k - 1 → a + b < 2 ^ k
unsigned-sum_fits k a b h = let some = pow_pos k in omega arith

-- `==` is true exactly for equal numbers.
pub unsigned-equal : (a b : ℕ) → IsTrue (a == b) ↔ (a ≡ b)
unsigned-equal a b = Decides-eqb a b

-- A difference plus the number that was subtracted is the original number.
pub unsigned-difference : (a b rest : ℕ) → b ≤ a → rest ≡ a - b → rest + b ≡ a
unsigned-difference a b rest h e = omega arith
