-- The lemmas that `UIntPlusOne::mul` uses.
use Rattle.std.proofs.Common.{◌≡◌, ℕ, ◌*◌, ◌≤◌, zero, suc, arith, refl}
use Rattle.std.proofs.Math.Nat.{mul-le-mul_left}
use Rattle.rsb_length.specs.UIntPlusOne.{uint_number, stretched-within, zero-le}

-- `UInt` of 0 means 0.
stretched-zero : (limit : ℕ) → uint_number limit 0 ≡ 0
stretched-zero limit = stretched-within limit 0 0 refl (zero-le limit)

-- If a product is within the limit, it means the product of what its factors mean. The factors are
-- within the limit too, or one of them is 0.
pub stretched_product : (limit m n : ℕ) → m * n ≤ limit
    → uint_number limit (m * n) ≡ uint_number limit m * uint_number limit n
stretched_product limit zero n h = grind (arith, stretched-zero limit)
stretched_product limit (suc m) zero h = grind (arith, stretched-zero limit)
stretched_product limit (suc m) (suc n) h =
    grind (arith, stretched-within, mul-le-mul_left)
