-- Proofs that the types of `src/impls` satisfy the laws of `Integer`.
use Rattle.std.specs.Prelude.{◌≡◌, ℕ, ℤ, pos, negsuc, ◌-◌, ◌*◌, ◌^◌, ◌<◌, ◌<ℤ◌}
use Rattle.std.specs.Cmp.{int_ranked, nat_cmp_is, ranked}
use Rattle.std.specs.Int.{Width}
use Rattle.std.specs.Ordering.{MatchOrdering, nat_cmp, int_cmp}
use Rattle.std.specs.declared.cmp.Ordering.{Ordering}
use Rattle.std.specs.declared.cmp.Ordering.TheVariants.{Less, Equal, Greater}
use Rattle.std.proofs.Common.{arith, refl, ap}
use Rattle.std.proofs.lemmas.Bool.Decides.{nat_tests}
use Rattle.std.proofs.lemmas.Int.{ints}
use Rattle.std.proofs.lemmas.Nat.{pow_pos}
use Rattle.rsb_integer.specs.Rank.{scalar_rank, scalar_value, signed_rank, signed_value}
use mir.Val.{hbits}

-- ---- signed types: 2 ^ hbits width is half the number of values

-- The bound and the rank of a negative number that is a value.
negative : (width : Width) (n : ℕ) → signed_rank width (negsuc n) < 2 * 2 ^ hbits width
    → (n < 2 ^ hbits width) × (signed_rank width (negsuc n) ≡ 2 ^ hbits width - 1 - n)
negative width n value = grind (arith, nat_tests)

-- The signed value with a given rank has that rank.
pub signed-ranks : (width : Width) (rank : ℕ) → rank < 2 * 2 ^ hbits width
    → signed_rank width (signed_value width rank) ≡ rank
signed-ranks width rank below = grind (arith, nat_tests)

-- A lower signed value has a lower rank.
signed-less : (width : Width) (x y : ℤ)
    → signed_rank width x < 2 * 2 ^ hbits width → signed_rank width y < 2 * 2 ^ hbits width
    → x <ℤ y → signed_rank width x < signed_rank width y
signed-less width (pos m) (pos n) left right less = omega (arith, ints)
signed-less width (pos m) (negsuc n) left right less = absurd (omega (arith, ints))
signed-less width (negsuc m) (pos n) left right less =
    let some = pow_pos (hbits width) in
    let below = negative width m left in
    omega (arith, below.0, below.1)
signed-less width (negsuc m) (negsuc n) left right less =
    let lower = negative width m left in
    let upper = negative width n right in
    omega (arith, ints, lower.0, lower.1, upper.0, upper.1)

-- Signed values are ordered by rank.
pub signed-in_order : (width : Width) (x y : ℤ)
    → signed_rank width x < 2 * 2 ^ hbits width → signed_rank width y < 2 * 2 ^ hbits width
    → int_cmp x y ≡ nat_cmp (signed_rank width x) (signed_rank width y)
signed-in_order width x y left right =
    nat_cmp_is (signed_rank width x) (signed_rank width y) (int_cmp x y)
    (ranks (int_cmp x y) (int_ranked x y (int_cmp x y) refl))
  where
    -- Two values compare as their ranks do.
    ranks : (order : Ordering) → MatchOrdering order (x <ℤ y) (x ≡ y) (y <ℤ x)
        → MatchOrdering order (signed_rank width x < signed_rank width y)
        (signed_rank width x ≡ signed_rank width y) (signed_rank width y < signed_rank width x)
    ranks Less less = signed-less width x y left right less
    ranks Equal equal = ap (signed_rank width) equal
    ranks Greater greater = signed-less width y x right left greater

-- ---- characters: there are 1,112,064 of them

-- The character with a given rank has that rank.
pub scalar-ranks : (rank : ℕ) → rank < 1112064 → scalar_rank (scalar_value rank) ≡ rank
scalar-ranks rank below = grind (arith, nat_tests)

-- A lower character has a lower rank.
scalar-less : (c d : ℕ) → scalar_rank c < 1112064 → scalar_rank d < 1112064 → c < d
    → scalar_rank c < scalar_rank d
scalar-less c d left right less = grind (arith, nat_tests)

-- Characters are ordered by rank.
pub scalar-in_order : (c d : ℕ) → scalar_rank c < 1112064 → scalar_rank d < 1112064
    → nat_cmp c d ≡ nat_cmp (scalar_rank c) (scalar_rank d)
scalar-in_order c d left right =
    nat_cmp_is (scalar_rank c) (scalar_rank d) (nat_cmp c d)
    (ranks (nat_cmp c d) (ranked c d (nat_cmp c d) refl))
  where
    -- Two characters compare as their ranks do.
    ranks : (order : Ordering) → MatchOrdering order (c < d) (c ≡ d) (d < c)
        → MatchOrdering order (scalar_rank c < scalar_rank d) (scalar_rank c ≡ scalar_rank d)
        (scalar_rank d < scalar_rank c)
    ranks Less less = scalar-less c d left right less
    ranks Equal equal = ap scalar_rank equal
    ranks Greater greater = scalar-less d c right left greater
