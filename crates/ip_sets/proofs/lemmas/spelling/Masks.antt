-- Masks, and the lengths that have them.
use Rattle.std.proofs.Common.{◌≡◌, ◌∙◌, ℕ, ◌+◌, ◌-◌, ◌*◌, ◌^◌, ◌<◌, ◌≤◌, ap, arith}
use Rattle.std.proofs.lemmas.Nat.{pow_pos}
use Rattle.ip_sets.specs.AddressRange.{mask_of}
use Rattle.ip_sets.proofs.lemmas.aligned.Powers.{pow-most, pow-under}

-- Different lengths have different masks.
pub mask_injective : (bits m n : ℕ) → m ≤ bits → n ≤ bits → mask_of bits m ≡ mask_of bits n → m ≡ n
mask_injective bits m n within within_too same =
    let most = pow-most (bits - m) bits (omega arith) in
    let most_too = pow-most (bits - n) bits (omega arith) in
    let size : 2 ^ (bits - m) ≡ 2 ^ (bits - n) = omega (arith, same, most, most_too) in
    let some = pow_pos (bits - m) in
    let less = pow-under (bits - m) (bits - n) (omega (arith, size, some)) in
    let less_too = pow-under (bits - n) (bits - m) (omega (arith, size, some)) in
    omega (arith, less, less_too)

module _ (bits number others free : ℕ) (all : number + others + 1 ≡ 2 ^ bits) where
  -- There are at most as many zeros as bits.
  pub zeros_within : 2 ^ free ≤ others + 1 → free ≤ bits
  zeros_within fits = pow-under free bits (omega (arith, all, fits, pow_pos bits))

  -- If the other bits of a number are `free` ones at its end, it is the mask with as many zeros.
  pub is_mask : others + 1 ≡ 2 ^ free → number ≡ mask_of bits (bits - free)
  is_mask is =
      let within = zeros_within (omega (arith, is)) in
      let zeros : bits - (bits - free) ≡ free = omega (arith, within) in
      let size : 2 ^ (bits - (bits - free)) ≡ 2 ^ free = ap (λ k. 2 ^ k) zeros in
      omega (arith, all, is, size)

  -- If they are more than `free` ones at its end, and not `free + 1` of them, it is no mask.
  pub no_mask : 2 ^ free ≤ others + 1 → others + 1 < 2 * 2 ^ free → ¬ (others + 1 ≡ 2 ^ free)
      → (length : ℕ) → length ≤ bits → ¬ (number ≡ mask_of bits length)
  no_mask fits next differs length within is =
      let most = pow-most (bits - length) bits (omega arith) in
      let size : others + 1 ≡ 2 ^ (bits - length) = omega (arith, all, is, most) in
      let some = pow_pos (bits - length) in
      let less = pow-under free (bits - length) (omega (arith, fits, size, some)) in
      let less_too = pow-under (bits - length) free (omega (arith, next, size)) in
      let same : bits - length ≡ free = omega (arith, less, less_too) in
      differs (size ∙ ap (λ k. 2 ^ k) same)
