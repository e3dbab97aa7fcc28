-- The sixteen bytes of a number give it back.
use Rattle.std.proofs.Common.{◌≡◌, ℕ, zero, suc, ◌+◌, ◌-◌, ◌*◌, ◌/◌, ◌%◌, ◌^◌, ◌<◌, List, [], ◌∷◌, length, get_or, refl, arith}
use Rattle.std.proofs.Math.Nat.{div-div-eq-div-mul}
use Rattle.std.proofs.lemmas.Nat.{mod_below}
use Rattle.std.specs.Int.{w128, byte_at, bytes_high_first, from_be_bytes, to_be_bytes}
use Rattle.std.specs.Net.Addr.{octets_of, segments_of}

-- A quotient is its last byte and what comes before that.
byte_and_rest : (n p : ℕ) → n / p ≡ n / p % 256 + n / (p * 256) * 256
byte_and_rest n p = omega (arith, div-div-eq-div-mul n p 256)

-- A number is joined from its bytes, one after the other. `p1` comes before the lowest byte, `a0`.
joined_16 : (a0 a1 a2 a3 a4 a5 a6 a7 a8 a9 a10 a11 a12 a13 a14 a15 n : ℕ)
    → (p1 p2 p3 p4 p5 p6 p7 p8 p9 p10 p11 p12 p13 p14 p15 : ℕ)
    → n ≡ a0 + p1 * 256
    → p1 ≡ a1 + p2 * 256 → p2 ≡ a2 + p3 * 256 → p3 ≡ a3 + p4 * 256
    → p4 ≡ a4 + p5 * 256 → p5 ≡ a5 + p6 * 256 → p6 ≡ a6 + p7 * 256
    → p7 ≡ a7 + p8 * 256 → p8 ≡ a8 + p9 * 256 → p9 ≡ a9 + p10 * 256
    → p10 ≡ a10 + p11 * 256 → p11 ≡ a11 + p12 * 256 → p12 ≡ a12 + p13 * 256
    → p13 ≡ a13 + p14 * 256 → p14 ≡ a14 + p15 * 256
    → p15 ≡ a15
    → a15 * 256 ^ 15 + a14 * 256 ^ 14 + a13 * 256 ^ 13 + a12 * 256 ^ 12
    + a11 * 256 ^ 11 + a10 * 256 ^ 10 + a9 * 256 ^ 9 + a8 * 256 ^ 8
    + a7 * 256 ^ 7 + a6 * 256 ^ 6 + a5 * 256 ^ 5 + a4 * 256 ^ 4
    + a3 * 256 ^ 3 + a2 * 256 ^ 2 + a1 * 256 ^ 1 + a0
    ≡ n
joined_16 a0 a1 a2 a3 a4 a5 a6 a7 a8 a9 a10 a11 a12 a13 a14 a15 n
    p1 p2 p3 p4 p5 p6 p7 p8 p9 p10 p11 p12 p13 p14 p15
    e0 e1 e2 e3 e4 e5 e6 e7 e8 e9 e10 e11 e12 e13 e14 e15 =
    omega arith

-- A number of 128 bits is what its bytes write, the highest first.
pub from_be_bytes-to_be_bytes_16 : (n : ℕ) → n < 2 ^ 128
    → from_be_bytes w128 (to_be_bytes w128 n) ≡ n
from_be_bytes-to_be_bytes_16 n fits =
    let low : n ≡ n % 256 + n / 256 * 256 = omega arith in
    let high : n / 256 ^ 15 ≡ n / 256 ^ 15 % 256 = omega arith in
    let step = λ (k : ℕ). byte_and_rest n (256 ^ k) in
    joined_16 _ _ _ _ _ _ _ _ _ _ _ _ _ _ _ _ n _ _ _ _ _ _ _ _ _ _ _ _ _ _ _
    low (step 1) (step 2) (step 3) (step 4) (step 5) (step 6) (step 7) (step 8) (step 9) (step 10)
    (step 11) (step 12) (step 13) (step 14) high

-- Bytes that are joined in pairs come apart again.
pub octets_of-segments_of : (n : ℕ) (bytes : List ℕ) → length bytes ≡ 2 * n
    → ((k : ℕ) → get_or bytes k 0 < 256) → octets_of (segments_of bytes) ≡ bytes
octets_of-segments_of n [] even small = refl
octets_of-segments_of n (a ∷ []) even small = absurd (omega arith)
octets_of-segments_of n (a ∷ b ∷ bytes) even small =
    let low : b < 256 = small 1 in
    let high : (a * 256 + b) / 256 ≡ a = omega arith in
    let rest : (a * 256 + b) % 256 ≡ b = omega arith in
    let later = octets_of-segments_of (n - 1) bytes (omega arith) (λ k. small (suc (suc k))) in
    λ i. high i ∷ rest i ∷ later i

-- Each pair of bytes is below 2 ^ 16.
pub segment_fits : (bytes : List ℕ) → ((k : ℕ) → get_or bytes k 0 < 256)
    → (k : ℕ) → get_or (segments_of bytes) k 0 < 2 ^ 16
segment_fits [] small k = omega arith
segment_fits (a ∷ []) small k = omega arith
segment_fits (a ∷ b ∷ bytes) small zero =
    let high : a < 256 = small 0 in
    let low : b < 256 = small 1 in
    omega arith
segment_fits (a ∷ b ∷ bytes) small (suc k) =
    segment_fits bytes (λ j. small (suc (suc j))) k

-- A byte of a number, by its place, is below 256.
byte_below : (i n : ℕ) → byte_at i n < 256
byte_below zero n = omega arith
byte_below (suc i) n = mod_below (n / 256 ^ suc i) 256 (omega arith)

-- Each byte of a number is below 256.
pub byte_fits : (count n k : ℕ) → get_or (bytes_high_first count n) k 0 < 256
byte_fits zero n k = omega arith
byte_fits (suc count) n zero = byte_below count n
byte_fits (suc count) n (suc k) = byte_fits count n k
