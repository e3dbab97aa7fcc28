-- Blocks of addresses fit their type.
use Rattle.std.proofs.Common.{◌≡◌, ℕ, ◌+◌, ◌-◌, ◌*◌, ◌/◌, ◌%◌, ◌^◌, ◌<◌, ◌≤◌, ◌↔◌, ap, ◌∙◌, arith}
use Rattle.std.proofs.Math.Nat.{mod-eq_of_lt}
use Rattle.std.proofs.lemmas.Nat.{and_mask, one_shl, pow-add, pow_pos, shr_below, shr_split, mul-le, div-add-mod', div_below, le-div, mod_below}
use Rattle.std.specs.Int.Bits.{bit_and}
use Rattle.ip_sets.specs.AddressRange.{SharesBits, block_end, block_size, block_start}

-- All numbers are as many blocks of one size.
whole : (bits length : ℕ) → length ≤ bits → 2 ^ bits ≡ 2 ^ length * 2 ^ (bits - length)
whole bits length within =
    let sum : bits ≡ length + (bits - length) = omega arith in
    ap (λ n. 2 ^ n) sum ∙ pow-add 2 length (bits - length)

-- A block ends within the type.
pub block_fits : (bits length address : ℕ) → length ≤ bits → address < 2 ^ bits
    → block_start bits length address + block_size bits length ≤ 2 ^ bits
block_fits bits length address within fits =
    let rest = bits - length in
    let sum : bits ≡ length + rest = omega arith in
    let below : address / 2 ^ rest < 2 ^ length =
    shr_below address length rest (rw sum at fits) in
    let blocks = mul-le (address / 2 ^ rest + 1) (2 ^ rest) (2 ^ length) (2 ^ rest) (omega arith)
    (omega arith) in
    omega (arith, shr_split address rest, whole bits length within, blocks)

-- The numbers from `q * size` on, `size` of them, have the quotient q.
quotient : (size q other : ℕ) → 0 < size → q * size ≤ other → other ≤ q * size + (size - 1)
    → other / size ≡ q
quotient size q other some low high =
    let from = le-div q other size some low in
    let below : other < (q + 1) * size = omega arith in
    let to = div_below other size (q + 1) some below in
    omega (arith, from, to)

-- A number with the quotient q is one of these numbers.
from_quotient : (size q other : ℕ) → 0 < size → other / size ≡ q
    → (q * size ≤ other) × (other ≤ q * size + (size - 1))
from_quotient size q other some is =
    let split = div-add-mod' other size in
    let rest = mod_below other size some in
    let same : other / size * size ≡ q * size = ap (λ n. n * size) is in
    (omega (arith, split, same), omega (arith, split, same, rest))

-- A block has the addresses that share the first bits.
pub block_members : (bits length address other : ℕ)
    → ((block_start bits length address ≤ other)
    × (other ≤ block_end bits length address))
    ↔ SharesBits bits length address other
block_members bits length address other =
    let size = block_size bits length in
    let some : 0 < size = pow_pos (bits - length) in
    let q = address / size in
    let split = div-add-mod' address size in
    let start : address - address % size ≡ q * size = omega (arith, split) in (
      (λ h. quotient size q other some (omega (arith, start, h.0)) (omega (arith, start, h.1))),
      (λ is.
          let within = from_quotient size q other some is in
          (omega (arith, start, within.0), omega (arith, start, within.1))),
    )

-- A shifted 1 is the size of a block that does not have all addresses.
pub shifted_size : (width length bits : ℕ) → bits ≡ width → width ≤ 128 → 0 < length
    → length ≤ width → 1 * 2 ^ (bits - length) % 2 ^ 128 ≡ block_size width length
shifted_size width length bits is fits some within =
    one_shl (bits - length) 128 (omega (arith, is)) ∙ ap (λ n. 2 ^ (n - length)) is

-- The last address of a block is an address.
pub last_fits : (width length number size : ℕ) → length ≤ width → number < 2 ^ width
    → size ≡ block_size width length → number - number % size + (size - 1) < 2 ^ width
last_fits width length number size within below is =
    let fits = block_fits width length number within below in
    let some = pow_pos (width - length) in
    rw is (omega (arith, fits, some))

-- The bits of a number below a power of 2 are its remainder.
pub low_bits : (number size bits : ℕ) → size ≡ 2 ^ bits
    → bit_and number (size - 1) ≡ number % size
low_bits number size bits is = rw is (and_mask number bits)

-- A number without its low bits is the start of a block.
pub masked_start : (width length address number size : ℕ) → number ≡ address
    → size ≡ block_size width length
    → number - bit_and number (size - 1) ≡ block_start width length address
masked_start width length address number size same is =
    rw (same, is) (ap (λ low. address - low) (and_mask address (width - length)))

-- With all of its low bits set, a number is the end of a block.
pub masked_end : (width length address number size : ℕ) → number ≡ address
    → size ≡ block_size width length
    → number - bit_and number (size - 1) + (size - 1) ≡ block_end width length address
masked_end width length address number size same is =
    ap (λ start. start + (size - 1)) (masked_start width length address number size same is)
    ∙ ap (λ n. block_start width length address + (n - 1)) is

-- If no bit is given, the block has all addresses.
whole_size : (width length : ℕ) → length ≡ 0 → block_size width length ≡ 2 ^ width
whole_size width length none =
    let same : width - length ≡ width = omega (arith, none) in
    ap (λ n. 2 ^ n) same

-- Then the block starts at 0.
pub whole_start : (width length number : ℕ) → length ≡ 0 → number < 2 ^ width
    → block_start width length number ≡ 0
whole_start width length number none below =
    let rest = mod-eq_of_lt below in
    ap (λ n. number - number % n) (whole_size width length none) ∙ omega (arith, rest)

-- Then it ends at the last address.
pub whole_end : (width length number last : ℕ) → length ≡ 0 → number < 2 ^ width
    → last + 1 ≡ 2 ^ width → last ≡ block_end width length number
whole_end width length number last none below is =
    let start = whole_start width length number none below in
    let size = whole_size width length none in
    omega (arith, start, size, is)
