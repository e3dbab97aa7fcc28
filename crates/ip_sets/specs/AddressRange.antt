-- Ranges of addresses, and the texts that write them.
use Rattle.std.specs.Prelude.{◌≡◌, ℕ, ◌+◌, ◌-◌, ◌/◌, ◌%◌, ◌^◌, ◌≤◌, false, List, [], ◌∷◌, ◌++◌, Option, MatchBool, MatchOption, decimal}
use Rattle.std.specs.Char.{is_ascii_digit}
use Rattle.std.specs.List.{list_all}
use Rattle.std.specs.Range.{range_inclusive_start, range_inclusive_end, range_inclusive_exhausted}
use Rattle.std.specs.declared.ops.RangeInclusive.{RangeInclusive}
use Rattle.ip_sets.specs.LineParts.{parts, trimmed}

-- Whether the range is `first..=last`.
pub record Spans (range : RangeInclusive ℕ) (first last : ℕ) : Type 0 where
  pub start : range_inclusive_start range ≡ first
  pub end : range_inclusive_end range ≡ last
  pub fresh : range_inclusive_exhausted range ≡ false

-- The range with the numbers of its addresses.
abbrev pub numbers : {T : Type 0} → (T → ℕ) → RangeInclusive T → RangeInclusive ℕ
numbers number range = record {
  start = number (range_inclusive_start range);
  end = number (range_inclusive_end range);
  exhausted = range_inclusive_exhausted range;
}

-- Whether the result is a range that the fact holds of, by the numbers of its addresses, or `None` if
-- it holds of no range.
abbrev pub ReadsRange : {T : Type 0} → (T → ℕ) → Option (RangeInclusive T)
    → (RangeInclusive ℕ → Type 0) → Type 0
ReadsRange number result Holds = MatchOption result ((range : RangeInclusive ℕ) → ¬ Holds range)
    (λ range. Holds (numbers number range))

-- How many addresses of `bits` bits have the same first `length` bits.
abbrev pub block_size : ℕ → ℕ → ℕ
block_size bits length = 2 ^ (bits - length)

-- The address with the bits past the first `length` cleared.
abbrev pub block_start : ℕ → ℕ → ℕ → ℕ
block_start bits length address = address - address % block_size bits length

-- The last address with the same first `length` bits.
abbrev pub block_end : ℕ → ℕ → ℕ → ℕ
block_end bits length address = block_start bits length address + (block_size bits length - 1)

-- Whether the range has the addresses whose first `length` bits are those of `address`.
abbrev pub IsBlockAround : ℕ → ℕ → ℕ → RangeInclusive ℕ → Type 0
IsBlockAround bits length address range =
    Spans range (block_start bits length address) (block_end bits length address)

-- Whether two addresses have the same first `length` bits.
abbrev pub SharesBits : ℕ → ℕ → ℕ → ℕ → Type 0
SharesBits bits length address other =
    other / block_size bits length ≡ address / block_size bits length

-- The mask of a length: of `bits` bits, the first `length` are ones, and the others are zeros.
abbrev pub mask_of : ℕ → ℕ → ℕ
mask_of bits length = 2 ^ bits - block_size bits length

-- ---- addresses and blocks

-- `ADDRESS`
pub record WritesOne (IsAddress : List ℕ → ℕ → Type 0) (text : List ℕ) (range : RangeInclusive ℕ)
    : Type 0 where
  pub address : ℕ
  pub written : IsAddress text address
  pub one : Spans range address address

-- Whether the text writes the length of a block: digits write it in decimal, without a leading zero,
-- and any other text as the address that is its mask.
abbrev pub WritesLength : ℕ → (List ℕ → ℕ → Type 0) → List ℕ → ℕ → Type 0
WritesLength bits IsAddress text length =
    MatchBool (list_all is_ascii_digit text) (text ≡ decimal length)
    (IsAddress text (mask_of bits length))

-- `ADDRESS/LENGTH` or `ADDRESS/MASK`, from its two parts.
pub record WritesBlock (bits : ℕ) (IsAddress : List ℕ → ℕ → Type 0)
    (address_text length_text : List ℕ) (range : RangeInclusive ℕ) : Type 0 where
  pub address : ℕ
  pub length : ℕ
  pub address_written : IsAddress address_text address
  pub length_written : WritesLength bits IsAddress length_text length
  pub within : length ≤ bits
  pub block : IsBlockAround bits length address range

-- Whether the parts around a slash write the range.
abbrev pub WritesOneOrBlock : ℕ → (List ℕ → ℕ → Type 0) → List (List ℕ) → RangeInclusive ℕ → Type 0
WritesOneOrBlock bits IsAddress (text ∷ []) range = WritesOne IsAddress text range
WritesOneOrBlock bits IsAddress (address ∷ length ∷ []) range =
    WritesBlock bits IsAddress address length range
WritesOneOrBlock bits IsAddress _ range = ⊥

-- Whether the text writes the range as an address or a block. 47 is the code of `/`.
abbrev pub WritesEnd : ℕ → (List ℕ → ℕ → Type 0) → List ℕ → RangeInclusive ℕ → Type 0
WritesEnd bits IsAddress text range = WritesOneOrBlock bits IsAddress (parts 47 text) range

-- ---- ranges

-- `END-END`, from its two parts, with or without white space around the dash. Each end is an address
-- or a block. The range goes from the first address of the first end to the last one of the second,
-- which is not below it.
pub record WritesSpan (bits : ℕ) (IsAddress : List ℕ → ℕ → Type 0)
    (first_text last_text : List ℕ) (range : RangeInclusive ℕ) : Type 0 where
  pub first : RangeInclusive ℕ
  pub last : RangeInclusive ℕ
  pub first_written : WritesEnd bits IsAddress (trimmed first_text) first
  pub last_written : WritesEnd bits IsAddress (trimmed last_text) last
  pub in_order : range_inclusive_start first ≤ range_inclusive_end last
  pub span : Spans range (range_inclusive_start first) (range_inclusive_end last)

-- Whether the parts around a dash write the range.
abbrev pub WritesParts : ℕ → (List ℕ → ℕ → Type 0) → List (List ℕ) → RangeInclusive ℕ → Type 0
WritesParts bits IsAddress (text ∷ []) range = WritesEnd bits IsAddress text range
WritesParts bits IsAddress (first ∷ last ∷ []) range = WritesSpan bits IsAddress first last range
WritesParts bits IsAddress _ range = ⊥

-- Whether the text writes the range of addresses of `bits` bits. 45 is the code of `-`.
abbrev pub WritesRange : ℕ → (List ℕ → ℕ → Type 0) → List ℕ → RangeInclusive ℕ → Type 0
WritesRange bits IsAddress text range = WritesParts bits IsAddress (parts 45 text) range

-- `[ADDRESS]`. The codes of the brackets are 91 and 93.
pub record WritesBracketed (IsAddress : List ℕ → ℕ → Type 0) (text : List ℕ)
    (range : RangeInclusive ℕ) : Type 0 where
  pub inner : List ℕ
  pub enclosed : text ≡ 91 ∷ inner ++ 93 ∷ []
  pub one : WritesOne IsAddress inner range
