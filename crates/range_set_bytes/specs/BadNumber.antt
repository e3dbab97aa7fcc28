-- The first byte at which bytes cannot go on as a number.
use Rattle.std.specs.Prelude.{◌≡◌, ◌≢◌, ℕ, ◌+◌, ◌-◌, ◌<◌, ◌≤◌, List, ◌∷◌, ◌++◌, length, take, get_or}
use Rattle.range_set_bytes.specs.Leb128.{leb128}
use Rattle.range_set_bytes.specs.declared.numbers.BadNumber.{BadNumber}
use Rattle.range_set_bytes.specs.declared.numbers.Wrong.{Wrong}
use Rattle.range_set_bytes.specs.declared.numbers.Wrong.TheVariants.{Ended, Large, Zero}

-- The byte after `taken` others of a number, and what is wrong with it.
abbrev pub bad_at : ℕ → Wrong → BadNumber
bad_at taken wrong = record { taken = taken; wrong = wrong }

module _ (least most : ℕ) (bytes : List ℕ) where
  -- What is wrong with the byte at this place. If the number ends too early, there is none.
  abbrev pub IsWrong : Wrong → ℕ → Type 0
  IsWrong Ended taken = taken ≡ length bytes
  IsWrong Zero taken = (taken < length bytes) × (get_or bytes taken 1 ≡ 0)
      × (taken ≡ 0 → 0 < least) × (0 < taken → 128 ≤ get_or bytes (taken - 1) 0)
  IsWrong Large taken = (taken < length bytes) × (lower : ℕ) × (lower < get_or bytes taken 0)
      × (number : ℕ) × (rest : List ℕ) × (least ≤ number) × (number ≤ most)
      × (leb128 number ≡ take taken bytes ++ (lower ∷ rest))

  -- Whether no number from `least` to `most` is at the start of the bytes, and this byte is the
  -- first one that makes it so.
  pub record IsBadNumber (bad : BadNumber) : Type 0 where
    pub within : bad.taken ≤ length bytes
    pub begun : (number : ℕ) × (rest : List ℕ) × (least ≤ number) × (number ≤ most)
        × (leb128 number ≡ take bad.taken bytes ++ rest)
    pub stops : bad.taken < length bytes → (number : ℕ) (after more : List ℕ) → least ≤ number
        → number ≤ most → leb128 number ++ after ≢ take (bad.taken + 1) bytes ++ more
    pub ends : bad.taken ≡ length bytes → (number : ℕ) (after : List ℕ)
        → leb128 number ++ after ≢ bytes
    pub wrong : IsWrong bad.wrong bad.taken
