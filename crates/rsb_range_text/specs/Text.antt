-- The ranges that text spells, byte by byte.
--
-- Text that is empty, or has only blanks, spells no ranges. Otherwise the ranges are separated by
-- commas. A range is a number, or two numbers with `..=` between them. Blanks are allowed around
-- each number. A number is an optional sign followed by decimal digits, and must fit the type.
-- `-0` is 0 for every type. For `u8`:
--
--   "" and "  "            no ranges
--   "1..=3, 7..=8"         1..=3 and 7..=8
--   "7,3 ..= 5 , +4..=2"   7..=7, 3..=5 and 4..=2, in this order; the last has no members
--   "250..=256"            nothing: 256 is not a `u8`. "250..=25" could go on, so the first
--                          unexpected byte is the 6, at 8
--   "1,,2"                 nothing: the second comma is unexpected, at 2
--   "1,"                   nothing: it ends too early, at 2
use Rattle.std.specs.Prelude.{◌≡◌, ℕ, ℤ, pos, neg_ℤ, Bool, true, false, cond, ◌==◌, ◌||◌, ◌⊎◌, ◌+◌, ◌*◌, ◌<◌, ◌≤◌, ◌++◌, List, [], ◌∷◌, IsTrue, length, take, unsigned_abs}
use Rattle.std.specs.Char.{digit_value}
use Rattle.std.specs.declared.ops.RangeInclusive.{RangeInclusive}
use Rattle.rsb_integer.specs.Rank.{range_of}

-- ---- bytes

-- Whether the byte is a space, a tab, a line feed or a carriage return.
abbrev pub is_blank : ℕ → Bool
is_blank byte = (byte == 32) || (byte == 9) || (byte == 10) || (byte == 13)

-- Whether the text starts with the byte, and `Rest` holds for what follows.
abbrev pub Then : ℕ → (List ℕ → Type 0) → List ℕ → Type 0
Then byte Rest [] = ⊥
Then byte Rest (first ∷ rest) = (first ≡ byte) × Rest rest

-- Whether the text starts with any number of blanks, and `Rest` holds for what follows.
abbrev pub BlanksThen : (List ℕ → Type 0) → List ℕ → Type 0
BlanksThen Rest [] = Rest []
BlanksThen Rest (first ∷ rest) =
    Rest (first ∷ rest) ⊎ (IsTrue (is_blank first) × BlanksThen Rest rest)

-- ---- numbers of a type: what number a value is, and which numbers are of the type

-- The number of this magnitude, negated if a minus sign is before it.
abbrev pub signed_by : Bool → ℕ → ℤ
signed_by negative magnitude = cond negative (neg_ℤ (pos magnitude)) (pos magnitude)

module _ {T : Type 0} (number : T → ℤ) (fits : ℤ → Type 0) where
  -- Whether the value is the number with this sign whose digits are those of `magnitude` followed
  -- by `digit`, and this number is one of the type.
  pub record HasDigit (negative : Bool) (magnitude digit : ℕ) (value : T) : Type 0 where
    pub is : number value ≡ signed_by negative (magnitude * 10 + digit)
    pub of_type : fits (signed_by negative (magnitude * 10 + digit))

  -- Whether the text starts with any number of further digits of a number that is `value` so far.
  -- `Rest` holds for the whole number and what follows it.
  abbrev pub DigitsThen : Bool → (T → List ℕ → Type 0) → T → List ℕ → Type 0
  DigitsThen negative Rest value [] = Rest value []
  DigitsThen negative Rest value (first ∷ rest) = Rest value (first ∷ rest)
      ⊎ ((next : T) × (digit_value first < 10)
      × HasDigit negative (unsigned_abs (number value)) (digit_value first) next
      × DigitsThen negative Rest next rest)

  -- Whether the text starts with one digit or more, and `Rest` holds for their number and what
  -- follows it.
  abbrev pub NumeralThen : Bool → (T → List ℕ → Type 0) → List ℕ → Type 0
  NumeralThen negative Rest [] = ⊥
  NumeralThen negative Rest (first ∷ rest) = (next : T) × (digit_value first < 10)
      × HasDigit negative 0 (digit_value first) next × DigitsThen negative Rest next rest

  -- Whether the text starts with an optional sign and digits, and `Rest` holds for their number and
  -- what follows it. The codes are 43 for '+' and 45 for '-'.
  abbrev pub SignedThen : (T → List ℕ → Type 0) → List ℕ → Type 0
  SignedThen Rest text = NumeralThen false Rest text
      ⊎ (Then 43 (NumeralThen false Rest) text ⊎ Then 45 (NumeralThen true Rest) text)

  -- Whether the text starts with a number with optional blanks around it, and `Rest` holds for the
  -- number and what follows the blanks.
  abbrev pub NumberThen : (T → List ℕ → Type 0) → List ℕ → Type 0
  NumberThen Rest text = BlanksThen (SignedThen (λ value. BlanksThen (Rest value))) text

  -- ---- ranges

  -- Whether the range is from `start` to `end`, and `Rest` holds for the text.
  abbrev pub EndThen : RangeInclusive T → (List ℕ → Type 0) → T → T → List ℕ → Type 0
  EndThen range Rest start end text = (range ≡ range_of (start, end)) × Rest text

  -- Whether the text goes on after the start of the range. Either the range has only this number,
  -- or `..=` and the end of the range come next. `Rest` holds for what follows. The codes are 46
  -- for '.' and 61 for '='.
  abbrev pub StartThen : RangeInclusive T → (List ℕ → Type 0) → T → List ℕ → Type 0
  StartThen range Rest start text = EndThen range Rest start start text
      ⊎ Then 46 (Then 46 (Then 61 (NumberThen (EndThen range Rest start)))) text

  -- Whether the text goes on with the other ranges, each after a comma, and then ends. The code of
  -- ',' is 44.
  abbrev pub OthersFollow : List (RangeInclusive T) → List ℕ → Type 0
  OthersFollow [] text = text ≡ []
  OthersFollow (range ∷ others) text =
      Then 44 (NumberThen (StartThen range (OthersFollow others))) text

  -- Whether the text spells the ranges.
  abbrev pub Spells : List ℕ → List (RangeInclusive T) → Type 0
  Spells text [] = BlanksThen (λ rest. rest ≡ []) text
  Spells text (range ∷ others) = NumberThen (StartThen range (OthersFollow others)) text

  -- Whether the byte at this place is the first unexpected one. Some text that spells ranges starts
  -- with the bytes before it, and none starts with those bytes and the byte itself. If the place is
  -- the end of the text, the text spells no ranges, but some longer text that starts with it does.
  pub record IsFirstUnexpected (text : List ℕ) (place : ℕ) : Type 0 where
    pub within : place ≤ length text
    pub begun : (more : List ℕ) × (ranges : List (RangeInclusive T))
        × Spells (take place text ++ more) ranges
    pub stops : place < length text → (more : List ℕ) (ranges : List (RangeInclusive T))
        → ¬ Spells (take (place + 1) text ++ more) ranges
    pub ends : place ≡ length text → (ranges : List (RangeInclusive T)) → ¬ Spells text ranges
