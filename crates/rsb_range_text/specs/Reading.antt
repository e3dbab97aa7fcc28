-- What may come next at a place in text that lists ranges.
use Rattle.std.specs.Prelude.{◌≡◌, ◌≢◌, ◌↔◌, ℕ, ℤ, ◌++◌, List, [], ◌∷◌, Option, Some, None, MatchOption}
use Rattle.std.specs.declared.ops.RangeInclusive.{RangeInclusive}
use Rattle.rsb_range_text.specs.Text.{BlanksThen, DigitsThen, EndThen, NumberThen, NumeralThen, OthersFollow, Spells, StartThen, Then}
use Rattle.rsb_range_text.specs.declared.ranges.Place.{Place}
use Rattle.rsb_range_text.specs.declared.ranges.Place.TheVariants.{Start, Before, Signed, Digits, Behind, Dot, Dots}

-- The start of a range that ends with this number: the number it began with, if there is one, and
-- otherwise this number.
abbrev pub start_or : {T : Type 0} → Option T → T → T
start_or None value = value
start_or (Some start) value = start

module _ {T : Type 0} (number : T → ℤ) (fits : ℤ → Type 0) where
  -- Whether the text after a number of the range completes the range, and `Rest` holds for what
  -- follows. The range began with `start`, if there is one.
  abbrev pub NextThen : Option T → RangeInclusive T → (List ℕ → Type 0) → T → List ℕ → Type 0
  NextThen None range Rest value text = StartThen number fits range Rest value text
  NextThen (Some start) range Rest value text = EndThen number fits range Rest start value text

  -- Whether the rest of the text continues from the place with the range, and `Rest` holds for what
  -- follows.
  abbrev pub GoesOn : Place T → RangeInclusive T → (List ℕ → Type 0) → List ℕ → Type 0
  GoesOn Start range Rest text = NumberThen number fits (NextThen None range Rest) text
  GoesOn (Before start) range Rest text = NumberThen number fits (NextThen start range Rest) text
  GoesOn (Signed start negative) range Rest text =
      NumeralThen number fits negative (λ value. BlanksThen (NextThen start range Rest value)) text
  GoesOn (Digits start negative value) range Rest text =
      DigitsThen number fits negative (λ value. BlanksThen (NextThen start range Rest value)) value
      text
  GoesOn (Behind start value) range Rest text = BlanksThen (NextThen start range Rest value) text
  GoesOn (Dot start) range Rest text =
      Then 46 (Then 61 (NumberThen number fits (EndThen number fits range Rest start))) text
  GoesOn (Dots start) range Rest text =
      Then 61 (NumberThen number fits (EndThen number fits range Rest start)) text

  -- Whether the rest of the text continues from the place without a range.
  abbrev pub GoesOnEmpty : Place T → List ℕ → Type 0
  GoesOnEmpty Start text = BlanksThen (λ rest. rest ≡ []) text
  GoesOnEmpty (Before start) text = ⊥
  GoesOnEmpty (Signed start negative) text = ⊥
  GoesOnEmpty (Digits start negative value) text = ⊥
  GoesOnEmpty (Behind start value) text = ⊥
  GoesOnEmpty (Dot start) text = ⊥
  GoesOnEmpty (Dots start) text = ⊥

  -- Whether the rest of the text spells these ranges from the place on.
  abbrev pub Follows : Place T → List (RangeInclusive T) → List ℕ → Type 0
  Follows place [] text = GoesOnEmpty place text
  Follows place (range ∷ others) text = GoesOn place range (OthersFollow number fits others) text

  -- Whether the byte leads from the place to the next one, or to none if no text may continue with
  -- this byte.
  abbrev pub Steps : Place T → ℕ → Option (Place T) → Type 0
  Steps place byte result = (more : List (RangeInclusive T)) (rest : List ℕ) → MatchOption result
      (¬ Follows place more (byte ∷ rest))
      (λ next. Follows place more (byte ∷ rest) ↔ Follows next more rest)

  -- Whether `result` is the range that may end at the place, or `None` if no range may.
  pub record Finishes (place : Place T) (result : Option (RangeInclusive T)) : Type 0 where
    pub comma : (more : List (RangeInclusive T)) (rest : List ℕ) → MatchOption result
        (¬ Follows place more (44 ∷ rest))
        (λ range. Follows place more (44 ∷ rest) → (others : List (RangeInclusive T))
        × (more ≡ range ∷ others) × Follows (Before None) others rest)
    pub other : (others : List (RangeInclusive T)) (rest : List ℕ) → MatchOption result
        (Unit {0}) (λ range. Follows (Before None) others rest
        → Follows place (range ∷ others) (44 ∷ rest))
    pub end : (more : List (RangeInclusive T)) → MatchOption result
        (place ≢ Start → ¬ Follows place more [])
        (λ range. Follows place more [] → more ≡ range ∷ [])
    pub last : MatchOption result (Unit {0}) (λ range. Follows place (range ∷ []) [])

  -- Whether the bytes read so far spell the ranges, as far as they go, and lead to the place.
  pub record HasRead (read : List ℕ) (ranges : List (RangeInclusive T)) (place : Place T) : Type 0
    where
      pub into : (all : List (RangeInclusive T)) (rest : List ℕ) → Spells number fits (read ++ rest) all
          → (more : List (RangeInclusive T)) × (all ≡ ranges ++ more) × Follows place more rest
      pub from : (more : List (RangeInclusive T)) (rest : List ℕ) → Follows place more rest
          → Spells number fits (read ++ rest) (ranges ++ more)
