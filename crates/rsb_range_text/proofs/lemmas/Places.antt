-- Where each byte of a text of ranges leads.
use Rattle.std.proofs.Common.{◌≡◌, ◌≢◌, ◌↔◌, ℕ, ℤ, pos, Bool, true, false, ◌+◌, ◌*◌, ◌<◌, inl, inr, List, [], ◌∷◌, Option, Some, None, sym, ap, ◌∙◌, subst, refl, arith, unsigned_abs}
use Rattle.std.proofs.lemmas.Bool.{false≢true}
use Rattle.std.proofs.lemmas.Bool.Decides.{nat_tests}
use Rattle.std.specs.Char.{digit_value}
use Rattle.std.specs.declared.ops.RangeInclusive.{RangeInclusive}
use Rattle.rsb_integer.specs.Rank.{range_of}
use Rattle.rsb_range_text.specs.Reading.{Finishes, Follows, NextThen, Steps, start_or}
use Rattle.rsb_range_text.specs.Text.{BlanksThen, HasDigit, NumberThen, NumeralThen, OthersFollow, is_blank, signed_by}
use Rattle.rsb_range_text.specs.declared.ranges.Place.{Place}
use Rattle.rsb_range_text.specs.declared.ranges.Place.TheVariants.{Start, Before, Signed, Digits, Behind, Dot}

-- ---- bytes

-- A list with an item is not empty.
nothing-follows : (byte : ℕ) (rest : List ℕ) → byte ∷ rest ≡ [] → ⊥
nothing-follows byte rest is = cc

-- A blank is not a digit, a sign or a dot.
blank-digit : (byte : ℕ) → is_blank byte ≡ true → digit_value byte < 10 → ⊥
blank-digit byte blank digit = grind (arith, nat_tests)

blank-sign : (byte : ℕ) → is_blank byte ≡ true → (byte ≢ 43) × (byte ≢ 45) × (byte ≢ 46)
blank-sign byte blank = (λ is. cc (ap is_blank is), λ is. cc (ap is_blank is), λ is. cc (ap is_blank is))

-- A digit is not a dot.
digit-dot : (byte : ℕ) → digit_value byte < 10 → byte ≢ 46
digit-dot byte digit is = omega (arith, ap digit_value is)

module _ {T : Type 0} (number : T → ℤ) (fits : ℤ → Type 0) where
  -- If the same texts that start with a byte may follow at two places, the byte leads from both to
  -- the same result.
  pub leads-back : (place other : Place T) (byte : ℕ) (result : Option (Place T))
      → ((more : List (RangeInclusive T)) (rest : List ℕ)
      → Follows number fits place more (byte ∷ rest) ↔ Follows number fits other more (byte ∷ rest))
      → Steps number fits other byte result → Steps number fits place byte result
  leads-back place other byte None same steps = λ more rest h. steps more rest ((same more rest).0 h)
  leads-back place other byte (Some next) same steps = λ more rest. (
    λ h. (steps more rest).0 ((same more rest).0 h),
    λ h. (same more rest).1 ((steps more rest).1 h),
  )

  -- ---- what comes after a number

  -- A byte that is not a comma does not start further ranges.
  pub no_others : (others : List (RangeInclusive T)) (byte : ℕ) (rest : List ℕ) → byte ≢ 44
      → OthersFollow number fits others (byte ∷ rest) → ⊥
  no_others [] byte rest other h = cc
  no_others (range ∷ others) byte rest other h = other h.0

  -- Directly after a number and its blanks, only a comma or a dot may come.
  no_next : (start : Option T) (range : RangeInclusive T) (others : List (RangeInclusive T)) (value : T)
      (byte : ℕ) (rest : List ℕ) → byte ≢ 44 → byte ≢ 46
      → NextThen number fits start range (OthersFollow number fits others) value (byte ∷ rest) → ⊥
  no_next None range others value byte rest other dot (inl h) = no_others others byte rest other h.1
  no_next None range others value byte rest other dot (inr h) = dot h.0
  no_next (Some start) range others value byte rest other dot h =
      no_others others byte rest other h.1

  -- Directly after the second number of a range and its blanks, only a comma may come.
  no_third : (start : T) (range : RangeInclusive T) (others : List (RangeInclusive T)) (value : T)
      (byte : ℕ) (rest : List ℕ) → byte ≢ 44
      → NextThen number fits (Some start) range (OthersFollow number fits others) value (byte ∷ rest)
      → ⊥
  no_third start range others value byte rest other h = no_others others byte rest other h.1

  -- ---- after a number, at the place `Behind`

  pub behind-blank : (start : Option T) (value : T) (byte : ℕ) → byte ≢ 44 → is_blank byte ≡ true
      → (more : List (RangeInclusive T)) (rest : List ℕ)
      → Follows number fits (Behind start value) more (byte ∷ rest)
      ↔ Follows number fits (Behind start value) more rest
  behind-blank start value byte other blank [] rest = (λ h. h, λ h. h)
  behind-blank start value byte other blank (range ∷ others) rest = (to, λ h. inr (blank, h))
    where
      to : Follows number fits (Behind start value) (range ∷ others) (byte ∷ rest)
          → Follows number fits (Behind start value) (range ∷ others) rest
      to (inl h) = absurd (no_next start range others value byte rest other (blank-sign byte blank).2 h)
      to (inr h) = h.1

  pub behind-dot : (value : T) (byte : ℕ) → byte ≡ 46
      → (more : List (RangeInclusive T)) (rest : List ℕ)
      → Follows number fits (Behind None value) more (byte ∷ rest)
      ↔ Follows number fits (Dot value) more rest
  behind-dot value byte dot [] rest = (λ h. h, λ h. h)
  behind-dot value byte dot (range ∷ others) rest = (to, λ h. inl (inr (dot, h)))
    where
      to : Follows number fits (Behind None value) (range ∷ others) (byte ∷ rest)
          → Follows number fits (Dot value) (range ∷ others) rest
      to (inl (inl h)) = absurd (no_others others byte rest (λ comma. omega (arith, dot, comma)) h.1)
      to (inl (inr h)) = h.1
      to (inr h) = absurd ((blank-sign byte h.0).2 dot)

  pub behind-none : (start : Option T) (value : T) (byte : ℕ) → byte ≢ 44 → is_blank byte ≡ false
      → byte ≢ 46 → (more : List (RangeInclusive T)) (rest : List ℕ)
      → Follows number fits (Behind start value) more (byte ∷ rest) → ⊥
  behind-none start value byte other full dot [] rest h = h
  behind-none start value byte other full dot (range ∷ others) rest (inl h) =
      no_next start range others value byte rest other dot h
  behind-none start value byte other full dot (range ∷ others) rest (inr h) = cc (full, h.0)

  pub behind-third : (start : T) (value : T) (byte : ℕ) → byte ≢ 44 → is_blank byte ≡ false
      → (more : List (RangeInclusive T)) (rest : List ℕ)
      → Follows number fits (Behind (Some start) value) more (byte ∷ rest) → ⊥
  behind-third start value byte other full [] rest h = h
  behind-third start value byte other full (range ∷ others) rest (inl h) =
      no_third start range others value byte rest other h
  behind-third start value byte other full (range ∷ others) rest (inr h) = cc (full, h.0)

  -- ---- digits

  module _ (differ : (x y : T) → number x ≡ number y → x ≡ y) where
    -- Only one value is the number with the digit.
    one_value : (negative : Bool) (magnitude digit : ℕ) (x y : T)
        → HasDigit number fits negative magnitude digit x
        → HasDigit number fits negative magnitude digit y → x ≡ y
    one_value negative magnitude digit x y one other = differ x y (one.is ∙ sym other.is)

    pub signed-digit : (start : Option T) (negative : Bool) (byte : ℕ) (value : T)
        → digit_value byte < 10 → HasDigit number fits negative 0 (digit_value byte) value
        → (more : List (RangeInclusive T)) (rest : List ℕ)
        → Follows number fits (Signed start negative) more (byte ∷ rest)
        ↔ Follows number fits (Digits start negative value) more rest
    signed-digit start negative byte value digit has [] rest = (λ h. h, λ h. h)
    signed-digit start negative byte value digit has (range ∷ others) rest = (
      λ h. subst (λ (x : T). Follows number fits (Digits start negative x) (range ∷ others) rest)
          (one_value negative 0 (digit_value byte) h.0 value h.2 has) h.3,
      λ h. (value, digit, has, h),
    )

    pub digits-digit : (start : Option T) (negative : Bool) (before value : T) (byte : ℕ)
        → byte ≢ 44 → digit_value byte < 10
        → HasDigit number fits negative (unsigned_abs (number before)) (digit_value byte) value
        → (more : List (RangeInclusive T)) (rest : List ℕ)
        → Follows number fits (Digits start negative before) more (byte ∷ rest)
        ↔ Follows number fits (Digits start negative value) more rest
    digits-digit start negative before value byte other digit has [] rest = (λ h. h, λ h. h)
    digits-digit start negative before value byte other digit has (range ∷ others) rest =
        (to, λ h. inr (value, digit, has, h))
      where
        to : Follows number fits (Digits start negative before) (range ∷ others) (byte ∷ rest)
            → Follows number fits (Digits start negative value) (range ∷ others) rest
        to (inl (inl h)) =
            absurd (no_next start range others before byte rest other (digit-dot byte digit) h)
        to (inl (inr h)) = absurd (blank-digit byte h.0 digit)
        to (inr h) =
            subst (λ (x : T). Follows number fits (Digits start negative x) (range ∷ others) rest)
            (one_value negative (unsigned_abs (number before)) (digit_value byte) h.0 value h.2 has)
            h.3

    pub signed-found : (start : Option T) (negative : Bool) (byte digit : ℕ) (zero value : T)
        → digit_value byte < 10 → digit ≡ digit_value byte → number zero ≡ pos 0
        → HasDigit number fits negative (unsigned_abs (number zero)) digit value
        → (more : List (RangeInclusive T)) (rest : List ℕ)
        → Follows number fits (Signed start negative) more (byte ∷ rest)
        ↔ Follows number fits (Digits start negative value) more rest
    signed-found start negative byte digit zero value below is is_zero has =
        signed-digit start negative byte value below
        (subst (λ (d : ℕ). HasDigit number fits negative 0 d value) is
        (subst (λ (n : ℤ). HasDigit number fits negative (unsigned_abs n) digit value) is_zero has))

    pub digits-found : (start : Option T) (negative : Bool) (before value : T) (byte digit : ℕ)
        → byte ≢ 44 → digit_value byte < 10 → digit ≡ digit_value byte
        → HasDigit number fits negative (unsigned_abs (number before)) digit value
        → (more : List (RangeInclusive T)) (rest : List ℕ)
        → Follows number fits (Digits start negative before) more (byte ∷ rest)
        ↔ Follows number fits (Digits start negative value) more rest
    digits-found start negative before value byte digit other below is has =
        digits-digit start negative before value byte other below
        (subst (λ (d : ℕ). HasDigit number fits negative (unsigned_abs (number before)) d value) is has)

  pub digits-none : (start : Option T) (negative : Bool) (before : T) (byte : ℕ)
      → byte ≢ 44 → digit_value byte < 10
      → ¬ fits (signed_by negative (unsigned_abs (number before) * 10 + digit_value byte))
      → (more : List (RangeInclusive T)) (rest : List ℕ)
      → Follows number fits (Digits start negative before) more (byte ∷ rest) → ⊥
  digits-none start negative before byte other digit none [] rest h = h
  digits-none start negative before byte other digit none (range ∷ others) rest (inl (inl h)) =
      no_next start range others before byte rest other (digit-dot byte digit) h
  digits-none start negative before byte other digit none (range ∷ others) rest (inl (inr h)) =
      blank-digit byte h.0 digit
  digits-none start negative before byte other digit none (range ∷ others) rest (inr h) =
      none h.2.of_type

  pub digits-lacking : (start : Option T) (negative : Bool) (before : T) (byte digit : ℕ)
      → byte ≢ 44 → digit_value byte < 10 → digit ≡ digit_value byte
      → ¬ fits (signed_by negative (unsigned_abs (number before) * 10 + digit))
      → (more : List (RangeInclusive T)) (rest : List ℕ)
      → Follows number fits (Digits start negative before) more (byte ∷ rest) → ⊥
  digits-lacking start negative before byte digit other below is none =
      digits-none start negative before byte other below
      (subst (λ (d : ℕ). ¬ fits (signed_by negative (unsigned_abs (number before) * 10 + d))) is none)

  -- A byte that is not a digit ends the number.
  pub digits-ended : (start : Option T) (negative : Bool) (value : T) (byte : ℕ)
      → ¬ (digit_value byte < 10) → (more : List (RangeInclusive T)) (rest : List ℕ)
      → Follows number fits (Digits start negative value) more (byte ∷ rest)
      ↔ Follows number fits (Behind start value) more (byte ∷ rest)
  digits-ended start negative value byte none [] rest = (λ h. h, λ h. h)
  digits-ended start negative value byte none (range ∷ others) rest = (to, λ h. inl h)
    where
      to : Follows number fits (Digits start negative value) (range ∷ others) (byte ∷ rest)
          → Follows number fits (Behind start value) (range ∷ others) (byte ∷ rest)
      to (inl h) = h
      to (inr h) = absurd (none h.1)

  -- ---- before a number

  module _ (Rest : T → List ℕ → Type 0) where
    -- The digits of a number come after its sign, or at once if there is no sign.
    number-plus : (byte : ℕ) (rest : List ℕ) → byte ≡ 43
        → NumberThen number fits Rest (byte ∷ rest)
        ↔ NumeralThen number fits false (λ value. BlanksThen (Rest value)) rest
    number-plus byte rest plus = (to, λ h. inl (inr (inl (plus, h))))
      where
        to : NumberThen number fits Rest (byte ∷ rest)
            → NumeralThen number fits false (λ value. BlanksThen (Rest value)) rest
        to (inl (inl h)) = absurd (omega (arith, h.1, ap digit_value plus))
        to (inl (inr (inl h))) = h.1
        to (inl (inr (inr h))) = absurd (omega (arith, plus, h.0))
        to (inr h) = absurd ((blank-sign byte h.0).0 plus)

    number-minus : (byte : ℕ) (rest : List ℕ) → byte ≡ 45
        → NumberThen number fits Rest (byte ∷ rest)
        ↔ NumeralThen number fits true (λ value. BlanksThen (Rest value)) rest
    number-minus byte rest minus = (to, λ h. inl (inr (inr (minus, h))))
      where
        to : NumberThen number fits Rest (byte ∷ rest)
            → NumeralThen number fits true (λ value. BlanksThen (Rest value)) rest
        to (inl (inl h)) = absurd (omega (arith, h.1, ap digit_value minus))
        to (inl (inr (inl h))) = absurd (omega (arith, minus, h.0))
        to (inl (inr (inr h))) = h.1
        to (inr h) = absurd ((blank-sign byte h.0).1 minus)

    number-bare : (byte : ℕ) (rest : List ℕ) → is_blank byte ≡ false → byte ≢ 43 → byte ≢ 45
        → NumberThen number fits Rest (byte ∷ rest)
        ↔ NumeralThen number fits false (λ value. BlanksThen (Rest value)) (byte ∷ rest)
    number-bare byte rest full plus minus = (to, λ h. inl (inl h))
      where
        to : NumberThen number fits Rest (byte ∷ rest)
            → NumeralThen number fits false (λ value. BlanksThen (Rest value)) (byte ∷ rest)
        to (inl (inl h)) = h
        to (inl (inr (inl h))) = absurd (plus h.0)
        to (inl (inr (inr h))) = absurd (minus h.0)
        to (inr h) = cc (full, h.0)

  pub before-plus : (start : Option T) (byte : ℕ) → byte ≡ 43
      → (more : List (RangeInclusive T)) (rest : List ℕ)
      → Follows number fits (Before start) more (byte ∷ rest)
      ↔ Follows number fits (Signed start false) more rest
  before-plus start byte plus [] rest = (λ h. h, λ h. h)
  before-plus start byte plus (range ∷ others) rest =
      number-plus (NextThen number fits start range (OthersFollow number fits others)) byte rest plus

  pub before-minus : (start : Option T) (byte : ℕ) → byte ≡ 45
      → (more : List (RangeInclusive T)) (rest : List ℕ)
      → Follows number fits (Before start) more (byte ∷ rest)
      ↔ Follows number fits (Signed start true) more rest
  before-minus start byte minus [] rest = (λ h. h, λ h. h)
  before-minus start byte minus (range ∷ others) rest =
      number-minus (NextThen number fits start range (OthersFollow number fits others)) byte rest minus

  pub before-bare : (start : Option T) (byte : ℕ) → is_blank byte ≡ false → byte ≢ 43 → byte ≢ 45
      → (more : List (RangeInclusive T)) (rest : List ℕ)
      → Follows number fits (Before start) more (byte ∷ rest)
      ↔ Follows number fits (Signed start false) more (byte ∷ rest)
  before-bare start byte full plus minus [] rest = (λ h. h, λ h. h)
  before-bare start byte full plus minus (range ∷ others) rest =
      number-bare (NextThen number fits start range (OthersFollow number fits others)) byte rest full
      plus minus

  -- ---- at the start of the text

  -- A byte that is not a blank leads where it would lead before a number.
  pub start-full : (byte : ℕ) → is_blank byte ≡ false
      → (more : List (RangeInclusive T)) (rest : List ℕ)
      → Follows number fits Start more (byte ∷ rest) ↔ Follows number fits (Before None) more (byte ∷ rest)
  start-full byte full [] rest = (to, λ h. absurd h)
    where
      to : Follows number fits Start [] (byte ∷ rest) → ⊥
      to (inl h) = cc
      to (inr h) = cc (full, h.0)
  start-full byte full (range ∷ others) rest = (λ h. h, λ h. h)

  pub start-end : (more : List (RangeInclusive T)) → Follows number fits Start more [] → more ≡ []
  start-end [] h = refl
  start-end (range ∷ others) (inl h) = absurd h
  start-end (range ∷ others) (inr (inl h)) = absurd h
  start-end (range ∷ others) (inr (inr h)) = absurd h

  -- ---- where a range may end

  others-comma : (others : List (RangeInclusive T)) (rest : List ℕ)
      → OthersFollow number fits others (44 ∷ rest) → Follows number fits (Before None) others rest
  others-comma [] rest h = absurd (nothing-follows 44 rest h)
  others-comma (range ∷ others) rest h = h.1

  others-more : (others : List (RangeInclusive T)) (rest : List ℕ)
      → Follows number fits (Before None) others rest → OthersFollow number fits others (44 ∷ rest)
  others-more [] rest h = absurd h
  others-more (range ∷ others) rest h = (refl, h)

  others-end : (others : List (RangeInclusive T)) → OthersFollow number fits others [] → others ≡ []
  others-end [] h = refl
  others-end (range ∷ others) h = absurd h

  -- After a comma, the other ranges come.
  finishes-comma : (start : Option T) (value : T) (more : List (RangeInclusive T)) (rest : List ℕ)
      → Follows number fits (Behind start value) more (44 ∷ rest)
      → (others : List (RangeInclusive T)) × (more ≡ range_of (start_or start value, value) ∷ others)
      × Follows number fits (Before None) others rest
  finishes-comma start value [] rest h = absurd h
  finishes-comma None value (range ∷ others) rest (inl (inl h)) =
      (others, ap (λ (first : RangeInclusive T). first ∷ others) h.0, others-comma others rest h.1)
  finishes-comma None value (range ∷ others) rest (inl (inr h)) = absurd (omega (arith, h.0))
  finishes-comma None value (range ∷ others) rest (inr h) = absurd (false≢true h.0)
  finishes-comma (Some start) value (range ∷ others) rest (inl h) =
      (others, ap (λ (first : RangeInclusive T). first ∷ others) h.0, others-comma others rest h.1)
  finishes-comma (Some start) value (range ∷ others) rest (inr h) = absurd (false≢true h.0)

  finishes-other : (start : Option T) (value : T) (others : List (RangeInclusive T)) (rest : List ℕ)
      → Follows number fits (Before None) others rest
      → Follows number fits (Behind start value) (range_of (start_or start value, value) ∷ others)
      (44 ∷ rest)
  finishes-other None value others rest h = inl (inl (refl, others-more others rest h))
  finishes-other (Some start) value others rest h = inl (refl, others-more others rest h)

  finishes-end : (start : Option T) (value : T) (more : List (RangeInclusive T))
      → Follows number fits (Behind start value) more []
      → more ≡ range_of (start_or start value, value) ∷ []
  finishes-end start value [] h = absurd h
  finishes-end None value (range ∷ others) (inl h) =
      (λ i. h.0 i ∷ others-end others h.1 i)
  finishes-end None value (range ∷ others) (inr h) = absurd h
  finishes-end (Some start) value (range ∷ others) h = (λ i. h.0 i ∷ others-end others h.1 i)

  finishes-last : (start : Option T) (value : T)
      → Follows number fits (Behind start value) (range_of (start_or start value, value) ∷ []) []
  finishes-last None value = inl (refl, refl)
  finishes-last (Some start) value = (refl, refl)

  pub behind-finishes : (start : Option T) (value : T)
      → Finishes number fits (Behind start value) (Some (range_of (start_or start value, value)))
  behind-finishes start value = record {
    comma = finishes-comma start value;
    other = finishes-other start value;
    end = finishes-end start value;
    last = finishes-last start value;
  }

  -- If the text ends after a digit, it ends as it would after the number.
  digits-end : (start : Option T) (negative : Bool) (value : T) (more : List (RangeInclusive T))
      → Follows number fits (Digits start negative value) more []
      → Follows number fits (Behind start value) more []
  digits-end start negative value [] h = h
  digits-end start negative value (range ∷ others) h = h

  comma-digit : ¬ (digit_value 44 < 10)
  comma-digit digit = omega (arith, digit)

  pub digits-finishes : (start : Option T) (negative : Bool) (value : T)
      → Finishes number fits (Digits start negative value)
      (Some (range_of (start_or start value, value)))
  digits-finishes start negative value = record {
    comma = λ more rest h. finishes-comma start value more rest
        ((digits-ended start negative value 44 comma-digit more rest).0 h);
    other = λ others rest h.
        (digits-ended start negative value 44 comma-digit
        (range_of (start_or start value, value) ∷ others) rest).1
        (finishes-other start value others rest h);
    end = λ more h. finishes-end start value more (digits-end start negative value more h);
    last = finishes-last start value;
  }
