-- What was read of a text of ranges.
use Rattle.std.proofs.Common.{◌≡◌, ◌↔◌, ℕ, ℤ, pos, Bool, true, false, ◌+◌, ◌<◌, ◌≤◌, ◌++◌, inl, inr, List, [], ◌∷◌, Some, None, length, take, drop, get_or, sym, ap, ◌∙◌, subst, refl, arith, append_assoc, append-nil, lit<}
use Rattle.std.proofs.Math.Seq.{take-length}
use Rattle.std.proofs.lemmas.Bool.{cases_lt}
use Rattle.std.proofs.lemmas.List.{take_more, take-append-drop}
use Rattle.std.specs.declared.ops.RangeInclusive.{RangeInclusive}
use Rattle.rsb_integer.specs.Rank.{range_of}
use Rattle.rsb_range_text.specs.Reading.{Finishes, Follows, HasRead, Steps}
use Rattle.rsb_range_text.specs.Text.{HasDigit, IsFirstUnexpected, Spells}
use Rattle.rsb_range_text.specs.declared.ranges.Place.{Place}
use Rattle.rsb_range_text.specs.declared.ranges.Place.TheVariants.{Start, Before, Signed, Digits, Behind, Dot, Dots}
use Rattle.rsb_range_text.proofs.lemmas.Places.{start-end}

-- A text that may follow at a place, and the ranges that it spells from there.
pub record CanGoOn {T : Type 0} (number : T → ℤ) (fits : ℤ → Type 0) (place : Place T) : Type 0 where
  pub rest : List ℕ
  pub more : List (RangeInclusive T)
  pub follows : Follows number fits place more rest

module _ {T : Type 0} (number : T → ℤ) (fits : ℤ → Type 0) where
  -- At first nothing was read, and the place is the start.
  pub has_read-nil : HasRead number fits [] [] Start
  has_read-nil = record { into = into; from = from }
    where
      into : (all : List (RangeInclusive T)) (rest : List ℕ) → Spells number fits ([] ++ rest) all
          → (more : List (RangeInclusive T)) × (all ≡ [] ++ more) × Follows number fits Start more rest
      into [] rest h = ([], refl, h)
      into (range ∷ others) rest h = (range ∷ others, refl, h)

      from : (more : List (RangeInclusive T)) (rest : List ℕ) → Follows number fits Start more rest
          → Spells number fits ([] ++ rest) ([] ++ more)
      from [] rest h = h
      from (range ∷ others) rest h = h

  -- If a byte leads to a next place, `HasRead` holds there once the byte is read.
  has_read-byte : (read : List ℕ) (ranges : List (RangeInclusive T)) (place next : Place T) (byte : ℕ)
      → HasRead number fits read ranges place
      → ((more : List (RangeInclusive T)) (rest : List ℕ)
      → Follows number fits place more (byte ∷ rest) ↔ Follows number fits next more rest)
      → HasRead number fits (read ++ byte ∷ []) ranges next
  has_read-byte read ranges place next byte had step = record {
    into = λ all rest h.
        let found = had.into all (byte ∷ rest)
        (subst (λ (text : List ℕ). Spells number fits text all) (append_assoc read (byte ∷ []) rest) h)
        in (found.0, found.1, (step found.0 rest).0 found.2);
    from = λ more rest h.
        subst (λ (text : List ℕ). Spells number fits text (ranges ++ more))
        (sym (append_assoc read (byte ∷ []) rest)) (had.from more (byte ∷ rest) ((step more rest).1 h));
  }

  pub has_read-more : (text : List ℕ) (at : ℕ) (ranges : List (RangeInclusive T)) (place next : Place T)
      → at < length text → HasRead number fits (take at text) ranges place
      → Steps number fits place (get_or text at 0) (Some next)
      → HasRead number fits (take (at + 1) text) ranges next
  has_read-more text at ranges place next below had step =
      subst (λ (read : List ℕ). HasRead number fits read ranges next)
      (sym (take_more text at 0 below))
      (has_read-byte (take at text) ranges place next (get_or text at 0) had step)

  -- If a range may end at the place, `HasRead` holds after a comma, with that range.
  has_read-range : (read : List ℕ) (ranges : List (RangeInclusive T)) (place : Place T)
      (range : RangeInclusive T) → HasRead number fits read ranges place
      → Finishes number fits place (Some range)
      → HasRead number fits (read ++ 44 ∷ []) (ranges ++ range ∷ []) (Before None)
  has_read-range read ranges place range had finish = record {
    into = λ all rest h.
        let found = had.into all (44 ∷ rest)
        (subst (λ (text : List ℕ). Spells number fits text all) (append_assoc read (44 ∷ []) rest) h)
        in let others = finish.comma found.0 rest found.2
        in (
          others.0,
          found.1 ∙ ap (λ (more : List (RangeInclusive T)). ranges ++ more) others.1
              ∙ sym (append_assoc ranges (range ∷ []) others.0),
          others.2,
        );
    from = λ more rest h.
        subst (λ (all : List (RangeInclusive T)). Spells number fits ((read ++ 44 ∷ []) ++ rest) all)
        (sym (append_assoc ranges (range ∷ []) more))
        (subst (λ (text : List ℕ). Spells number fits text (ranges ++ range ∷ more))
        (sym (append_assoc read (44 ∷ []) rest))
        (had.from (range ∷ more) (44 ∷ rest) (finish.other more rest h)));
  }

  pub has_read-comma : (text : List ℕ) (at : ℕ) (ranges : List (RangeInclusive T)) (place : Place T)
      (range : RangeInclusive T) → at < length text → get_or text at 0 ≡ 44
      → HasRead number fits (take at text) ranges place → Finishes number fits place (Some range)
      → HasRead number fits (take (at + 1) text) (ranges ++ range ∷ []) (Before None)
  has_read-comma text at ranges place range below comma had finish =
      subst (λ (read : List ℕ). HasRead number fits read (ranges ++ range ∷ []) (Before None))
      (ap (λ (byte : ℕ). take at text ++ byte ∷ []) (sym comma) ∙ sym (take_more text at 0 below))
      (has_read-range (take at text) ranges place range had finish)

  -- If all bytes are read, `HasRead` holds for the whole text.
  pub has_read-all : (text : List ℕ) (at : ℕ) (ranges : List (RangeInclusive T)) (place : Place T)
      → length text ≤ at → at ≤ length text → HasRead number fits (take at text) ranges place
      → HasRead number fits text ranges place
  has_read-all text at ranges place past within had =
      let is : at ≡ length text = omega arith in
      subst (λ (read : List ℕ). HasRead number fits read ranges place)
      (ap (λ (n : ℕ). take n text) is ∙ take-length text) had

  -- ---- the end

  -- If the place at the end is still the start, the text spells the ranges read so far.
  pub spells-none : (text : List ℕ) (ranges : List (RangeInclusive T))
      → HasRead number fits text ranges Start → Spells number fits text ranges
  spells-none text ranges had =
      subst (λ (all : List (RangeInclusive T)). Spells number fits text all) (append-nil ranges)
      (subst (λ (bytes : List ℕ). Spells number fits bytes (ranges ++ [])) (append-nil text)
      (had.from [] [] refl))

  pub only-none : (text : List ℕ) (ranges others : List (RangeInclusive T))
      → HasRead number fits text ranges Start → Spells number fits text others → others ≡ ranges
  only-none text ranges others had h =
      let found = had.into others []
      (subst (λ (bytes : List ℕ). Spells number fits bytes others) (sym (append-nil text)) h)
      in found.1 ∙ ap (λ (more : List (RangeInclusive T)). ranges ++ more)
      (start-end number fits found.0 found.2) ∙ append-nil ranges

  -- If a range may end at that place, the text spells the ranges read so far, followed by that
  -- range.
  pub spells-last : (text : List ℕ) (ranges : List (RangeInclusive T)) (place : Place T)
      (range : RangeInclusive T) → HasRead number fits text ranges place
      → Finishes number fits place (Some range) → Spells number fits text (ranges ++ range ∷ [])
  spells-last text ranges place range had finish =
      subst (λ (bytes : List ℕ). Spells number fits bytes (ranges ++ range ∷ [])) (append-nil text)
      (had.from (range ∷ []) [] finish.last)

  pub only-last : (text : List ℕ) (ranges others : List (RangeInclusive T)) (place : Place T)
      (range : RangeInclusive T) → HasRead number fits text ranges place
      → Finishes number fits place (Some range) → Spells number fits text others
      → others ≡ ranges ++ range ∷ []
  only-last text ranges others place range had finish h =
      let found = had.into others []
      (subst (λ (bytes : List ℕ). Spells number fits bytes others) (sym (append-nil text)) h)
      in found.1 ∙ ap (λ (more : List (RangeInclusive T)). ranges ++ more) (finish.end found.0 found.2)

  -- ---- unexpected bytes

  module _ (zero : T) (is_zero : number zero ≡ pos 0) (zero_fits : fits (pos 0)) where
    -- The digit 0 is a number of the type with either sign.
    zero-digit : (negative : Bool) → HasDigit number fits negative 0 0 zero
    zero-digit true = record { is = is_zero; of_type = zero_fits }
    zero-digit false = record { is = is_zero; of_type = zero_fits }

    -- At each place some text may follow, with at most one range more.
    pub can_go_on : (place : Place T) → CanGoOn number fits place
    can_go_on Start = record { rest = []; more = []; follows = refl }
    can_go_on (Before None) = record {
      rest = 48 ∷ [];
      more = range_of (zero, zero) ∷ [];
      follows = inl (inl (zero, lit< tt, zero-digit false, inl (refl, refl)));
    }
    can_go_on (Before (Some start)) = record {
      rest = 48 ∷ [];
      more = range_of (start, zero) ∷ [];
      follows = inl (inl (zero, lit< tt, zero-digit false, (refl, refl)));
    }
    can_go_on (Signed None negative) = record {
      rest = 48 ∷ [];
      more = range_of (zero, zero) ∷ [];
      follows = (zero, lit< tt, zero-digit negative, inl (refl, refl));
    }
    can_go_on (Signed (Some start) negative) = record {
      rest = 48 ∷ [];
      more = range_of (start, zero) ∷ [];
      follows = (zero, lit< tt, zero-digit negative, (refl, refl));
    }
    can_go_on (Digits None negative value) = record {
      rest = [];
      more = range_of (value, value) ∷ [];
      follows = inl (refl, refl);
    }
    can_go_on (Digits (Some start) negative value) = record {
      rest = [];
      more = range_of (start, value) ∷ [];
      follows = (refl, refl);
    }
    can_go_on (Behind None value) = record {
      rest = [];
      more = range_of (value, value) ∷ [];
      follows = inl (refl, refl);
    }
    can_go_on (Behind (Some start) value) = record {
      rest = [];
      more = range_of (start, value) ∷ [];
      follows = (refl, refl);
    }
    can_go_on (Dot start) = record {
      rest = 46 ∷ 61 ∷ 48 ∷ [];
      more = range_of (start, zero) ∷ [];
      follows = (refl, (refl, inl (inl (zero, lit< tt, zero-digit false, (refl, refl)))));
    }
    can_go_on (Dots start) = record {
      rest = 61 ∷ 48 ∷ [];
      more = range_of (start, zero) ∷ [];
      follows = (refl, inl (inl (zero, lit< tt, zero-digit false, (refl, refl))));
    }

    -- Some text that spells ranges starts with the bytes read so far.
    begun : (read : List ℕ) (ranges : List (RangeInclusive T)) (place : Place T)
        → HasRead number fits read ranges place
        → (more : List ℕ) × (all : List (RangeInclusive T)) × Spells number fits (read ++ more) all
    begun read ranges place had =
        let on = can_go_on place in (on.rest, ranges ++ on.more, had.from on.more on.rest on.follows)

    -- If no text that starts with the next byte may follow, that byte is the first unexpected one.
    pub unexpected_byte : (text : List ℕ) (at : ℕ) (ranges : List (RangeInclusive T)) (place : Place T)
        → at < length text → HasRead number fits (take at text) ranges place
        → ((more : List (RangeInclusive T)) (rest : List ℕ)
        → ¬ Follows number fits place more (get_or text at 0 ∷ rest))
        → IsFirstUnexpected number fits text at
    unexpected_byte text at ranges place below had none = record {
      within = omega arith;
      begun = begun (take at text) ranges place had;
      stops = λ _ rest all h.
          let found = had.into all (get_or text at 0 ∷ rest)
          (subst (λ (bytes : List ℕ). Spells number fits bytes all)
          (ap (λ (read : List ℕ). read ++ rest) (take_more text at 0 below)
          ∙ append_assoc (take at text) (get_or text at 0 ∷ []) rest) h)
          in none found.0 rest found.2;
      ends = λ is all h. absurd (omega arith);
    }

    -- If the text may not end at its last place, its end is the first unexpected place.
    pub unexpected_end : (text : List ℕ) (ranges : List (RangeInclusive T)) (place : Place T)
        → HasRead number fits text ranges place
        → ((more : List (RangeInclusive T)) → ¬ Follows number fits place more [])
        → IsFirstUnexpected number fits text (length text)
    unexpected_end text ranges place had none = record {
      within = omega arith;
      begun = subst (λ (read : List ℕ). (more : List ℕ) × (ranges : List (RangeInclusive T))
          × Spells number fits (read ++ more) ranges) (sym (take-length text)) (begun text ranges place had);
      stops = λ below rest ranges h. absurd (omega arith);
      ends = λ is others h.
          let found = had.into others []
          (subst (λ (bytes : List ℕ). Spells number fits bytes others) (sym (append-nil text)) h)
          in none found.0 found.2;
    }

-- A text with an unexpected byte or end spells no ranges.
pub unexpected-none : {T : Type 0} (number : T → ℤ) (fits : ℤ → Type 0) (text : List ℕ) (place : ℕ)
    → IsFirstUnexpected number fits text place → (ranges : List (RangeInclusive T))
    → ¬ Spells number fits text ranges
unexpected-none number fits text place unexpected ranges h = elim (cases_lt place (length text)) [
  | inl below ↦ unexpected.stops below (drop (place + 1) text) ranges
      (subst (λ (bytes : List ℕ). Spells number fits bytes ranges) (sym (take-append-drop (place + 1) text)) h)
  | inr past ↦ let within = unexpected.within in unexpected.ends (omega arith) ranges h
]
