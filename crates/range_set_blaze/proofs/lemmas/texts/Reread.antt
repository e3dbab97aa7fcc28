-- The text that `Display` writes for a set spells its runs.
use Rattle.std.proofs.Common.{◌≡◌, ℕ, ℤ, pos, negsuc, zero, suc, Bool, true, false, ◌+◌, ◌*◌, ◌<◌, ◌≤◌, ◌++◌, inl, inr, List, [], ◌∷◌, Option, Some, length, map, sym, ap, ◌∙◌, subst, refl, arith, append_assoc, unsigned_abs, codes, decimal}
use Rattle.std.proofs.lemmas.Fmt.{decimal_is_IsNumeral_wide}
use Rattle.std.proofs.lemmas.List.Elements.{All-head, All-tail, All-weaker}
use Rattle.std.specs.Char.{digit_value}
use Rattle.std.specs.Fmt.{comma_space, debug_items, signed_decimal}
use Rattle.std.specs.Prelude.{All}
use Rattle.std.specs.Str.Parse.{AllDigits, digits_value, digits_value_after}
use Rattle.std.specs.declared.ops.RangeInclusive.{RangeInclusive}
use Rattle.rsb_integer.specs.Rank.{intervals_of, range_of}
use Rattle.rsb_integer.specs.Runs.{Interval, members, AreRuns, IsCanonicalIn, IsMaximalRun}
use Rattle.rsb_integer.specs.Selection.{Selection}
use Rattle.rsb_integer.proofs.lemmas.Runs.{canonical-maximal, canonical-runs, runs-same}
use Rattle.rsb_range_text.specs.Numbers.{AreNumbers}
use Rattle.rsb_storage.specs.Set.{IsSetOf}
use Rattle.rsb_range_text.specs.Text.{BlanksThen, DigitsThen, EndThen, HasDigit, NumberThen, NumeralThen, OthersFollow, SignedThen, Spells, StartThen, signed_by}
use Rattle.range_set_blaze.specs.Written.{ends_text, runs_text}
use Rattle.range_set_blaze.proofs.lemmas.texts.Pieces.{parted}

-- Further digits do not make a magnitude smaller.
value_after-ge : (before : ℕ) (digits : List ℕ) → before ≤ digits_value_after 10 before digits
value_after-ge before [] = omega arith
value_after-ge before (digit ∷ digits) =
    omega (arith, value_after-ge (before * 10 + digit_value digit) digits)

-- A number with a sign has the magnitude that it was built from.
abs-signed_by : (negative : Bool) (magnitude : ℕ) → unsigned_abs (signed_by negative magnitude) ≡ magnitude
abs-signed_by true zero = refl
abs-signed_by true (suc n) = refl
abs-signed_by false magnitude = refl

blanks-stop : (Rest : List ℕ → Type 0) (text : List ℕ) → Rest text → BlanksThen Rest text
blanks-stop Rest [] h = h
blanks-stop Rest (first ∷ rest) h = inl h

module _ {T : Type 0} (rank : T → ℕ) (n : ℕ) (number : T → ℤ) (fits : ℤ → Type 0)
    (written : T → Option (List ℕ)) (numbers : AreNumbers rank n number fits written) where
  digits-stop : (negative : Bool) (Rest : T → List ℕ → Type 0) (value : T) (text : List ℕ)
      → Rest value text → DigitsThen number fits negative Rest value text
  digits-stop negative Rest value [] h = h
  digits-stop negative Rest value (first ∷ rest) h = inl h

  -- If a number is `before` so far, its other digits lead to its value.
  digits-written : (negative : Bool) (Rest : T → List ℕ → Type 0) (digits rest : List ℕ)
      (magnitude : ℕ) (before value : T) → AllDigits 10 digits
      → number before ≡ signed_by negative magnitude
      → number value ≡ signed_by negative (digits_value_after 10 magnitude digits)
      → fits (signed_by negative (digits_value_after 10 magnitude digits)) → Rest value rest
      → DigitsThen number fits negative Rest before (digits ++ rest)
  digits-written negative Rest [] rest magnitude before value all is total fit h =
      digits-stop negative Rest before rest
      (subst (λ (x : T). Rest x rest) (sym (numbers.differ before value (is ∙ sym total))) h)
  digits-written negative Rest (digit ∷ digits) rest magnitude before value all is total fit h =
      let longer = magnitude * 10 + digit_value digit in
      let fit_longer = numbers.lower negative longer (digits_value_after 10 longer digits)
      (value_after-ge longer digits) fit in
      let next = numbers.all (signed_by negative longer) fit_longer in
      let same : magnitude ≡ unsigned_abs (number before) =
      sym (ap unsigned_abs is ∙ abs-signed_by negative magnitude) in
      let has : HasDigit number fits negative magnitude (digit_value digit) next.0 =
      record { is = next.1; of_type = fit_longer } in
      inr (
        next.0,
        all.0,
        subst (λ (m : ℕ). HasDigit number fits negative m (digit_value digit) next.0) same has,
        digits-written negative Rest digits rest longer next.0 value all.1 next.1 total fit h,
      )

  -- The digits of a number lead to its value.
  numeral-written : (negative : Bool) (Rest : T → List ℕ → Type 0) (digits rest : List ℕ) (value : T)
      → 0 < length digits → AllDigits 10 digits
      → number value ≡ signed_by negative (digits_value 10 digits)
      → fits (signed_by negative (digits_value 10 digits)) → Rest value rest
      → NumeralThen number fits negative Rest (digits ++ rest)
  numeral-written negative Rest [] rest value some all total fit h = absurd (omega arith)
  numeral-written negative Rest (digit ∷ digits) rest value some all total fit h =
      let longer = 0 * 10 + digit_value digit in
      let fit_longer = numbers.lower negative longer (digits_value_after 10 longer digits)
      (value_after-ge longer digits) fit in
      let next = numbers.all (signed_by negative longer) fit_longer in (
        next.0,
        all.0,
        record { is = next.1; of_type = fit_longer },
        digits-written negative Rest digits rest longer next.0 value all.1 next.1 total fit h,
      )

  signed-written : (Rest : T → List ℕ → Type 0) (value : T) (rest : List ℕ) (z : ℤ)
      → number value ≡ z → fits z → Rest value rest
      → SignedThen number fits Rest (signed_decimal z ++ rest)
  signed-written Rest value rest (pos m) is fit h =
      let numeral = decimal_is_IsNumeral_wide m (numbers.short (pos m) fit) in
      let same : signed_by false m ≡ signed_by false (digits_value 10 (decimal m)) =
      ap (signed_by false) (sym numeral.1) in
      inl (numeral-written false Rest (decimal m) rest value numeral.0.0 numeral.0.1 (is ∙ same)
      (subst fits same fit) h)
  signed-written Rest value rest (negsuc m) is fit h =
      let numeral = decimal_is_IsNumeral_wide (suc m) (numbers.short (negsuc m) fit) in
      let same : signed_by true (suc m) ≡ signed_by true (digits_value 10 (decimal (suc m))) =
      ap (signed_by true) (sym numeral.1) in
      inr (inr (
        refl,
        numeral-written true Rest (decimal (suc m)) rest value numeral.0.0 numeral.0.1
            (is ∙ same) (subst fits same fit) h,
      ))

  number-written : (Rest : T → List ℕ → Type 0) (value : T) (rest : List ℕ) → rank value < n
      → Rest value rest → NumberThen number fits Rest (signed_decimal (number value) ++ rest)
  number-written Rest value rest below h =
      blanks-stop (SignedThen number fits (λ x. BlanksThen (Rest x)))
      (signed_decimal (number value) ++ rest)
      (signed-written (λ x. BlanksThen (Rest x)) value rest (number value) refl
      (numbers.of_type value below) (blanks-stop (Rest value) rest h))

  -- ---- runs, by their ends

  range-written : (Rest : List ℕ → Type 0) (start end : T) (rest : List ℕ) → rank start < n
      → rank end < n → Rest rest
      → NumberThen number fits (StartThen number fits (range_of (start, end)) Rest)
      (signed_decimal (number start) ++ (codes "..=" ++ (signed_decimal (number end) ++ rest)))
  range-written Rest start end rest low high h =
      number-written (StartThen number fits (range_of (start, end)) Rest) start
      (codes "..=" ++ (signed_decimal (number end) ++ rest)) low
      (inr (
        refl,
        (
          refl,
          (
            refl,
            number-written (EndThen number fits (range_of (start, end)) Rest start)
                end rest high (refl, h),
          ),
        ),
      ))

  -- The text of a range is its start in decimal, `..=`, and its end in decimal.
  ends-written : (start end : T) → ends_text (written start) (written end)
      ≡ Some (signed_decimal (number start) ++ (codes "..=" ++ signed_decimal (number end)))
  ends-written start end = rw (numbers.decimal start, numbers.decimal end) refl

  three : (a b c d : List ℕ) → a ++ (b ++ (c ++ d)) ≡ (a ++ (b ++ c)) ++ d
  three a b c d = sym (append_assoc a (b ++ c) d ∙ ap (λ (t : List ℕ). a ++ t) (append_assoc b c d))

  -- Items that stand for ranges, by their starts and ends.
  module _ {X : Type 0} (start end : X → T) where
    abbrev pub IsOfType : X → Type 0
    IsOfType item = (rank (start item) < n) × (rank (end item) < n)

    abbrev pub ranges_at : List X → List (RangeInclusive T)
    ranges_at items = map (λ item. range_of (start item, end item)) items

    abbrev pub text_at : X → Option (List ℕ)
    text_at item = ends_text (written (start item)) (written (end item))

    -- The text of an item, followed by another text, spells the range of the item and goes on with
    -- that text.
    item-written : (Rest : List ℕ → Type 0) (item : X) (head tail : List ℕ) → IsOfType item
        → text_at item ≡ Some head → Rest tail
        → NumberThen number fits (StartThen number fits (range_of (start item, end item)) Rest)
        (head ++ tail)
    item-written Rest item head tail valid is h =
        let front = signed_decimal (number (start item)) in
        let back = signed_decimal (number (end item)) in
        let same : front ++ (codes "..=" ++ back) ≡ head =
        cc (ends-written (start item) (end item), is) in
        subst (λ (text : List ℕ).
        NumberThen number fits (StartThen number fits (range_of (start item, end item)) Rest) text)
        (three front (codes "..=") back tail ∙ ap (λ (t : List ℕ). t ++ tail) same)
        (range-written Rest (start item) (end item) tail valid.0 valid.1 h)

    others-written : (items : List X) (left : List ℕ) → All IsOfType items
        → debug_items text_at comma_space items ≡ Some left
        → OthersFollow number fits (ranges_at items) left
    others-written [] left valid is = cc
    others-written (item ∷ items) left valid is =
        let parts = parted comma_space (text_at item) (debug_items text_at comma_space items) left is in
        let others = others-written items parts.tail (All-tail IsOfType item items valid)
        parts.others_are in
        subst (λ (text : List ℕ). OthersFollow number fits (ranges_at (item ∷ items)) text)
        (sym parts.whole) (
          refl,
          inr (
            refl,
            item-written (OthersFollow number fits (ranges_at items)) item parts.head
                parts.tail (All-head IsOfType item items valid) parts.first_is others,
          ),
        )

    -- The texts of items, with commas between them, spell their ranges.
    pub spells-written : (items : List X) (text : List ℕ) → All IsOfType items
        → debug_items text_at [] items ≡ Some text → Spells number fits text (ranges_at items)
    spells-written [] text valid is =
        let none : [] ≡ text = cc in
        subst (λ (t : List ℕ). Spells number fits t []) none refl
    spells-written (item ∷ items) text valid is =
        let parts = parted [] (text_at item) (debug_items text_at comma_space items) text is in
        let others = others-written items parts.tail (All-tail IsOfType item items valid)
        parts.others_are in
        subst (λ (t : List ℕ). Spells number fits t (ranges_at (item ∷ items))) (sym parts.whole)
        (item-written (OthersFollow number fits (ranges_at items)) item parts.head parts.tail
        (All-head IsOfType item items valid) parts.first_is others)

-- Runs in a type, each as the range of the values at its ends.
module _ {T : Type 0} (rank : T → ℕ) (n : ℕ) (value_at : ℕ → T)
    (ranks : (place : ℕ) → place < n → rank (value_at place) ≡ place) where
  abbrev pub ranges_of_runs : List Interval → List (RangeInclusive T)
  ranges_of_runs runs = map (λ run. range_of (value_at run.first, value_at run.last)) runs

  runs-of_type : (runs : List Interval) → IsCanonicalIn n runs
      → All (λ run. (rank (value_at run.first) < n) × (rank (value_at run.last) < n)) runs
  runs-of_type runs canonical = All-weaker (IsMaximalRun n (members runs))
      (λ (run : Interval). (rank (value_at run.first) < n) × (rank (value_at run.last) < n))
      (λ run maximal.
      let ordered = maximal.in_order in
      let within = maximal.in_type in
      let first = ranks run.first (omega arith) in
      let last = ranks run.last within in
      (omega (arith, first), omega (arith, last)))
      runs (canonical-maximal n 0 runs canonical.apart canonical.within)

  intervals-of_runs : (selected : Selection) (runs : List Interval) → All (IsMaximalRun n selected) runs
      → intervals_of rank (ranges_of_runs runs) ≡ runs
  intervals-of_runs selected [] maximal = refl
  intervals-of_runs selected (run ∷ runs) maximal =
      let here = All-head (IsMaximalRun n selected) run runs maximal in
      let ordered = here.in_order in
      let within = here.in_type in
      let first = ranks run.first (omega arith) in
      let last = ranks run.last within in
      let rest = intervals-of_runs selected runs (All-tail (IsMaximalRun n selected) run runs maximal) in
      λ i. record { first = first i; last = last i } ∷ rest i

  -- The text of canonical runs spells them.
  pub runs-spelled : (number : T → ℤ) (fits : ℤ → Type 0) (written : T → Option (List ℕ))
      → AreNumbers rank n number fits written → (runs : List Interval) (text : List ℕ)
      → IsCanonicalIn n runs → runs_text (λ place. written (value_at place)) runs ≡ Some text
      → Spells number fits text (ranges_of_runs runs)
  runs-spelled number fits written numbers runs text canonical is =
      spells-written rank n number fits written numbers (λ (run : Interval). value_at run.first)
      (λ (run : Interval). value_at run.last) runs text (runs-of_type runs canonical) is

  -- A set with the members of these ranges has these runs.
  pub set-reread : (set runs : List Interval) → AreRuns n (members set) set → IsCanonicalIn n runs
      → IsSetOf set (members (intervals_of rank (ranges_of_runs runs))) → set ≡ runs
  set-reread set runs are canonical has =
      let same = intervals-of_runs (members runs) runs
      (canonical-maximal n 0 runs canonical.apart canonical.within) in
      runs-same n (members set) (members runs) set runs are
      (canonical-runs n runs canonical.apart canonical.within)
      (λ place below. has place ∙ ap (λ (intervals : List Interval). members intervals place) same)
