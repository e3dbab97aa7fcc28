-- The text of a set is what `Display` writes, and text that lists ranges is ASCII.
use Rattle.std.proofs.Common.{◌≡◌, ℕ, ℤ, pos, Bool, true, false, ◌^◌, ◌<◌, ◌≤◌, inl, inr, List, [], ◌∷◌, ◌++◌, length, Option, Some, refl, sym, ap, ◌∙◌, subst, lit<, arith}
use Rattle.std.proofs.lemmas.Bool.Decides.{nat_tests}
use Rattle.std.proofs.lemmas.List.{length-append}
use Rattle.std.proofs.lemmas.Str.{IsUtf8-from_ascii}
use Rattle.std.proofs.lemmas.Str.Ascii.{IsAscii-cons, IsAscii-nil}
use Rattle.std.specs.Prelude.{codes, decimal}
use Rattle.std.specs.Char.{digit_value}
use Rattle.std.specs.Fmt.{◌++?◌, comma_space, debug_items}
use Rattle.std.specs.Int.{FitsUnsignedBits}
use Rattle.std.specs.Str.{IsAscii, IsUtf8}
use Rattle.std.specs.declared.ops.RangeInclusive.{RangeInclusive}
use Rattle.rsb_integer.specs.Rank.{intervals_of}
use Rattle.rsb_integer.specs.Runs.{Interval, members, IsCanonicalIn}
use Rattle.range_set_blaze.specs.laws.Number.{unsigned-numbers}
use Rattle.range_set_blaze.specs.Set.{IsSetOf}
use Rattle.range_set_blaze.specs.Text.{BlanksThen, DigitsThen, EndThen, NumberThen, NumeralThen, OthersFollow, SignedThen, Spells, StartThen, Then, is_blank}
use Rattle.range_set_blaze.specs.Written.{run_text, runs_text}
use Rattle.range_set_blaze.proofs.lemmas.texts.Reread.{ranges_of_runs, runs-spelled}
use Rattle.range_set_c.specs.SetText.{text_after, text_of, IsRead, IsUnread, Lists}

-- ---- what `Display` writes

after-written : (lead : List ℕ) (runs : List Interval)
    → debug_items (run_text (λ number. Some (decimal number))) lead runs
    ≡ Some (text_after lead runs)
after-written lead [] = refl
after-written lead (run ∷ runs) =
    ap (λ (rest : Option (List ℕ)).
    Some lead ++? (run_text (λ number. Some (decimal number)) run ++? rest))
    (after-written comma_space runs)

pub text-written : (runs : List Interval)
    → runs_text (λ number. Some (decimal number)) runs ≡ Some (text_of runs)
text-written runs = after-written [] runs

-- ---- text that lists ranges is ASCII

digit-ascii : (byte : ℕ) → digit_value byte < 10 → byte < 128
digit-ascii byte digit = grind (arith, nat_tests)

blank-ascii : (byte : ℕ) → is_blank byte ≡ true → byte < 128
blank-ascii byte blank = grind (arith, nat_tests)

-- Whether the fact holds only for ASCII text.
abbrev IsOfAscii : (List ℕ → Type 0) → Type 0
IsOfAscii Rest = (text : List ℕ) → Rest text → IsAscii text

then-ascii : (byte : ℕ) → byte < 128 → (Rest : List ℕ → Type 0) → IsOfAscii Rest
    → (text : List ℕ) → Then byte Rest text → IsAscii text
then-ascii byte low Rest ascii [] h = absurd h
then-ascii byte low Rest ascii (first ∷ rest) h =
    IsAscii-cons first rest (subst (λ (b : ℕ). b < 128) (sym h.0) low) (ascii rest h.1)

blanks-ascii : (Rest : List ℕ → Type 0) → IsOfAscii Rest
    → (text : List ℕ) → BlanksThen Rest text → IsAscii text
blanks-ascii Rest ascii [] h = ascii [] h
blanks-ascii Rest ascii (first ∷ rest) (inl h) = ascii (first ∷ rest) h
blanks-ascii Rest ascii (first ∷ rest) (inr h) =
    IsAscii-cons first rest (blank-ascii first h.0) (blanks-ascii Rest ascii rest h.1)

module _ {T : Type 0} (number : T → ℤ) (fits : ℤ → Type 0) where
  digits-ascii : (negative : Bool) (Rest : T → List ℕ → Type 0)
      → ((value : T) → IsOfAscii (Rest value)) → (value : T) (text : List ℕ)
      → DigitsThen number fits negative Rest value text → IsAscii text
  digits-ascii negative Rest ascii value [] h = ascii value [] h
  digits-ascii negative Rest ascii value (first ∷ rest) (inl h) = ascii value (first ∷ rest) h
  digits-ascii negative Rest ascii value (first ∷ rest) (inr h) =
      IsAscii-cons first rest (digit-ascii first h.1)
      (digits-ascii negative Rest ascii h.0 rest h.3)

  numeral-ascii : (negative : Bool) (Rest : T → List ℕ → Type 0)
      → ((value : T) → IsOfAscii (Rest value)) → (text : List ℕ)
      → NumeralThen number fits negative Rest text → IsAscii text
  numeral-ascii negative Rest ascii [] h = absurd h
  numeral-ascii negative Rest ascii (first ∷ rest) h =
      IsAscii-cons first rest (digit-ascii first h.1)
      (digits-ascii negative Rest ascii h.0 rest h.3)

  signed-ascii : (Rest : T → List ℕ → Type 0) → ((value : T) → IsOfAscii (Rest value))
      → (text : List ℕ) → SignedThen number fits Rest text → IsAscii text
  signed-ascii Rest ascii text (inl h) = numeral-ascii false Rest ascii text h
  signed-ascii Rest ascii text (inr (inl h)) =
      then-ascii 43 (lit< tt) (NumeralThen number fits false Rest)
      (numeral-ascii false Rest ascii) text h
  signed-ascii Rest ascii text (inr (inr h)) =
      then-ascii 45 (lit< tt) (NumeralThen number fits true Rest)
      (numeral-ascii true Rest ascii) text h

  number-ascii : (Rest : T → List ℕ → Type 0) → ((value : T) → IsOfAscii (Rest value))
      → (text : List ℕ) → NumberThen number fits Rest text → IsAscii text
  number-ascii Rest ascii text h =
      blanks-ascii (SignedThen number fits (λ value. BlanksThen (Rest value)))
      (signed-ascii (λ value. BlanksThen (Rest value))
      (λ value. blanks-ascii (Rest value) (ascii value)))
      text h

  -- ---- ranges, if what comes after them is ASCII

  module _ (range : RangeInclusive T) (Rest : List ℕ → Type 0) (ascii : IsOfAscii Rest) where
    end-ascii : (start end : T) (text : List ℕ) → EndThen number fits range Rest start end text
        → IsAscii text
    end-ascii start end text h = ascii text h.1

    start-ascii : (start : T) (text : List ℕ) → StartThen number fits range Rest start text
        → IsAscii text
    start-ascii start text (inl h) = ascii text h.1
    start-ascii start text (inr h) =
        then-ascii 46 (lit< tt)
        (Then 46 (Then 61 (NumberThen number fits (EndThen number fits range Rest start))))
        (then-ascii 46 (lit< tt)
        (Then 61 (NumberThen number fits (EndThen number fits range Rest start)))
        (then-ascii 61 (lit< tt) (NumberThen number fits (EndThen number fits range Rest start))
        (number-ascii (EndThen number fits range Rest start) (end-ascii start))))
        text h

    range-ascii : (text : List ℕ) → NumberThen number fits (StartThen number fits range Rest) text
        → IsAscii text
    range-ascii = number-ascii (StartThen number fits range Rest) start-ascii

  others-ascii : (others : List (RangeInclusive T)) (text : List ℕ)
      → OthersFollow number fits others text → IsAscii text
  others-ascii [] text h = subst IsAscii (sym h) IsAscii-nil
  others-ascii (range ∷ others) text h =
      then-ascii 44 (lit< tt)
      (NumberThen number fits (StartThen number fits range (OthersFollow number fits others)))
      (range-ascii range (OthersFollow number fits others) (others-ascii others)) text h

  spelled-ascii : (ranges : List (RangeInclusive T)) (text : List ℕ)
      → Spells number fits text ranges → IsAscii text
  spelled-ascii [] text h =
      blanks-ascii (λ rest. rest ≡ []) (λ rest is. subst IsAscii (sym is) IsAscii-nil) text h
  spelled-ascii (range ∷ others) text h =
      range-ascii range (OthersFollow number fits others) (others-ascii others) text h

-- ---- the set that text lists

-- Text with `..=` in it is not empty.
not-empty : (start end rest : List ℕ) → ¬ ([] ≡ (start ++ (codes "..=" ++ end)) ++ rest)
not-empty start end rest none =
    let dots = codes "..=" ++ end in
    let whole = length-append (start ++ dots) rest in
    let front = length-append start dots in
    let some = length-append (codes "..=") end in
    let zero = ap (λ (text : List ℕ). length text) none in
    omega (arith, zero, whole, front, some)

module _ (bits : ℕ) where
  -- If the set is what the contract of `parse` states, it is what the text lists.
  pub is-read : (set : List Interval) (string text : List ℕ) → string ≡ text
      → ((ranges : List (RangeInclusive ℕ)) × Lists bits string ranges
      × IsSetOf set (members (intervals_of (λ x. x) ranges)))
      → ((ranges : List (RangeInclusive ℕ)) → Lists bits string ranges
      → IsSetOf set (members (intervals_of (λ x. x) ranges)))
      → ((runs : List Interval) → IsCanonicalIn (2 ^ bits) runs
      → runs_text (λ x. Some (decimal x)) runs ≡ Some string → set ≡ runs)
      → IsRead bits text set
  is-read set string text same spelled only written =
      subst (λ (t : List ℕ). IsRead bits t set) same (record {
        ranges = spelled.0;
        listed = spelled.1;
        only = only;
        again = λ runs canonical is.
            written runs canonical (text-written runs ∙ ap Some (sym is));
      })

  -- Empty text lists no ranges.
  none-listed : (ranges : List (RangeInclusive ℕ)) → Lists bits [] ranges
      → IsSetOf [] (members (intervals_of (λ x. x) ranges))
  none-listed [] listed = λ rank. refl
  none-listed (range ∷ others) (inl wrong) = absurd wrong
  none-listed (range ∷ others) (inr (inl wrong)) = absurd wrong
  none-listed (range ∷ others) (inr (inr wrong)) = absurd wrong

  -- Only the empty set has empty text.
  none-written : (runs : List Interval) → [] ≡ text_of runs → [] ≡ runs
  none-written [] is = refl
  none-written (run ∷ runs) is = absurd (not-empty (decimal run.first) (decimal run.last)
      (text_after comma_space runs) is)

  -- If the text is empty, so is the set that it lists.
  pub nothing-read : (text : List ℕ) → text ≡ [] → IsRead bits text []
  nothing-read text is =
      subst (λ (t : List ℕ). IsRead bits t []) (sym is) (record {
        ranges = [];
        listed = refl;
        only = none-listed;
        again = λ runs canonical same. none-written runs same;
      })

-- ---- text that does not list ranges

module _ (bits : ℕ) (small : 2 ^ bits ≤ 2 ^ 128) (text : List ℕ) where
  -- The text of a set lists its runs.
  set-listed : (runs : List Interval) → IsCanonicalIn (2 ^ bits) runs → text ≡ text_of runs
      → Lists bits text (ranges_of_runs (λ x. x) (2 ^ bits) (λ x. x) (λ place below. refl) runs)
  set-listed runs canonical is =
      runs-spelled (λ x. x) (2 ^ bits) (λ x. x) (λ place below. refl) (λ x. pos x)
      (FitsUnsignedBits bits) (λ x. Some (decimal x)) (unsigned-numbers bits small) runs text
      canonical (text-written runs ∙ ap Some (sym is))

  -- If the text does not list ranges, it is not the text of a set.
  pub unread : ((ranges : List (RangeInclusive ℕ)) → ¬ Lists bits text ranges)
      → IsUnread bits text
  unread none = record {
    no_list = none;
    of_no_set = λ runs canonical is.
        none (ranges_of_runs (λ x. x) (2 ^ bits) (λ x. x) (λ place below. refl) runs)
        (set-listed runs canonical is);
  }

  -- The same for a string of these bytes.
  pub unread-string : (string : List ℕ) → string ≡ text
      → ((ranges : List (RangeInclusive ℕ)) → ¬ Lists bits string ranges) → IsUnread bits text
  unread-string string same none = unread (λ ranges listed.
      none ranges (subst (λ (t : List ℕ). Lists bits t ranges) (sym same) listed))

  -- Text that is not UTF-8 does not list ranges.
  pub unread-bytes : ¬ (IsUtf8 text) → IsUnread bits text
  unread-bytes other = unread (λ ranges listed.
      other (IsUtf8-from_ascii text
      (spelled-ascii (λ (x : ℕ). pos x) (FitsUnsignedBits bits) ranges text listed)))
