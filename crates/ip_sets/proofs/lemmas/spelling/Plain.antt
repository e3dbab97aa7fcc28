-- Plain lines at the start of the bytes mean what they write.
use Rattle.std.proofs.Common.{◌≡◌, ◌∙◌, ℕ, suc, ◌+◌, ◌<◌, ◌≤◌, eqb, Bool, true, false, List, ◌∷◌, ◌++◌, Some, take, drop, get_or, refl, sym, ap, append_assoc, arith}
use Rattle.std.proofs.Math.Seq.{split_at}
use Rattle.std.proofs.lemmas.Bool.{eqb-true}
use Rattle.std.proofs.lemmas.Bool.Decides.{nat_tests}
use Rattle.std.proofs.lemmas.List.{get_or-take, length-take}
use Rattle.std.proofs.lemmas.List.Elements.{All-append, All-cons, All-from_get_or, All-weaker}
use Rattle.std.specs.Fmt.{decimal}
use Rattle.std.specs.List.{All}
use Rattle.std.specs.declared.ops.RangeInclusive.{RangeInclusive}
use Rattle.memchr.specs.Find.{IsFirstByte, is_byte}
use Rattle.ip_sets.specs.AddressRange.{Spans, WritesRange}
use Rattle.ip_sets.specs.Line.{content, is_mark}
use Rattle.ip_sets.specs.Plain.{BeginsWith, BeginsWithLine, EndsBlock, EndsSpan}
use Rattle.ip_sets.proofs.lemmas.spelling.Written.{IsPlain, block_line, decimal_plain, plain_line, plain_unmarked, span_line}

-- A plain byte is no line feed.
no_feed : (byte : ℕ) → IsPlain byte → eqb byte 10 ≡ false
no_feed byte is = let not_blank = is.no_blank in grind (arith, nat_tests)

-- A text of plain bytes has no line feed.
no_feeds : (text : List ℕ) → All IsPlain text → All (λ byte. eqb byte 10 ≡ false) text
no_feeds text plain = All-weaker IsPlain (λ byte. eqb byte 10 ≡ false) no_feed text plain

-- Two texts of plain bytes, with another byte between them, have no line feed.
no_feeds_both : (first second : List ℕ) (separator : ℕ) → eqb separator 10 ≡ false
    → All IsPlain first → All IsPlain second
    → All (λ byte. eqb byte 10 ≡ false) (first ++ separator ∷ second)
no_feeds_both first second separator other plain plain_too =
    All-append (λ byte. eqb byte 10 ≡ false) first (separator ∷ second) (no_feeds first plain)
    (All-cons (λ byte. eqb byte 10 ≡ false) separator second other (no_feeds second plain_too))

-- What is joined from two texts and what comes between and after them.
in_parts : (bytes first rest second more others : List ℕ) (separator : ℕ) → bytes ≡ first ++ rest
    → rest ≡ separator ∷ more → more ≡ second ++ others
    → bytes ≡ (first ++ separator ∷ second) ++ others
in_parts bytes first rest second more others separator is between ends =
    is ∙ ap (λ later. first ++ later) between ∙ ap (λ later. first ++ separator ∷ later) ends
    ∙ sym (append_assoc first (separator ∷ second) others)

-- A test that does not hold fails.
not_true : (test : Bool) → ¬ (test ≡ true) → test ≡ false
not_true true fails = absurd (fails refl)
not_true false fails = refl

-- A line ends at the first line feed.
pub line_to_feed : (Fact : List ℕ → Type 0) (bytes : List ℕ) (i : ℕ)
    → IsFirstByte (is_byte 10) bytes (Some i) → Fact (take i bytes)
    → BeginsWithLine Fact bytes (drop (i + 1) bytes)
line_to_feed Fact bytes i found fact =
    let next : suc i ≡ i + 1 = omega arith in
    let feed : get_or bytes i 0 ≡ 10 = eqb-true (get_or bytes i 0) 10 found.1 in
    record {
      line = take i bytes;
      parts = split_at bytes i 0 found.0.high
          ∙ (λ k. take i bytes ++ feed k ∷ drop (next k) bytes);
      one = All-from_get_or (λ byte. eqb byte 10 ≡ false) (take i bytes) 0 (λ k within.
          let below : k < i = omega (arith, within, length-take i bytes) in
          ap (λ byte. eqb byte 10) (get_or-take i bytes k 0 below)
          ∙ not_true (eqb (get_or bytes k 0) 10) (found.0.before k (omega arith) below));
      fact = fact;
    }

module _ (bits : ℕ) (IsAddress : List ℕ → ℕ → Type 0) (fits : bits ≤ 128)
    (unmarked : (text : List ℕ) (n : ℕ) → IsAddress text n
    → All (λ byte. is_mark byte ≡ false) text) where
  -- Whether a line means the range.
  abbrev Means : RangeInclusive ℕ → List ℕ → Type 0
  Means range line = WritesRange bits IsAddress (content line) range

  -- A text that writes an address has only plain bytes.
  plain_text : (text : List ℕ) (n : ℕ) → IsAddress text n → All IsPlain text
  plain_text text n is = plain_unmarked text (unmarked text n is)

  -- An address and a line feed are a line.
  pub one_line : (bytes rest after : List ℕ) (n : ℕ) (range : RangeInclusive ℕ)
      → BeginsWith IsAddress bytes n rest → rest ≡ 10 ∷ after → Spans range n n
      → BeginsWithLine (Means range) bytes after
  one_line bytes rest after n range h ends spans =
      let plain = plain_text h.text n h.written in record {
        line = h.text;
        parts = h.parts ∙ ap (λ later. h.text ++ later) ends;
        one = no_feeds h.text plain;
        fact = plain_line bits IsAddress h.text n range plain h.written spans;
      }

  -- An address, a slash, a length and a line feed are a line.
  pub line_of_block : (bytes rest more after : List ℕ) (n : ℕ) (range : RangeInclusive ℕ)
      → BeginsWith IsAddress bytes n rest → rest ≡ 47 ∷ more → EndsBlock bits n more range after
      → BeginsWithLine (Means range) bytes after
  line_of_block bytes rest more after n range h slash ends =
      let plain = plain_text h.text n h.written in
      let digits = decimal_plain ends.length (omega (arith, ends.within, fits)) in
      record {
        line = h.text ++ 47 ∷ decimal ends.length;
        parts = in_parts bytes h.text rest (decimal ends.length) more (10 ∷ after) 47 h.parts slash
            ends.parts;
        one = no_feeds_both h.text (decimal ends.length) 47 refl plain digits;
        fact = block_line bits IsAddress h.text (decimal ends.length) n ends.length range plain
            digits h.written refl ends.within (omega (arith, ends.within, fits)) ends.block;
      }

  -- Two addresses with a dash between them and a line feed are a line.
  pub line_of_span : (bytes rest more after : List ℕ) (n : ℕ) (range : RangeInclusive ℕ)
      → BeginsWith IsAddress bytes n rest → rest ≡ 45 ∷ more
      → EndsSpan IsAddress n more range after → BeginsWithLine (Means range) bytes after
  line_of_span bytes rest more after n range h dash ends =
      let plain = plain_text h.text n h.written in
      let plain_too = plain_text ends.text ends.last ends.written in
      record {
        line = h.text ++ 45 ∷ ends.text;
        parts = in_parts bytes h.text rest ends.text more (10 ∷ after) 45 h.parts dash ends.parts;
        one = no_feeds_both h.text ends.text 45 refl plain plain_too;
        fact = span_line bits IsAddress h.text ends.text n ends.last range plain plain_too h.written
            ends.written ends.in_order ends.span;
      }
