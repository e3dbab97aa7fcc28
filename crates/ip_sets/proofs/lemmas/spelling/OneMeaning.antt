-- A line has one meaning at most.
use Rattle.std.proofs.Common.{◌≡◌, ◌∙◌, ℕ, ◌+◌, ◌-◌, ◌^◌, ◌<◌, ◌≤◌, Bool, true, false, List, [], ◌∷◌, length, refl, sym, ap, subst, inl, inr, arith, length-append}
use Rattle.std.proofs.NetLemmas.Ipv6.{IsDotted-not_colon_hex}
use Rattle.std.proofs.lemmas.Fmt.{decimal_injective}
use Rattle.std.specs.Char.{is_ascii_digit}
use Rattle.std.specs.Fmt.{decimal}
use Rattle.std.specs.List.{list_all}
use Rattle.std.specs.Net.Grammar.{IsColonHex, IsDotted, IsGroups}
use Rattle.std.specs.Prelude.{MatchBool}
use Rattle.std.specs.Range.{range_inclusive_start, range_inclusive_end, range_inclusive_exhausted}
use Rattle.std.specs.declared.ops.RangeInclusive.{RangeInclusive}
use Rattle.ip_sets.specs.declared.line.Line.{Line}
use Rattle.ip_sets.specs.declared.line.Line.TheVariants.{Nothing, V4, V6}
use Rattle.ip_sets.specs.Address.{IsV4, IsV6}
use Rattle.ip_sets.specs.laws.Address.{one_v4, one_v6, unmarked_v4, unmarked_v6}
use Rattle.ip_sets.specs.AddressRange.{Spans, WritesBracketed, WritesEnd, WritesLength, WritesOne, WritesBlock, WritesSpan, WritesOneOrBlock, WritesParts, WritesRange, block_size, block_start, mask_of}
use Rattle.ip_sets.specs.Line.{IsLine, content}
use Rattle.ip_sets.specs.LineParts.{parts, trimmed}
use Rattle.ip_sets.proofs.lemmas.spelling.Brackets.{no_bracket_first, not_both, same_inner}
use Rattle.ip_sets.proofs.lemmas.spelling.Masks.{mask_injective}

-- A range is determined by its ends.
pub Spans_unique : (range other : RangeInclusive ℕ) (first last start end : ℕ)
    → Spans range first last → Spans other start end → first ≡ start → last ≡ end → range ≡ other
Spans_unique range other first last start end h k starts ends =
    let at_start : range_inclusive_start range ≡ range_inclusive_start other =
    h.start ∙ starts ∙ sym k.start in
    let at_end : range_inclusive_end range ≡ range_inclusive_end other =
    h.end ∙ ends ∙ sym k.end in
    let fresh : range_inclusive_exhausted range ≡ range_inclusive_exhausted other =
    h.fresh ∙ sym k.fresh in
    λ i. record { start = at_start i; end = at_end i; exhausted = fresh i }

-- ---- one range to a text

module _ (bits : ℕ) (small : bits < 2 ^ 32) (IsAddress : List ℕ → ℕ → Type 0)
    (unique : (text : List ℕ) (m n : ℕ) → IsAddress text m → IsAddress text n → m ≡ n) where
  -- The text of an address writes one range.
  one : (text : List ℕ) (a b : RangeInclusive ℕ) → WritesOne IsAddress text a
      → WritesOne IsAddress text b → a ≡ b
  one text a b h k =
      let same = unique text h.address k.address h.written k.written in
      Spans_unique a b h.address h.address k.address k.address h.one k.one same same

  -- A text writes one length.
  one_length : (text : List ℕ) (m n : ℕ) → m ≤ bits → n ≤ bits
      → WritesLength bits IsAddress text m → WritesLength bits IsAddress text n → m ≡ n
  one_length text m n within within_too h k = by (list_all is_ascii_digit text) h k
    where
      by : (digits : Bool) → MatchBool digits (text ≡ decimal m) (IsAddress text (mask_of bits m))
          → MatchBool digits (text ≡ decimal n) (IsAddress text (mask_of bits n)) → m ≡ n
      by true h k = decimal_injective m n (omega (arith, within)) (omega (arith, within_too))
          (sym h ∙ k)
      by false h k = mask_injective bits m n within within_too
          (unique text (mask_of bits m) (mask_of bits n) h k)

  -- The parts of a block write one range.
  block : (address_text length_text : List ℕ) (a b : RangeInclusive ℕ)
      → WritesBlock bits IsAddress address_text length_text a
      → WritesBlock bits IsAddress address_text length_text b → a ≡ b
  block address_text length_text a b h k =
      let address : h.address ≡ k.address =
      unique address_text h.address k.address h.address_written k.address_written in
      let length : h.length ≡ k.length =
      one_length length_text h.length k.length h.within k.within h.length_written
      k.length_written in
      let start : block_start bits h.length h.address ≡ block_start bits k.length k.address =
      ap (λ n. block_start bits h.length n) address
      ∙ ap (λ n. block_start bits n k.address) length in
      let size : block_size bits h.length - 1 ≡ block_size bits k.length - 1 =
      ap (λ n. block_size bits n - 1) length in
      Spans_unique a b _ _ _ _ h.block k.block start
      (ap (λ n. n + (block_size bits h.length - 1)) start
      ∙ ap (λ n. block_start bits k.length k.address + n) size)

  -- The parts around a slash write at most one range.
  one_or_block : (texts : List (List ℕ)) (a b : RangeInclusive ℕ)
      → WritesOneOrBlock bits IsAddress texts a → WritesOneOrBlock bits IsAddress texts b → a ≡ b
  one_or_block [] a b h k = absurd h
  one_or_block (text ∷ []) a b h k = one text a b h k
  one_or_block (address ∷ length ∷ []) a b h k = block address length a b h k
  one_or_block (x ∷ y ∷ z ∷ texts) a b h k = absurd h

  -- The end of a range writes one range.
  pub one_end : (text : List ℕ) (a b : RangeInclusive ℕ) → WritesEnd bits IsAddress text a
      → WritesEnd bits IsAddress text b → a ≡ b
  one_end text a b h k = one_or_block (parts 47 text) a b h k

  -- The parts of a range write one range.
  span : (first_text last_text : List ℕ) (a b : RangeInclusive ℕ)
      → WritesSpan bits IsAddress first_text last_text a
      → WritesSpan bits IsAddress first_text last_text b → a ≡ b
  span first_text last_text a b h k =
      Spans_unique a b _ _ _ _ h.span k.span
      (ap range_inclusive_start
      (one_end (trimmed first_text) h.first k.first h.first_written k.first_written))
      (ap range_inclusive_end
      (one_end (trimmed last_text) h.last k.last h.last_written k.last_written))

  -- Brackets write one range.
  bracketed : (text : List ℕ) (a b : RangeInclusive ℕ) → WritesBracketed IsAddress text a
      → WritesBracketed IsAddress text b → a ≡ b
  bracketed text a b h k =
      let same = same_inner k.inner h.inner (sym k.enclosed ∙ h.enclosed) in
      one h.inner a b h.one (subst (λ inner. WritesOne IsAddress inner b) same k.one)

  -- The parts around a dash write at most one range.
  in_parts : (texts : List (List ℕ)) (a b : RangeInclusive ℕ)
      → WritesParts bits IsAddress texts a → WritesParts bits IsAddress texts b → a ≡ b
  in_parts [] a b h k = absurd h
  in_parts (text ∷ []) a b h k = one_end text a b h k
  in_parts (first ∷ last ∷ []) a b h k = span first last a b h k
  in_parts (x ∷ y ∷ z ∷ texts) a b h k = absurd h

-- ---- one family to a text

module _ (bits more : ℕ) (IsAddress IsOther : List ℕ → ℕ → Type 0)
    (apart : (text : List ℕ) (m n : ℕ) → IsAddress text m → IsOther text n → ⊥) where
  -- The parts around a slash do not write ranges of both families.
  apart_one_or_block : (texts : List (List ℕ)) (a b : RangeInclusive ℕ)
      → WritesOneOrBlock bits IsAddress texts a → WritesOneOrBlock more IsOther texts b → ⊥
  apart_one_or_block [] a b h k = h
  apart_one_or_block (text ∷ []) a b h k = apart text h.address k.address h.written k.written
  apart_one_or_block (address ∷ length ∷ []) a b h k =
      apart address h.address k.address h.address_written k.address_written
  apart_one_or_block (x ∷ y ∷ z ∷ texts) a b h k = h

  -- The parts around a dash do not write ranges of both families.
  apart_parts : (texts : List (List ℕ)) (a b : RangeInclusive ℕ)
      → WritesParts bits IsAddress texts a → WritesParts more IsOther texts b → ⊥
  apart_parts [] a b h k = h
  apart_parts (text ∷ []) a b h k = apart_one_or_block (parts 47 text) a b h k
  apart_parts (first ∷ last ∷ []) a b h k =
      apart_one_or_block (parts 47 (trimmed first)) h.first k.first h.first_written k.first_written
  apart_parts (x ∷ y ∷ z ∷ texts) a b h k = h

-- An IPv4 address is not an IPv6 address.
IsV4-not_v6 : (text : List ℕ) (m n : ℕ) → IsV4 text m → IsV6 text n → ⊥
IsV4-not_v6 text m n h k = IsDotted-not_colon_hex text _ _ h.1 k.1

-- ---- no range to an empty text

-- The text of an IPv4 address is not empty.
dotted_some : (text octets : List ℕ) → IsDotted text octets → 0 < length text
dotted_some text octets h = omega (arith, simp length-append at (ap length h.spelled))

-- Eight groups are not an empty text.
no_groups : (segments : List ℕ) → IsGroups true [] segments → length segments ≡ 8 → ⊥
no_groups [] h eight = omega arith
no_groups (s ∷ segments) (inl h) eight =
    omega (arith, simp length-append at (ap length h.2), h.3.0.0.0)
no_groups (s ∷ segments) (inr h) eight =
    omega (arith, ap length h.3, dotted_some h.0 h.1 h.4)

-- The text of an IPv6 address is not empty.
no_colon_hex : (segments : List ℕ) → IsColonHex [] segments → ⊥
no_colon_hex segments (inl h) = no_groups segments h.0 h.1
no_colon_hex segments (inr h) = omega (arith, simp length-append at (ap length h.spelled))

-- An empty text writes no IPv4 address.
pub v4_empty : (n : ℕ) → IsV4 [] n → ⊥
v4_empty n h = omega (arith, dotted_some [] _ h.1)

-- An empty text writes no IPv6 address.
pub v6_empty : (n : ℕ) → IsV6 [] n → ⊥
v6_empty n h = no_colon_hex _ h.1

-- If an empty text writes no address, it writes no range.
no_range : (bits : ℕ) (IsAddress : List ℕ → ℕ → Type 0) (text : List ℕ) (range : RangeInclusive ℕ)
    → ((n : ℕ) → IsAddress [] n → ⊥) → text ≡ [] → WritesRange bits IsAddress text range → ⊥
no_range bits IsAddress text range empty is h =
    let none : WritesOne IsAddress [] range = rw is at h in
    empty none.address none.written

-- ---- no range to a text in brackets

-- A text in brackets writes no range of IPv4 addresses.
no_v4_range : (text : List ℕ) (range other : RangeInclusive ℕ) → WritesBracketed IsV6 text other
    → WritesRange 32 IsV4 text range → ⊥
no_v4_range text range other h k =
    not_both 32 IsV4 (no_bracket_first IsV4 unmarked_v4) text h.inner range h.enclosed k

-- Nor does it write a range of IPv6 addresses without brackets.
no_v6_range : (text : List ℕ) (range other : RangeInclusive ℕ) → WritesBracketed IsV6 text other
    → WritesRange 128 IsV6 text range → ⊥
no_v6_range text range other h k =
    not_both 128 IsV6 (no_bracket_first IsV6 unmarked_v6) text h.inner range h.enclosed k

-- ---- one meaning to a line

-- A line has at most one meaning.
pub IsLine_unique : (line : List ℕ) (a b : Line) → IsLine line a → IsLine line b → a ≡ b
IsLine_unique line Nothing Nothing h k = refl
IsLine_unique line Nothing (V4 b) h k = absurd (no_range 32 IsV4 (content line) b v4_empty h k)
IsLine_unique line Nothing (V6 b) h (inl k) =
    absurd (no_range 128 IsV6 (content line) b v6_empty h k)
IsLine_unique line Nothing (V6 b) h (inr k) = absurd (cc (h, k.enclosed))
IsLine_unique line (V4 a) Nothing h k = absurd (no_range 32 IsV4 (content line) a v4_empty k h)
IsLine_unique line (V4 a) (V4 b) h k =
    ap V4 (in_parts 32 (omega arith) IsV4 one_v4 (parts 45 (content line)) a b h k)
IsLine_unique line (V4 a) (V6 b) h (inl k) =
    absurd (apart_parts 32 128 IsV4 IsV6 IsV4-not_v6 (parts 45 (content line)) a b h k)
IsLine_unique line (V4 a) (V6 b) h (inr k) = absurd (no_v4_range (content line) a b k h)
IsLine_unique line (V6 a) Nothing (inl h) k =
    absurd (no_range 128 IsV6 (content line) a v6_empty k h)
IsLine_unique line (V6 a) Nothing (inr h) k = absurd (cc (k, h.enclosed))
IsLine_unique line (V6 a) (V4 b) (inl h) k =
    absurd (apart_parts 32 128 IsV4 IsV6 IsV4-not_v6 (parts 45 (content line)) b a k h)
IsLine_unique line (V6 a) (V4 b) (inr h) k = absurd (no_v4_range (content line) b a h k)
IsLine_unique line (V6 a) (V6 b) (inl h) (inl k) =
    ap V6 (in_parts 128 (omega arith) IsV6 one_v6 (parts 45 (content line)) a b h k)
IsLine_unique line (V6 a) (V6 b) (inl h) (inr k) = absurd (no_v6_range (content line) a b k h)
IsLine_unique line (V6 a) (V6 b) (inr h) (inl k) = absurd (no_v6_range (content line) b a h k)
IsLine_unique line (V6 a) (V6 b) (inr h) (inr k) =
    ap V6 (bracketed 128 (omega arith) IsV6 one_v6 (content line) a b h k)
