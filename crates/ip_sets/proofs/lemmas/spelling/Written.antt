-- The text of an address means that address when it is read as a line.
use Rattle.std.proofs.Common.{◌≡◌, ◌≢◌, ℕ, zero, suc, ◌-◌, ◌^◌, ◌<◌, ◌≤◌, Bool, true, false, cond, eqb, List, [], ◌∷◌, ◌++◌, length, reverse, get_or, take, drop, inl, inr, refl, sym, ap, subst, ◌∙◌, arith}
use Rattle.std.proofs.NetLemmas.Alphabet.{IsDigitOrDot, IsHexOrColon, All-ipv4_text, All-hex_groups_text}
use Rattle.std.proofs.NetLemmas.Texts.{AllSegments, AllSegments-drop}
use Rattle.std.proofs.lemmas.Bool.Decides.{nat_tests}
use Rattle.std.proofs.lemmas.List.{take_all, get_or-reverse, length-reverse}
use Rattle.std.proofs.lemmas.List.Elements.{All-append, All-cons, All-from_get_or, All-get_or, All-head, All-tail, All-weaker}
use Rattle.std.proofs.lemmas.List.Splits.{slice_split_at, slice_split_none}
use Rattle.std.proofs.lemmas.Fmt.{decimal_is_IsNumeral}
use Rattle.std.proofs.lemmas.Str.Parse.{digit_at}
use Rattle.std.specs.Char.{is_ascii_whitespace}
use Rattle.std.specs.Fmt.{decimal}
use Rattle.std.specs.Int.{w32, w128, to_be_bytes}
use Rattle.std.specs.List.{All, position_or_len, prefix_len, suffix_len}
use Rattle.std.specs.Net.Addr.{octets_of, segments_of}
use Rattle.std.specs.Net.Text.{hex_groups_text, ipv4_text, ipv6_text}
use Rattle.std.specs.Str.{bytes_eq}
use Rattle.std.specs.declared.ops.RangeInclusive.{RangeInclusive}
use Rattle.ip_sets.specs.Address.{v4_text, v6_text}
use Rattle.ip_sets.specs.AddressRange.{IsBlockAround, Spans, WritesEnd, WritesRange}
use Rattle.ip_sets.specs.Line.{begins_comment, content, is_mark}
use Rattle.ip_sets.specs.LineParts.{parts, trimmed, without_first_blanks}
use Rattle.ip_sets.proofs.lemmas.spelling.Bytes.{byte_fits, segment_fits}
use Rattle.ip_sets.proofs.lemmas.spelling.Lengths.{decimal_length}

-- Whether the byte has no meaning of its own in a line.
pub record IsPlain (byte : ℕ) : Type 0 where
  no_comment : begins_comment byte ≡ false
  pub no_blank : is_ascii_whitespace byte ≡ false
  no_dash : eqb byte 45 ≡ false
  no_slash : eqb byte 47 ≡ false
  pub no_order_mark : eqb 239 byte ≡ false

-- A byte that may be part of an address is plain.
unmarked : (byte : ℕ) → is_mark byte ≡ false → IsPlain byte
unmarked byte is = record {
  no_comment = grind (arith, nat_tests);
  no_blank = grind (arith, nat_tests);
  no_dash = grind (arith, nat_tests);
  no_slash = grind (arith, nat_tests);
  no_order_mark = grind (arith, nat_tests);
}

-- A text of bytes that may be part of an address has only plain bytes.
pub plain_unmarked : (text : List ℕ) → All (λ byte. is_mark byte ≡ false) text → All IsPlain text
plain_unmarked text all =
    All-weaker (λ byte. is_mark byte ≡ false) IsPlain unmarked text all

-- ---- texts of plain bytes

module _ (test : ℕ → Bool) where
  -- If no byte passes, nothing is split off.
  all_before : (text : List ℕ) → All (λ byte. test byte ≡ false) text
      → length text ≤ position_or_len test text
  all_before [] none = omega arith
  all_before (x ∷ text) none =
      let fails : test x ≡ false = All-head (λ byte. test byte ≡ false) x text none in
      let later = all_before text (All-tail (λ byte. test byte ≡ false) x text none) in
      rw fails (omega (arith, later))

  -- If no byte passes, none at the start does.
  none_first : (text : List ℕ) → All (λ byte. test byte ≡ false) text → prefix_len test text ≡ 0
  none_first [] none = refl
  none_first (x ∷ text) none =
      let fails : test x ≡ false = All-head (λ byte. test byte ≡ false) x text none in
      rw fails refl

-- What holds of each byte of a text holds of each byte of the text backwards.
pub All-reverse : (P : ℕ → Type 0) (text : List ℕ) → All P text → All P (reverse text)
All-reverse P text all = All-from_get_or P (reverse text) 0 λ k within.
    let inside : k < length text = omega (arith, within, length-reverse text) in
    let there : length text - 1 - k < length text = omega arith in
    subst P (sym (get_or-reverse text k 0 inside))
    (All-get_or P text (length text - 1 - k) 0 there all)

-- A text without white space is not trimmed.
trimmed_plain : (text : List ℕ) → All (λ byte. is_ascii_whitespace byte ≡ false) text
    → trimmed text ≡ text
trimmed_plain text none =
    let Fails : ℕ → Type 0 = λ byte. is_ascii_whitespace byte ≡ false in
    let first = none_first is_ascii_whitespace text none in
    let last = none_first is_ascii_whitespace (reverse text) (All-reverse Fails text none) in
    let start : without_first_blanks text ≡ text = ap (λ n. drop n text) first in
    ap (λ all. take (length all - suffix_len is_ascii_whitespace all) all) start
    ∙ take_all (length text - suffix_len is_ascii_whitespace text) text (omega (arith, last))

-- All of a line counts if no byte begins a comment and none is white space.
pub record IsQuiet (byte : ℕ) : Type 0 where
  no_comment : begins_comment byte ≡ false
  no_blank : is_ascii_whitespace byte ≡ false

-- All of such a line is its content.
content_quiet : (text : List ℕ) → All IsQuiet text → content text ≡ text
content_quiet text quiet =
    let no_marks = All-weaker IsQuiet (λ byte. begins_comment byte ≡ false)
    (λ byte is. is.no_comment) text quiet in
    let no_blanks = All-weaker IsQuiet (λ byte. is_ascii_whitespace byte ≡ false)
    (λ byte is. is.no_blank) text quiet in
    ap trimmed (take_all (position_or_len begins_comment text) text
    (all_before begins_comment text no_marks)) ∙ trimmed_plain text no_blanks

-- A text of plain bytes has only such bytes.
quiet_plain : (text : List ℕ) → All IsPlain text → All IsQuiet text
quiet_plain text plain = All-weaker IsPlain IsQuiet
    (λ byte is. record { no_comment = is.no_comment; no_blank = is.no_blank }) text plain

-- A text of plain bytes is not trimmed.
pub no_blanks_plain : (text : List ℕ) → All IsPlain text → trimmed text ≡ text
no_blanks_plain text plain = trimmed_plain text
    (All-weaker IsPlain (λ byte. is_ascii_whitespace byte ≡ false) (λ byte is. is.no_blank) text
    plain)

-- A text of plain bytes has no dash.
no_dash_plain : (text : List ℕ) → All IsPlain text → All (λ byte. eqb byte 45 ≡ false) text
no_dash_plain text plain =
    All-weaker IsPlain (λ byte. eqb byte 45 ≡ false) (λ byte is. is.no_dash) text plain

-- A text of plain bytes has no slash.
no_slash_plain : (text : List ℕ) → All IsPlain text → All (λ byte. eqb byte 47 ≡ false) text
no_slash_plain text plain =
    All-weaker IsPlain (λ byte. eqb byte 47 ≡ false) (λ byte is. is.no_slash) text plain

-- ---- lines of plain parts

-- A text without a separator is one part.
one_plain : (separator : ℕ) (text : List ℕ) → All (λ byte. eqb byte separator ≡ false) text
    → parts separator text ≡ text ∷ []
one_plain separator text none = slice_split_none (λ byte. eqb byte separator) text none

-- Two texts without a separator, with one between them, are two parts.
two_plain : (separator : ℕ) (first second : List ℕ)
    → All (λ byte. eqb byte separator ≡ false) first
    → All (λ byte. eqb byte separator ≡ false) second → eqb separator separator ≡ true
    → parts separator (first ++ separator ∷ second) ≡ first ∷ second ∷ []
two_plain separator first second none none_later same =
    slice_split_at (λ byte. eqb byte separator) first separator second none same
    ∙ ap (λ all. first ∷ all) (one_plain separator second none_later)

-- Two texts of plain bytes, with such a byte between them, have only such bytes.
quiet_both : (first second : List ℕ) (separator : ℕ) → All IsPlain first → All IsPlain second
    → IsQuiet separator → All IsQuiet (first ++ separator ∷ second)
quiet_both first second separator h k is =
    All-append IsQuiet first (separator ∷ second) (quiet_plain first h)
    (All-cons IsQuiet separator second is (quiet_plain second k))

-- The range of one number.
abbrev one_range : ℕ → RangeInclusive ℕ
one_range n = record { start = n; end = n; exhausted = false }

module _ (bits : ℕ) (IsAddress : List ℕ → ℕ → Type 0) where
  -- If the text is an address, the line means that address.
  pub plain_line : (text : List ℕ) (n : ℕ) (range : RangeInclusive ℕ) → All IsPlain text
      → IsAddress text n → Spans range n n → WritesRange bits IsAddress (content text) range
  plain_line text n range plain is spans =
      rw (
        content_quiet text (quiet_plain text plain),
        one_plain 45 text (no_dash_plain text plain),
        one_plain 47 text (no_slash_plain text plain),
      ) (record { address = n; written = is; one = spans })

  -- An address, a slash and a length mean the block.
  pub block_line : (text digits : List ℕ) (n length : ℕ) (range : RangeInclusive ℕ)
      → All IsPlain text → All IsPlain digits → IsAddress text n → digits ≡ decimal length
      → length ≤ bits → length < 2 ^ 64 → IsBlockAround bits length n range
      → WritesRange bits IsAddress (content (text ++ 47 ∷ digits)) range
  block_line text digits n length range plain plain_too is spelled within fits block =
      let quiet : IsQuiet 47 = record { no_comment = refl; no_blank = refl } in
      let no_dash = All-append (λ byte. eqb byte 45 ≡ false) text (47 ∷ digits)
      (no_dash_plain text plain)
      (All-cons (λ byte. eqb byte 45 ≡ false) 47 digits refl (no_dash_plain digits plain_too)) in
      rw (
        content_quiet (text ++ 47 ∷ digits) (quiet_both text digits 47 plain plain_too quiet),
        one_plain 45 (text ++ 47 ∷ digits) no_dash,
        two_plain 47 text digits (no_slash_plain text plain) (no_slash_plain digits plain_too) refl,
      ) (
      record {
        address = n;
        length = length;
        address_written = is;
        length_written = decimal_length bits IsAddress digits length fits spelled;
        within = within;
        block = block;
      }
      )

  -- A text that is an address is an end of a range.
  end_plain : (text : List ℕ) (n : ℕ) → All IsPlain text → IsAddress text n
      → WritesEnd bits IsAddress (trimmed text) (one_range n)
  end_plain text n plain is =
      rw (no_blanks_plain text plain, one_plain 47 text (no_slash_plain text plain)) (record {
        address = n;
        written = is;
        one = record { start = refl; end = refl; fresh = refl };
      })

  -- Two addresses with a dash between them mean the range.
  pub span_line : (start end : List ℕ) (first last : ℕ) (range : RangeInclusive ℕ)
      → All IsPlain start → All IsPlain end → IsAddress start first → IsAddress end last
      → first ≤ last → Spans range first last
      → WritesRange bits IsAddress (content (start ++ 45 ∷ end)) range
  span_line start end first last range plain plain_too is is_too in_order spans =
      let quiet : IsQuiet 45 = record { no_comment = refl; no_blank = refl } in
      rw (
        content_quiet (start ++ 45 ∷ end) (quiet_both start end 45 plain plain_too quiet),
        two_plain 45 start end (no_dash_plain start plain) (no_dash_plain end plain_too) refl,
      ) (
      record {
        first = one_range first;
        last = one_range last;
        first_written = end_plain start first plain is;
        last_written = end_plain end last plain_too is_too;
        in_order = in_order;
        span = spans;
      }
      )

-- ---- the texts of addresses

-- A byte from `0` on does not begin a comment, except `;`.
no_comment_from : (byte : ℕ) → 48 ≤ byte → byte ≢ 59 → begins_comment byte ≡ false
no_comment_from byte low other = grind (arith, nat_tests)

-- A byte from `0` on is not white space.
no_blank_from : (byte : ℕ) → 48 ≤ byte → is_ascii_whitespace byte ≡ false
no_blank_from byte low = grind (arith, nat_tests)

-- A byte above another is not that one.
not_below : (byte n : ℕ) → n < byte → eqb byte n ≡ false
not_below byte n low = grind (arith, nat_tests)

-- A byte below another is not that one.
not_above : (byte n : ℕ) → byte < n → eqb n byte ≡ false
not_above byte n high = grind (arith, nat_tests)

-- A byte of ASCII from `0` on is plain, except `;`.
plain_from : (byte : ℕ) → 48 ≤ byte → byte < 128 → byte ≢ 59 → IsPlain byte
plain_from byte low high other = record {
  no_comment = no_comment_from byte low other;
  no_blank = no_blank_from byte low;
  no_dash = not_below byte 45 (omega arith);
  no_slash = not_below byte 47 (omega arith);
  no_order_mark = not_above byte 239 (omega arith);
}

-- A dot is plain.
dot_plain : IsPlain 46
dot_plain = record {
  no_comment = refl;
  no_blank = refl;
  no_dash = refl;
  no_slash = refl;
  no_order_mark = refl;
}

-- A digit or a dot is plain.
digit_plain : (byte : ℕ) → IsDigitOrDot byte → IsPlain byte
digit_plain byte (inl digit) =
    plain_from byte digit.0 (omega (arith, digit.1)) (λ is. omega (arith, is, digit.1))
digit_plain byte (inr dot) = subst IsPlain (sym dot) dot_plain

-- A hexadecimal digit or a colon is plain.
hex_plain : (byte : ℕ) → IsHexOrColon byte → IsPlain byte
hex_plain byte (inl digit) =
    plain_from byte digit.0 (omega (arith, digit.1)) (λ is. omega (arith, is, digit.1))
hex_plain byte (inr letter) = plain_from byte (omega (arith, letter.0)) (omega (arith, letter.1))
    (λ is. omega (arith, is, letter.0))

-- A number in decimal is plain.
pub decimal_plain : (n : ℕ) → n < 2 ^ 64 → All IsPlain (decimal n)
decimal_plain n fits = All-from_get_or IsPlain (decimal n) 0 λ i within.
    let digit = digit_at (decimal n) i (decimal_is_IsNumeral n fits).0.1 within in
    plain_from (get_or (decimal n) i 0) digit.0 (omega (arith, digit.1))
    (λ is. omega (arith, is, digit.1))

-- The text of an IPv4 address is plain.
pub v4_plain : (n : ℕ) → All IsPlain (v4_text n)
v4_plain n = All-weaker IsDigitOrDot IsPlain digit_plain (v4_text n)
    (All-ipv4_text (to_be_bytes w32 n) (byte_fits 4 n))

-- The two octets of a segment are below 256.
octet_fits : (segments : List ℕ) → AllSegments segments
    → (k : ℕ) → get_or (octets_of segments) k 0 < 2 ^ 8
octet_fits [] fits k = omega arith
octet_fits (s ∷ segments) fits zero =
    let small : s < 2 ^ 16 = fits 0 in
    omega arith
octet_fits (s ∷ segments) fits (suc zero) = omega arith
octet_fits (s ∷ segments) fits (suc (suc k)) = octet_fits segments (λ j. fits (suc j)) k

-- If two texts are plain, so is the one that a test selects.
plain_both : (test : Bool) (xs ys : List ℕ) → All IsPlain xs → All IsPlain ys
    → All IsPlain (cond test xs ys)
plain_both true xs ys h k = h
plain_both false xs ys h k = k

-- A colon is plain.
colon_plain : IsPlain 58
colon_plain = record {
  no_comment = refl;
  no_blank = refl;
  no_dash = refl;
  no_slash = refl;
  no_order_mark = refl;
}

-- The letter f is plain.
f_plain : IsPlain 102
f_plain = record {
  no_comment = refl;
  no_blank = refl;
  no_dash = refl;
  no_slash = refl;
  no_order_mark = refl;
}

-- A plain text with a plain byte before it is plain.
plain_cons : (byte : ℕ) (text : List ℕ) → IsPlain byte → All IsPlain text
    → All IsPlain (byte ∷ text)
plain_cons byte text h k = All-cons IsPlain byte text h k

-- The start of an IPv4-mapped address, `::ffff:`.
mapped_plain : (text : List ℕ) → All IsPlain text
    → All IsPlain (58 ∷ 58 ∷ 102 ∷ 102 ∷ 102 ∷ 102 ∷ 58 ∷ text)
mapped_plain text plain =
    let last = plain_cons 58 text colon_plain plain in
    let f1 = plain_cons 102 (58 ∷ text) f_plain last in
    let f2 = plain_cons 102 (102 ∷ 58 ∷ text) f_plain f1 in
    let f3 = plain_cons 102 (102 ∷ 102 ∷ 58 ∷ text) f_plain f2 in
    let f4 = plain_cons 102 (102 ∷ 102 ∷ 102 ∷ 58 ∷ text) f_plain f3 in
    let second = plain_cons 58 (102 ∷ 102 ∷ 102 ∷ 102 ∷ 58 ∷ text) colon_plain f4 in
    plain_cons 58 (58 ∷ 102 ∷ 102 ∷ 102 ∷ 102 ∷ 58 ∷ text) colon_plain second

-- The text of eight segments is plain.
text_plain : (segments : List ℕ) → AllSegments segments → All IsPlain (ipv6_text segments)
unfolding ipv6_text
text_plain segments fits =
    let low = octets_of (drop 6 segments) in
    let dotted = All-weaker IsDigitOrDot IsPlain digit_plain (ipv4_text low)
    (All-ipv4_text low (octet_fits (drop 6 segments) (AllSegments-drop 6 segments fits))) in
    let hex = All-weaker IsHexOrColon IsPlain hex_plain (hex_groups_text segments)
    (All-hex_groups_text segments fits) in
    plain_both (bytes_eq (take 6 segments) (0 ∷ 0 ∷ 0 ∷ 0 ∷ 0 ∷ 0xffff ∷ []))
    (58 ∷ 58 ∷ 102 ∷ 102 ∷ 102 ∷ 102 ∷ 58 ∷ ipv4_text low) (hex_groups_text segments)
    (mapped_plain (ipv4_text low) dotted) hex

-- The text of an IPv6 address is plain.
pub v6_plain : (n : ℕ) → All IsPlain (v6_text n)
v6_plain n =
    let bytes = to_be_bytes w128 n in
    text_plain (segments_of bytes) (segment_fits bytes (byte_fits 16 n))
