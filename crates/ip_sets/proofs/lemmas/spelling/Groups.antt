-- Groups of hexadecimal digits are the segments of an address.
use Rattle.std.proofs.Common.{◌≡◌, ◌∙◌, ℕ, zero, suc, ◌+◌, ◌-◌, ◌*◌, ◌/◌, ◌%◌, ◌^◌, ◌<◌, ◌≤◌, Bool, true, false, cond, eqb, nat_lt, true≢false, List, [], ◌∷◌, ◌++◌, get_or, length, replicate, inl, inr, refl, sym, ap, append-nil, append_assoc, length-append, arith}
use Rattle.std.proofs.Math.Pow.{pow_mono}
use Rattle.std.proofs.lemmas.Bool.{ne_eqb}
use Rattle.std.proofs.lemmas.List.{length-replicate}
use Rattle.std.proofs.lemmas.Nat.{pow-add, row_fits}
use Rattle.std.specs.Char.{digit_value}
use Rattle.std.specs.Int.{w128, from_be_bytes}
use Rattle.std.specs.Net.Addr.{ipv6_bits, octets_of}
use Rattle.std.specs.Net.Grammar.{IsGroup, IsGroups, IsGroupsAfter}
use Rattle.ip_sets.specs.Address.{IsV6}
use Rattle.ip_sets.specs.Groups.{AreGroups, BeginsWithDigit, BeginsWithGroup, lead, segments_after}
use Rattle.ip_sets.specs.Plain.{BeginsWith}
use Rattle.ip_sets.specs.declared.line.groups.Groups.{Groups}
use Rattle.ip_sets.specs.declared.line.groups.TheConstants.{HEX_VALUES}
use Rattle.ip_sets.proofs.lemmas.spelling.Below.{passes_at, passes_below, when_small}

-- ---- one digit

-- Whether the table has the value of a byte as a hexadecimal digit, if it has one below 16.
abbrev is_hex_read : ℕ → Bool
is_hex_read byte = cond (nat_lt (get_or HEX_VALUES byte 0) 16)
    (eqb (digit_value byte) (get_or HEX_VALUES byte 0)) true

-- The table has the value of each byte.
all_read : passes_below 256 is_hex_read ≡ true
unfolding passes_below
all_read = refl

-- A byte below 16 in the table has the value that stands there.
pub hex_read : (byte : ℕ) → byte < 256 → get_or HEX_VALUES byte 0 < 16
    → digit_value byte ≡ get_or HEX_VALUES byte 0
hex_read byte fits small =
    when_small 16 (digit_value byte) (get_or HEX_VALUES byte 0)
    (passes_at is_hex_read 256 all_read byte fits) small

-- ---- one group

module _ (bytes after_1 : List ℕ) (a : ℕ) (h : BeginsWithDigit bytes a after_1) where
  -- One digit is a group.
  pub one_digit : BeginsWith IsGroup bytes a after_1
  one_digit = record {
    text = h.digit ∷ [];
    parts = h.parts;
    written = (
      ((omega arith, (omega (arith, h.is_value, h.below), tt)), omega (arith, h.is_value)),
      omega arith,
    );
  }

  module _ (after_2 : List ℕ) (b : ℕ) (i : BeginsWithDigit after_1 b after_2) where
    -- Two digits are a group.
    pub two_digits : BeginsWith IsGroup bytes (a * 16 + b) after_2
    two_digits = record {
      text = h.digit ∷ i.digit ∷ [];
      parts = h.parts ∙ ap (λ others. h.digit ∷ others) i.parts;
      written = (
        (
          (
            omega arith,
            (omega (arith, h.is_value, h.below), (omega (arith, i.is_value, i.below), tt)),
          ),
          omega (arith, h.is_value, i.is_value),
        ),
        omega arith,
      );
    }

    module _ (after_3 : List ℕ) (c : ℕ) (j : BeginsWithDigit after_2 c after_3) where
      -- Three digits are a group.
      pub three_digits : BeginsWith IsGroup bytes ((a * 16 + b) * 16 + c) after_3
      three_digits = record {
        text = h.digit ∷ i.digit ∷ j.digit ∷ [];
        parts = h.parts ∙ ap (λ others. h.digit ∷ others) i.parts
            ∙ ap (λ others. h.digit ∷ i.digit ∷ others) j.parts;
        written = (
          (
            (
              omega arith,
              (
                omega (arith, h.is_value, h.below),
                (omega (arith, i.is_value, i.below), (omega (arith, j.is_value, j.below), tt)),
              ),
            ),
            omega (arith, h.is_value, i.is_value, j.is_value),
          ),
          omega arith,
        );
      }

      -- Four digits are a group.
      pub four_digits : (after_4 : List ℕ) (d : ℕ) → BeginsWithDigit after_3 d after_4
          → BeginsWith IsGroup bytes (((a * 16 + b) * 16 + c) * 16 + d) after_4
      four_digits after_4 d k = record {
        text = h.digit ∷ i.digit ∷ j.digit ∷ k.digit ∷ [];
        parts = h.parts ∙ ap (λ others. h.digit ∷ others) i.parts
            ∙ ap (λ others. h.digit ∷ i.digit ∷ others) j.parts
            ∙ ap (λ others. h.digit ∷ i.digit ∷ j.digit ∷ others) k.parts;
        written = (
          (
            (
              omega arith,
              (
                omega (arith, h.is_value, h.below),
                (
                  omega (arith, i.is_value, i.below),
                  (
                    omega (arith, j.is_value, j.below),
                    (omega (arith, k.is_value, k.below), tt),
                  ),
                ),
              ),
            ),
            omega (arith, h.is_value, i.is_value, j.is_value, k.is_value),
          ),
          omega arith,
        );
      }

-- ---- one group more

-- A group after a colon comes last.
after_colon : (text segments group : List ℕ) (s : ℕ)
    → IsGroupsAfter false (58 ∷ []) text segments → IsGroup group s
    → IsGroupsAfter false (58 ∷ []) (text ++ 58 ∷ group) (segments ++ s ∷ [])
after_colon text [] group s is digits =
    inl (group, [], rw is (sym (append-nil (58 ∷ group))), digits, refl)
after_colon text (t ∷ segments) group s (inl (g, rest, is, first, more)) digits = inl (
  g,
  rest ++ 58 ∷ group,
  ap (λ all. all ++ 58 ∷ group) is ∙ append_assoc (58 ∷ g) rest (58 ∷ group),
  first,
  after_colon rest segments group s more digits,
)
after_colon text (t ∷ segments) group s (inr (last, octets, may, is, dotted, same)) digits =
    absurd (true≢false (sym may))

-- Groups with one more after them are groups.
group_more : (text segments group : List ℕ) (s : ℕ) (is_first : Bool)
    → IsGroups false text segments → is_first ≡ eqb (length segments) 0 → IsGroup group s
    → IsGroups false (text ++ (lead is_first ++ group)) (segments ++ s ∷ [])
group_more text [] group s true is none digits =
    inl (group, [], rw is (sym (append-nil group)), digits, refl)
group_more text [] group s false is none digits = absurd (true≢false (sym none))
group_more text (t ∷ segments) group s true is none digits =
    let some = ne_eqb (length (t ∷ segments)) 0 (λ empty. absurd (omega (arith, empty))) in
    absurd (true≢false (none ∙ some))
group_more text (t ∷ segments) group s false (inl (g, rest, is, first, more)) none digits = inl (
  g,
  rest ++ 58 ∷ group,
  ap (λ all. all ++ 58 ∷ group) is ∙ append_assoc g rest (58 ∷ group),
  first,
  after_colon rest segments group s more digits,
)
group_more text (t ∷ segments) group s false (inr (last, octets, may, is, dotted, same)) none digits =
    absurd (true≢false (sym may))

-- One segment more shifts the number by 16 bits, and is added.
value_more : (n : ℕ) (segments : List ℕ) (s : ℕ)
    → segments_after n (segments ++ s ∷ []) ≡ segments_after n segments * 2 ^ 16 + s
value_more n [] s = refl
value_more n (t ∷ segments) s = value_more (n * 2 ^ 16 + t) segments s

-- One group more needs 16 bits more.
bits_more : (count : ℕ) → 2 ^ (16 * (count + 1)) ≡ 2 ^ (16 * count) * 2 ^ 16
bits_more count =
    let sum : 16 * (count + 1) ≡ 16 * count + 16 = omega arith in
    ap (λ n. 2 ^ n) sum ∙ pow-add 2 (16 * count) 16

-- The number of fewer than eight groups and one more fits 128 bits.
pub room_for_more : (count number value : ℕ) → count < 8 → number < 2 ^ (16 * count)
    → value < 2 ^ 16 → number * 65536 + value < 2 ^ 128
room_for_more count number value few fits small =
    let most = pow_mono {i = 16 * count} {j = 112} (omega arith) in
    omega (arith, most, fits, small)

-- Before the first group is read, no groups were read.
pub no_groups : (bytes : List ℕ) (read : Groups) → read.number ≡ 0 → read.count ≡ 0
    → read.rest.now ≡ bytes → AreGroups bytes read
no_groups bytes read nothing none all = record {
  text = [];
  segments = [];
  parts = sym all;
  written = refl;
  counted = sym none;
  few = omega (arith, none);
  value = nothing;
  fits =
      let bits : 2 ^ (16 * read.count) ≡ 1 = ap (λ n. 2 ^ (16 * n)) none in
      omega (arith, nothing, bits);
}

-- Groups that were read, and one group more, are groups that were read.
pub one_group_more : (bytes : List ℕ) (old new : Groups) (value : ℕ) (rest : List ℕ)
    → AreGroups bytes old → BeginsWithGroup (eqb old.count 0) old.rest.now value rest
    → old.count < 8 → value < 2 ^ 16 → new.number ≡ old.number * 65536 + value
    → new.count ≡ old.count + 1 → new.rest.now ≡ rest → AreGroups bytes new
one_group_more bytes old new value rest h next few small number count others =
    let is_first = eqb old.count 0 in
    let front = lead is_first ++ next.text in
    let size = length-append h.segments (value ∷ []) in
    let bits : 2 ^ (16 * new.count) ≡ 2 ^ (16 * old.count) * 2 ^ 16 =
    ap (λ n. 2 ^ (16 * n)) count ∙ bits_more old.count in
    record {
      text = h.text ++ front;
      segments = h.segments ++ value ∷ [];
      parts = h.parts ∙ ap (λ later. h.text ++ later) next.parts
          ∙ ap (λ later. h.text ++ later) (sym (append_assoc (lead is_first) next.text rest))
          ∙ sym (append_assoc h.text front rest)
          ∙ ap (λ later. h.text ++ front ++ later) (sym others);
      written = group_more h.text h.segments next.text value is_first h.written
          (ap (λ n. eqb n 0) (sym h.counted)) next.group;
      counted = omega (arith, size, h.counted, count);
      few = omega (arith, few, count);
      value = omega (arith, number, h.value, value_more 0 h.segments value);
      fits = omega (arith, number, h.fits, small, bits);
    }

-- ---- eight segments

-- The number of eight segments is that of their sixteen bytes.
words : (a b c d e f g h : ℕ)
    → (((((((0 * 2 ^ 16 + a) * 2 ^ 16 + b) * 2 ^ 16 + c) * 2 ^ 16 + d) * 2 ^ 16 + e) * 2 ^ 16 + f)
    * 2 ^ 16 + g) * 2 ^ 16 + h
    ≡ a / 256 * 256 ^ 15 + a % 256 * 256 ^ 14 + b / 256 * 256 ^ 13 + b % 256 * 256 ^ 12
    + c / 256 * 256 ^ 11 + c % 256 * 256 ^ 10 + d / 256 * 256 ^ 9 + d % 256 * 256 ^ 8
    + e / 256 * 256 ^ 7 + e % 256 * 256 ^ 6 + f / 256 * 256 ^ 5 + f % 256 * 256 ^ 4
    + g / 256 * 256 ^ 3 + g % 256 * 256 ^ 2 + h / 256 * 256 ^ 1 + h % 256
words a b c d e f g h = omega arith

-- Eight segments write the same number as their bytes.
segment_bits : (segments : List ℕ) → length segments ≡ 8
    → segments_after 0 segments ≡ from_be_bytes w128 (octets_of segments)
segment_bits [] eight = absurd (omega arith)
segment_bits (a ∷ []) eight = absurd (omega arith)
segment_bits (a ∷ b ∷ []) eight = absurd (omega arith)
segment_bits (a ∷ b ∷ c ∷ []) eight = absurd (omega arith)
segment_bits (a ∷ b ∷ c ∷ d ∷ []) eight = absurd (omega arith)
segment_bits (a ∷ b ∷ c ∷ d ∷ e ∷ []) eight = absurd (omega arith)
segment_bits (a ∷ b ∷ c ∷ d ∷ e ∷ f ∷ []) eight = absurd (omega arith)
segment_bits (a ∷ b ∷ c ∷ d ∷ e ∷ f ∷ g ∷ []) eight = absurd (omega arith)
segment_bits (a ∷ b ∷ c ∷ d ∷ e ∷ f ∷ g ∷ h ∷ []) eight = words a b c d e f g h
segment_bits (a ∷ b ∷ c ∷ d ∷ e ∷ f ∷ g ∷ h ∷ i ∷ segments) eight = absurd (omega arith)

-- Groups of which none is an IPv4 address are groups.
any_groups : (before text segments : List ℕ) → IsGroupsAfter false before text segments
    → IsGroupsAfter true before text segments
any_groups before text [] h = h
any_groups before text (s ∷ segments) (inl (g, rest, is, digits, more)) =
    inl (g, rest, is, digits, any_groups (58 ∷ []) rest segments more)
any_groups before text (s ∷ segments) (inr (last, octets, may, is, dotted, same)) =
    absurd (true≢false (sym may))

-- Eight groups write an IPv6 address.
pub eight_groups : (bytes : List ℕ) (read : Groups) → AreGroups bytes read → read.count ≡ 8
    → BeginsWith IsV6 bytes read.number read.rest.now
unfolding ipv6_bits
eight_groups bytes read h eight = record {
  text = h.text;
  parts = h.parts;
  written = (
    record { segments = h.segments },
    inl (any_groups [] h.text h.segments h.written, h.counted ∙ eight),
    h.value ∙ segment_bits h.segments (h.counted ∙ eight),
  );
}

-- ---- segments that are left out

-- All groups have 128 bits.
all_bits : (count : ℕ) → count ≤ 8 → 2 ^ 128 ≡ 2 ^ (16 * count) * 2 ^ (16 * (8 - count))
all_bits count few =
    let sum : 128 ≡ 16 * count + 16 * (8 - count) = omega arith in
    ap (λ n. 2 ^ n) sum ∙ pow-add 2 (16 * count) (16 * (8 - count))

-- The last groups find room after the first ones.
pub shifted_room : (count other number last : ℕ) → count + other < 8
    → number < 2 ^ (16 * count) → last < 2 ^ (16 * other)
    → number * 2 ^ (16 * (8 - count)) + last < 2 ^ 128
shifted_room count other number last room fits fits_too =
    let free = 2 ^ (16 * (8 - count)) in
    let rows = row_fits number free (2 ^ (16 * count)) free fits (omega arith) in
    let bits = all_bits count (omega (arith, room)) in
    let most = pow_mono {i = 16 * other} {j = 16 * (8 - count)} (omega (arith, room)) in
    omega (arith, rows, bits, most, fits_too)

-- The number of two lists of segments is that of the second after that of the first.
after_all : (n : ℕ) (xs ys : List ℕ)
    → segments_after n (xs ++ ys) ≡ segments_after (segments_after n xs) ys
after_all n [] ys = refl
after_all n (x ∷ xs) ys = after_all (n * 2 ^ 16 + x) xs ys

-- One segment more has 16 bits more.
bits_of_one_more : (count : ℕ) → 2 ^ (16 * suc count) ≡ 2 ^ 16 * 2 ^ (16 * count)
bits_of_one_more count =
    let sum : 16 * suc count ≡ 16 + 16 * count = omega arith in
    ap (λ n. 2 ^ n) sum ∙ pow-add 2 16 (16 * count)

-- Segments that are 0 shift the number.
after_zeros : (count n : ℕ) → segments_after n (replicate count 0) ≡ n * 2 ^ (16 * count)
after_zeros zero n = omega arith
after_zeros (suc count) n =
    let bits = ap (λ p. n * p) (bits_of_one_more count) in
    omega (arith, after_zeros count (n * 2 ^ 16 + 0), bits)

-- Segments after those of a number shift it, and then add their own number.
after_number : (n : ℕ) (segments : List ℕ) → segments_after n segments
    ≡ n * 2 ^ (16 * length segments) + segments_after 0 segments
after_number n [] = omega arith
after_number n (s ∷ segments) =
    let bits = ap (λ p. n * p) (bits_of_one_more (length segments)) in
    omega (
      arith,
      after_number (n * 2 ^ 16 + s) segments,
      after_number (0 * 2 ^ 16 + s) segments,
      bits,
    )

-- The number of segments with zeros between them.
zeros_between : (first last : List ℕ) (count : ℕ)
    → segments_after 0 (first ++ replicate count 0 ++ last)
    ≡ segments_after 0 first * 2 ^ (16 * (count + length last)) + segments_after 0 last
zeros_between first last count =
    let n = segments_after 0 first in
    let sum : 16 * (count + length last) ≡ 16 * count + 16 * length last = omega arith in
    let bits : 2 ^ (16 * (count + length last)) ≡ 2 ^ (16 * count) * 2 ^ (16 * length last) =
    ap (λ k. 2 ^ k) sum ∙ pow-add 2 (16 * count) (16 * length last) in
    let start : segments_after 0 (first ++ replicate count 0) ≡ n * 2 ^ (16 * count) =
    after_all 0 first (replicate count 0) ∙ after_zeros count n in
    let shift = ap (λ p. n * p) bits in
    after_all 0 (first ++ replicate count 0) last
    ∙ ap (λ k. segments_after k last) start
    ∙ after_number (n * 2 ^ (16 * count)) last
    ∙ omega (arith, shift)

-- Fewer than eight groups, with `::` between some of them, write an IPv6 address.
pub elided_groups : (bytes between rest : List ℕ) (first last : Groups) (number : ℕ)
    → AreGroups bytes first → first.rest.now ≡ 58 ∷ between → between ≡ 58 ∷ rest
    → AreGroups rest last → first.count + last.count < 8
    → number ≡ first.number * 2 ^ (16 * (8 - first.count)) + last.number
    → BeginsWith IsV6 bytes number last.rest.now
unfolding ipv6_bits
elided_groups bytes between rest first last number h colon colon_too i room is =
    let head = h.segments in
    let tail = i.segments in
    let count = 8 - length head - length tail in
    let segments = head ++ replicate count 0 ++ tail in
    let zeros = length-replicate {A = ℕ} count 0 in
    let size : length segments ≡ 8 = omega (
      arith,
      length-append (head ++ replicate count 0) tail,
      length-append head (replicate count 0),
      zeros,
      h.counted,
      i.counted,
      room,
    ) in
    let left : count + length tail ≡ 8 - first.count = omega (arith, h.counted, i.counted, room) in
    let value : number ≡ segments_after 0 segments =
    is
    ∙ (λ k. h.value k * 2 ^ (16 * sym left k) + i.value k)
    ∙ sym (zeros_between head tail count)
    in
    record {
      text = h.text ++ (58 ∷ 58 ∷ []) ++ i.text;
      parts = h.parts
          ∙ ap (λ later. h.text ++ later) (colon ∙ ap (λ later. 58 ∷ later) (colon_too
          ∙ ap (λ later. 58 ∷ later) i.parts))
          ∙ sym (simp append_assoc);
      written = (
        record { segments = segments },
        inr (
            record {
              head_text = h.text;
              tail_text = i.text;
              head = head;
              tail = tail;
              spelled = refl;
              head_groups = h.written;
              tail_groups = any_groups [] i.text tail i.written;
              room = omega (arith, room, h.counted, i.counted);
              value = refl;
            }
            ),
        value ∙ segment_bits segments size,
      );
    }
