-- A text writes at most one address of a family, and no byte of it has a meaning of its own in a
-- line.
use Rattle.std.specs.Prelude.{◌≡◌, ℕ, zero, suc, ◌^◌, ◌<◌, ◌++◌, All, Bool, IsFalse, List, [], ◌∷◌}
use Rattle.std.proofs.Common.{◌∙◌, ap, arith, get_or, inl, inr, refl, subst, sym}
use Rattle.std.proofs.NetLemmas.Alphabet.{IsDigitOrDot, All-ipv4_text}
use Rattle.std.proofs.NetLemmas.Theorems.{IsIpv4Text_unique, IsIpv6Text_unique}
use Rattle.std.proofs.lemmas.Bool.Decides.{nat_tests}
use Rattle.std.proofs.lemmas.List.Elements.{All-append, All-cons, All-nil, All-weaker}
use Rattle.std.specs.Char.{digit_value}
use Rattle.std.specs.Net.Addr.{ipv4_bits, ipv6_bits}
use Rattle.std.specs.Net.Grammar.{IsColonHex, IsDotted, IsGroupsAfter}
use Rattle.std.specs.Net.Text.{ipv4_text}
use Rattle.std.specs.Str.Parse.{AllDigits}
use Rattle.ip_sets.specs.Address.{IsV4, IsV6}
use Rattle.ip_sets.specs.Line.{is_mark}

-- A text writes at most one IPv4 address.
pub one_v4 : (text : List ℕ) (m n : ℕ) → IsV4 text m → IsV4 text n → m ≡ n
one_v4 text m n h k =
    h.2 ∙ ap ipv4_bits (IsIpv4Text_unique text h.0 k.0 h.1 k.1) ∙ sym k.2

-- A text writes at most one IPv6 address.
pub one_v6 : (text : List ℕ) (m n : ℕ) → IsV6 text m → IsV6 text n → m ≡ n
one_v6 text m n h k =
    h.2 ∙ ap ipv6_bits (IsIpv6Text_unique text h.0 k.0 h.1 k.1) ∙ sym k.2

-- ---- bytes without a meaning of their own

-- Whether the byte may be part of an address.
abbrev IsUnmarked : ℕ → Type 0
IsUnmarked byte = IsFalse (is_mark byte)

-- A digit or a dot may be.
digit_unmarked : (byte : ℕ) → IsDigitOrDot byte → IsUnmarked byte
digit_unmarked byte (inl digit) = grind (arith, nat_tests)
digit_unmarked byte (inr dot) = rw dot refl

-- Each of four numbers below 256 has 8 bits.
octets_fit : (a b c d : ℕ) → (a < 256) × (b < 256) × (c < 256) × (d < 256) → (k : ℕ)
    → get_or (a ∷ b ∷ c ∷ d ∷ []) k 0 < 2 ^ 8
octets_fit a b c d fit zero = omega (arith, fit.0)
octets_fit a b c d fit (suc zero) = omega (arith, fit.1)
octets_fit a b c d fit (suc (suc zero)) = omega (arith, fit.2)
octets_fit a b c d fit (suc (suc (suc zero))) = omega (arith, fit.3)
octets_fit a b c d fit (suc (suc (suc (suc k)))) = omega arith

-- So may each byte of an address in dotted decimals.
dotted_unmarked : (text octets : List ℕ) → IsDotted text octets → All IsUnmarked text
dotted_unmarked text octets h =
    subst (All IsUnmarked) (sym h.spelled)
    (All-weaker IsDigitOrDot IsUnmarked digit_unmarked (ipv4_text (h.a ∷ h.b ∷ h.c ∷ h.d ∷ []))
    (All-ipv4_text (h.a ∷ h.b ∷ h.c ∷ h.d ∷ []) (octets_fit h.a h.b h.c h.d h.fit)))

-- No byte of an IPv4 address has a meaning of its own in a line.
pub unmarked_v4 : (text : List ℕ) (number : ℕ) → IsV4 text number
    → All (λ byte. IsFalse (is_mark byte)) text
unmarked_v4 text number h = dotted_unmarked text _ h.1

-- A hexadecimal digit may be part of an address.
hex_unmarked : (byte : ℕ) → digit_value byte < 16 → IsUnmarked byte
hex_unmarked byte digit = grind (arith, nat_tests)

-- So may each of several.
digits_unmarked : (text : List ℕ) → AllDigits 16 text → All IsUnmarked text
digits_unmarked [] all = All-nil IsUnmarked
digits_unmarked (byte ∷ text) all =
    All-cons IsUnmarked byte text (hex_unmarked byte all.0) (digits_unmarked text all.1)

-- So may a colon.
colon_unmarked : All IsUnmarked (58 ∷ [])
colon_unmarked = All-cons IsUnmarked 58 [] refl (All-nil IsUnmarked)

-- So may each byte of groups, if those before the first group may be.
groups_unmarked : (ipv4 : Bool) (lead text segments : List ℕ) → All IsUnmarked lead
    → IsGroupsAfter ipv4 lead text segments → All IsUnmarked text
groups_unmarked ipv4 lead text [] first h = rw h (All-nil IsUnmarked)
groups_unmarked ipv4 lead text (s ∷ segments) first (inl (group, rest, is, digits, more)) =
    subst (All IsUnmarked) (sym is)
    (All-append IsUnmarked (lead ++ group) rest
    (All-append IsUnmarked lead group first (digits_unmarked group digits.0.0.1))
    (groups_unmarked ipv4 (58 ∷ []) rest segments colon_unmarked more))
groups_unmarked ipv4 lead text (s ∷ segments) first (inr (last, octets, may, is, dotted, same)) =
    subst (All IsUnmarked) (sym is)
    (All-append IsUnmarked lead last first (dotted_unmarked last octets dotted))

-- So may each byte of an address in groups, with or without `::`.
colon_hex_unmarked : (text segments : List ℕ) → IsColonHex text segments → All IsUnmarked text
colon_hex_unmarked text segments (inl groups) =
    groups_unmarked _ [] text segments (All-nil IsUnmarked) groups.0
colon_hex_unmarked text segments (inr h) =
    let tail = groups_unmarked _ [] h.tail_text h.tail (All-nil IsUnmarked) h.tail_groups in
    let head = groups_unmarked _ [] h.head_text h.head (All-nil IsUnmarked) h.head_groups in
    let two = All-append IsUnmarked (58 ∷ []) (58 ∷ []) colon_unmarked colon_unmarked in
    subst (All IsUnmarked) (sym h.spelled)
    (All-append IsUnmarked (h.head_text ++ 58 ∷ 58 ∷ []) h.tail_text
    (All-append IsUnmarked h.head_text (58 ∷ 58 ∷ []) head two) tail)

-- No byte of an IPv6 address has a meaning of its own in a line.
pub unmarked_v6 : (text : List ℕ) (number : ℕ) → IsV6 text number
    → All (λ byte. IsFalse (is_mark byte)) text
unmarked_v6 text number h = colon_hex_unmarked text _ h.1
