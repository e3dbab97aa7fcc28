-- The text of numbers and addresses, digit by digit.
use Rattle.std.proofs.Common.{◌≡◌, ◌∙◌, ℕ, ◌+◌, ◌/◌, ◌%◌, ◌<◌, ◌≤◌, false, true, List, [], ◌∷◌, ◌++◌, take, drop, bytes_eq, nat_le, nat_lt, sym, ap, append_assoc, arith}
use Rattle.std.proofs.lemmas.Bool.Decides.{nat_tests}
use Rattle.std.proofs.lemmas.Fmt.{decimal_digit, decimal_step}
use Rattle.std.proofs.lemmas.Slice.Eq.{bytes_eq-Decides}
use Rattle.std.specs.Char.{digit_char}
use Rattle.std.specs.Fmt.{decimal}
use Rattle.std.specs.Net.Addr.{IsIpv4Mapped, IsIpv6OfBits, ipv6_segments, octets_of}
use Rattle.std.specs.Net.Text.{compressed_text, groups_text, hex, hex_groups_text, ipv4_text, ipv6_text, longest_zero_run}
use Rattle.std.specs.Prelude.{codes}
use Rattle.std.specs.declared.net.ipv6_addr.Ipv6Addr.{Ipv6Addr}
use Rattle.ip_sets.specs.Address.{v6_text}

-- Two texts that are added one after the other.
pub laid-then : (old mid new first last : List ℕ) → mid ≡ old ++ first → new ≡ mid ++ last
    → new ≡ old ++ (first ++ last)
laid-then old mid new first last before after =
    after ∙ ap (λ v. v ++ last) before ∙ append_assoc old first last

-- ---- decimal digits

-- A number of one digit.
pub one-digit : (n : ℕ) → n < 10 → decimal n ≡ (48 + n % 10) ∷ []
one-digit n high =
    let same : n ≡ n % 10 = omega arith in
    decimal_digit n high ∙ ap (λ digit. (48 + digit) ∷ []) same

-- A number of two digits.
pub two-digits : (n : ℕ) → 10 ≤ n → n < 100
    → decimal n ≡ (48 + n / 10 % 10) ∷ (48 + n % 10) ∷ []
two-digits n low high =
    decimal_step n low (omega arith)
    ∙ ap (λ front. front ++ (48 + n % 10) ∷ []) (one-digit (n / 10) (omega arith))

-- A number of three digits.
pub three-digits : (n : ℕ) → 100 ≤ n → n < 1000
    → decimal n ≡ (48 + n / 100) ∷ (48 + n / 10 % 10) ∷ (48 + n % 10) ∷ []
three-digits n low high =
    let first : n / 10 / 10 % 10 ≡ n / 100 = omega arith in
    decimal_step n (omega arith) (omega arith)
    ∙ ap (λ front. front ++ (48 + n % 10) ∷ []) (two-digits (n / 10) (omega arith) (omega arith))
    ∙ ap (λ digit. (48 + digit) ∷ (48 + n / 10 % 10) ∷ (48 + n % 10) ∷ []) first

-- ---- hexadecimal digits

module _ (n : ℕ) where
  -- One digit.
  pub hex-one : n < 0x10 → hex n ≡ digit_char (n % 16) ∷ []
  unfolding hex
  hex-one high =
      let most : nat_le 0x1000 n ≡ false = grind (arith, nat_tests) in
      let more : nat_le 0x100 n ≡ false = grind (arith, nat_tests) in
      let some : nat_le 0x10 n ≡ false = grind (arith, nat_tests) in
      rw (most, more, some)

  -- Two digits.
  pub hex-two : 0x10 ≤ n → n < 0x100
      → hex n ≡ digit_char (n / 0x10 % 16) ∷ digit_char (n % 16) ∷ []
  unfolding hex
  hex-two low high =
      let most : nat_le 0x1000 n ≡ false = grind (arith, nat_tests) in
      let more : nat_le 0x100 n ≡ false = grind (arith, nat_tests) in
      let some : nat_le 0x10 n ≡ true = grind (arith, nat_tests) in
      rw (most, more, some)

  -- Three digits.
  pub hex-three : 0x100 ≤ n → n < 0x1000
      → hex n ≡ digit_char (n / 0x100 % 16) ∷ digit_char (n / 0x10 % 16) ∷ digit_char (n % 16) ∷ []
  unfolding hex
  hex-three low high =
      let most : nat_le 0x1000 n ≡ false = grind (arith, nat_tests) in
      let more : nat_le 0x100 n ≡ true = grind (arith, nat_tests) in
      rw (most, more)

  -- Four digits.
  pub hex-four : 0x1000 ≤ n → hex n ≡ digit_char (n / 0x1000) ∷ digit_char (n / 0x100 % 16)
      ∷ digit_char (n / 0x10 % 16) ∷ digit_char (n % 16) ∷ []
  unfolding hex
  hex-four low =
      let most : nat_le 0x1000 n ≡ true = grind (arith, nat_tests) in
      rw most

-- ---- IPv6 addresses

module _ (segments : List ℕ) (run : ℕ × ℕ) (is : run ≡ longest_zero_run segments) where
  -- The text of segments with at most one zero in a row.
  pub whole-groups : run.1 < 2 → hex_groups_text segments ≡ groups_text segments
  unfolding hex_groups_text
  whole-groups short =
      let test : nat_lt 1 run.1 ≡ false = grind (arith, nat_tests) in
      let whole : compressed_text segments run ≡ groups_text segments = rw test in
      ap (compressed_text segments) (sym is) ∙ whole

  -- The text of segments with more zeros in a row.
  pub parted-groups : 2 ≤ run.1 → hex_groups_text segments ≡ groups_text (take run.0 segments)
      ++ codes "::" ++ groups_text (drop (run.0 + run.1) segments)
  unfolding hex_groups_text
  parted-groups long =
      let test : nat_lt 1 run.1 ≡ true = grind (arith, nat_tests) in
      let parted : compressed_text segments run ≡ groups_text (take run.0 segments) ++ codes "::"
      ++ groups_text (drop (run.0 + run.1) segments) = rw test in
      ap (compressed_text segments) (sym is) ∙ parted

-- The text of an address that is IPv4-mapped.
pub mapped-text : (segments : List ℕ) → IsIpv4Mapped segments
    → ipv6_text segments ≡ codes "::ffff:" ++ ipv4_text (octets_of (drop 6 segments))
unfolding ipv6_text
mapped-text segments is =
    let same = (bytes_eq-Decides (take 6 segments) (0 ∷ 0 ∷ 0 ∷ 0 ∷ 0 ∷ 0xffff ∷ [])).1 is in
    rw same

-- The text of an address that is not IPv4-mapped.
pub groups-text : (segments : List ℕ) → ¬ (IsIpv4Mapped segments)
    → ipv6_text segments ≡ hex_groups_text segments
unfolding ipv6_text
groups-text segments other =
    let differ : bytes_eq (take 6 segments) (0 ∷ 0 ∷ 0 ∷ 0 ∷ 0 ∷ 0xffff ∷ []) ≡ false =
    grind (arith, bytes_eq-Decides (take 6 segments) (0 ∷ 0 ∷ 0 ∷ 0 ∷ 0 ∷ 0xffff ∷ []), other) in
    rw differ

-- The text of a number is that of the address with its bits.
pub text-of-bits : (address : Ipv6Addr) (number : ℕ) → IsIpv6OfBits address number
    → ipv6_text (ipv6_segments address) ≡ v6_text number
unfolding IsIpv6OfBits
text-of-bits address number is = ap ipv6_text is
