-- The text of an address writes that address.
use Rattle.std.proofs.Common.{◌∙◌, ℕ, ◌^◌, ◌<◌, refl, sym, ap}
use Rattle.std.proofs.NetLemmas.Texts.{IsDotted-ipv4_text, IsColonHex-ipv6_text}
use Rattle.std.proofs.lemmas.Nat.{from_be_bytes-to_be_bytes_4}
use Rattle.std.specs.Int.{w32, w128, from_be_bytes, to_be_bytes}
use Rattle.std.specs.Net.Addr.{IsIpv4OfBits, IsIpv6OfBits, ipv4_bits, ipv6_bits, octets_of, segments_of}
use Rattle.std.specs.declared.net.ipv4_addr.Ipv4Addr.{Ipv4Addr}
use Rattle.std.specs.declared.net.ipv6_addr.Ipv6Addr.{Ipv6Addr}
use Rattle.ip_sets.specs.Address.{IsV4, IsV6, v4_text, v6_text}
use Rattle.ip_sets.proofs.lemmas.spelling.Bytes.{byte_fits, from_be_bytes-to_be_bytes_16, octets_of-segments_of, segment_fits}

-- The text of an IPv4 address writes its number.
pub IsV4-v4_text : (address : Ipv4Addr) (n : ℕ) → n < 2 ^ 32 → IsIpv4OfBits address n
    → IsV4 (v4_text n) n
unfolding IsIpv4OfBits ipv4_bits
IsV4-v4_text address n fits is = (
  address,
  rw is (IsDotted-ipv4_text (to_be_bytes w32 n) refl (byte_fits 4 n)),
  sym (ap (from_be_bytes w32) is ∙ from_be_bytes-to_be_bytes_4 n fits),
)

-- The text of an IPv6 address writes its number.
pub IsV6-v6_text : (address : Ipv6Addr) (n : ℕ) → n < 2 ^ 128 → IsIpv6OfBits address n
    → IsV6 (v6_text n) n
unfolding IsIpv6OfBits ipv6_bits
IsV6-v6_text address n fits is =
    let bytes = to_be_bytes w128 n in
    let segments = segments_of bytes in
    let back = octets_of-segments_of 8 bytes refl (byte_fits 16 n) in (
      address,
      rw is (IsColonHex-ipv6_text segments refl (segment_fits bytes (byte_fits 16 n))),
      sym (ap (λ all. from_be_bytes w128 (octets_of all)) is ∙ ap (from_be_bytes w128) back
          ∙ from_be_bytes-to_be_bytes_16 n fits),
    )
