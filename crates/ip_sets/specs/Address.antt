-- Addresses as texts and as numbers.
use Rattle.std.specs.Prelude.{◌≡◌, ℕ, List}
use Rattle.std.specs.Int.{w32, w128, to_be_bytes}
use Rattle.std.specs.Net.Addr.{ipv4_bits, ipv6_bits, segments_of}
use Rattle.std.specs.Net.Grammar.{IsIpv4Text, IsIpv6Text}
use Rattle.std.specs.Net.Text.{ipv4_text, ipv6_text}
use Rattle.std.specs.declared.net.ipv4_addr.Ipv4Addr.{Ipv4Addr}
use Rattle.std.specs.declared.net.ipv6_addr.Ipv6Addr.{Ipv6Addr}

-- Whether the text is an IPv4 address in dotted decimals, and the number has its 32 bits.
abbrev pub IsV4 : List ℕ → ℕ → Type 0
IsV4 text number = (address : Ipv4Addr) × IsIpv4Text text address × (number ≡ ipv4_bits address)

-- Whether the text is an IPv6 address as RFC 4291 defines it, and the number has its 128 bits.
abbrev pub IsV6 : List ℕ → ℕ → Type 0
IsV6 text number = (address : Ipv6Addr) × IsIpv6Text text address × (number ≡ ipv6_bits address)

-- The text of an IPv4 address: the four bytes of its number, in decimal, with dots between them.
abbrev pub v4_text : ℕ → List ℕ
v4_text number = ipv4_text (to_be_bytes w32 number)

-- The text of an IPv6 address, as RFC 5952 recommends it.
abbrev pub v6_text : ℕ → List ℕ
v6_text number = ipv6_text (segments_of (to_be_bytes w128 number))
