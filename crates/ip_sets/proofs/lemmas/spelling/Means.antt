-- What is written is read back.
use Rattle.std.proofs.Common.{◌≡◌, ℕ, ◌^◌, ◌<◌, ◌≤◌, List, ◌∷◌, ◌++◌, inl, refl, ap, arith}
use Rattle.std.specs.Fmt.{decimal}
use Rattle.std.specs.Net.Addr.{IsIpv4OfBits, IsIpv6OfBits, ipv4_octets, ipv6_segments}
use Rattle.std.specs.Net.Text.{ipv4_text, ipv6_text}
use Rattle.std.specs.declared.net.ipv4_addr.Ipv4Addr.{Ipv4Addr}
use Rattle.std.specs.declared.net.ipv6_addr.Ipv6Addr.{Ipv6Addr}
use Rattle.ip_sets.specs.Address.{IsV4, IsV6, v4_text, v6_text}
use Rattle.ip_sets.specs.AddressRange.{block_end, block_start}
use Rattle.ip_sets.specs.Line.{MeansV4, MeansV6}
use Rattle.ip_sets.proofs.lemmas.spelling.Addresses.{IsV4-v4_text, IsV6-v6_text}
use Rattle.ip_sets.proofs.lemmas.spelling.Written.{block_line, decimal_plain, plain_line, span_line, v4_plain, v6_plain}

-- ---- IPv4

-- The text of the address with these bits.
pub v4_text_of : (address : Ipv4Addr) (n : ℕ) → IsIpv4OfBits address n
    → ipv4_text (ipv4_octets address) ≡ v4_text n
unfolding IsIpv4OfBits
v4_text_of address n is = ap ipv4_text is

-- The text of an IPv4 address means that address.
pub v4_means : (address : Ipv4Addr) (n : ℕ) (text : List ℕ) → n < 2 ^ 32
    → IsIpv4OfBits address n → text ≡ v4_text n → MeansV4 text n n
v4_means address n text fits is e range spans =
    rw e (plain_line 32 IsV4 (v4_text n) n range (v4_plain n)
    (IsV4-v4_text address n fits is) spans)

-- The text of a block of IPv4 addresses means the addresses of the block.
pub v4_block_means : (address : Ipv4Addr) (n length : ℕ) (text : List ℕ) → n < 2 ^ 32
    → length ≤ 32 → IsIpv4OfBits address n → text ≡ v4_text n ++ 47 ∷ decimal length
    → MeansV4 text (block_start 32 length n) (block_end 32 length n)
v4_block_means address n length text fits within is e range spans =
    rw e (block_line 32 IsV4 (v4_text n) (decimal length) n length range (v4_plain n)
    (decimal_plain length (omega arith)) (IsV4-v4_text address n fits is) refl within (omega arith) spans)

-- The text of a range of IPv4 addresses means the addresses of the range.
pub v4_span_means : (start end : Ipv4Addr) (first last : ℕ) (text : List ℕ) → first < 2 ^ 32
    → last < 2 ^ 32 → first ≤ last → IsIpv4OfBits start first → IsIpv4OfBits end last
    → text ≡ v4_text first ++ 45 ∷ v4_text last → MeansV4 text first last
v4_span_means start end first last text fits fits_too in_order is is_too e range spans =
    rw e (span_line 32 IsV4 (v4_text first) (v4_text last) first last range
    (v4_plain first) (v4_plain last) (IsV4-v4_text start first fits is)
    (IsV4-v4_text end last fits_too is_too) in_order spans)

-- ---- IPv6

-- The text of the address with these bits.
pub v6_text_of : (address : Ipv6Addr) (n : ℕ) → IsIpv6OfBits address n
    → ipv6_text (ipv6_segments address) ≡ v6_text n
unfolding IsIpv6OfBits
v6_text_of address n is = ap ipv6_text is

-- The text of an IPv6 address means that address.
pub v6_means : (address : Ipv6Addr) (n : ℕ) (text : List ℕ) → n < 2 ^ 128
    → IsIpv6OfBits address n → text ≡ v6_text n → MeansV6 text n n
v6_means address n text fits is e range spans =
    inl (rw e (plain_line 128 IsV6 (v6_text n) n range (v6_plain n)
    (IsV6-v6_text address n fits is) spans))

-- The text of a block of IPv6 addresses means the addresses of the block.
pub v6_block_means : (address : Ipv6Addr) (n length : ℕ) (text : List ℕ) → n < 2 ^ 128
    → length ≤ 128 → IsIpv6OfBits address n → text ≡ v6_text n ++ 47 ∷ decimal length
    → MeansV6 text (block_start 128 length n) (block_end 128 length n)
v6_block_means address n length text fits within is e range spans =
    inl (rw e (block_line 128 IsV6 (v6_text n) (decimal length) n length range (v6_plain n)
    (decimal_plain length (omega arith)) (IsV6-v6_text address n fits is) refl within (omega arith) spans))

-- The text of a range of IPv6 addresses means the addresses of the range.
pub v6_span_means : (start end : Ipv6Addr) (first last : ℕ) (text : List ℕ) → first < 2 ^ 128
    → last < 2 ^ 128 → first ≤ last → IsIpv6OfBits start first → IsIpv6OfBits end last
    → text ≡ v6_text first ++ 45 ∷ v6_text last → MeansV6 text first last
v6_span_means start end first last text fits fits_too in_order is is_too e range spans =
    inl (rw e (span_line 128 IsV6 (v6_text first) (v6_text last) first last range
    (v6_plain first) (v6_plain last) (IsV6-v6_text start first fits is)
    (IsV6-v6_text end last fits_too is_too) in_order spans))
