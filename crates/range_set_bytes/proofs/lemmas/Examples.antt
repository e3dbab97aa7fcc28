-- Examples of docs/FORMAT.md, worked out. The others are rows of tests.
use Rattle.std.proofs.Common.{◌≡◌, ◌^◌, [], ◌∷◌, refl}
use Rattle.rsb_integer.specs.Runs.{from_to}
use Rattle.range_set_bytes.specs.Format.{bytes_of}
use Rattle.range_set_bytes.specs.Leb128.{leb128}

one-byte : leb128 127 ≡ 0x7F ∷ []
unfolding leb128 Rattle.range_set_bytes.specs.Leb128.leb128_within
one-byte = refl

two-bytes : leb128 128 ≡ 0x80 ∷ 1 ∷ []
unfolding leb128 Rattle.range_set_bytes.specs.Leb128.leb128_within
two-bytes = refl

three-hundred : leb128 300 ≡ 0xAC ∷ 2 ∷ []
unfolding leb128 Rattle.range_set_bytes.specs.Leb128.leb128_within
three-hundred = refl

-- The set of `u8` with the members 3 to 7, 10, and 200 to 255.
three-runs : bytes_of 256 (from_to 3 7 ∷ from_to 10 10 ∷ from_to 200 255 ∷ [])
    ≡ 0xF5 ∷ 0x52 ∷ 0x53 ∷ 0x42 ∷ 1 ∷ 8 ∷ 3 ∷ 3 ∷ 4 ∷ 2 ∷ 0 ∷ 0xBD ∷ 1 ∷ 0x37 ∷ []
unfolding bytes_of leb128 Rattle.range_set_bytes.specs.Leb128.leb128_within lib.Count.count_leading_zeros
three-runs = refl

-- The empty set of `u128`.
no-values : bytes_of (2 ^ 128) [] ≡ 0xF5 ∷ 0x52 ∷ 0x53 ∷ 0x42 ∷ 1 ∷ 0x80 ∷ 0 ∷ []
unfolding bytes_of leb128 Rattle.range_set_bytes.specs.Leb128.leb128_within lib.Count.count_leading_zeros
no-values = refl
