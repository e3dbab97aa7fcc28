-- Numbers in LEB128: seven bits in each byte, the lowest bits first. The top bit of a byte is set
-- exactly if another byte follows. This is the shortest form.
--
--   0               0
--   127             127
--   128             128, 1
--   300             172, 2       300 = 2 * 128 + 44, and 172 = 128 + 44
--   2 ^ 64 - 1      255 nine times, then 1
use Rattle.std.specs.Prelude.{ℕ, zero, suc, ◌+◌, ◌/◌, ◌%◌, nat_lt, List, [], ◌∷◌, cond}

-- The bytes of a number that takes at most `more` bytes past the first.
unfoldable pub leb128_within : ℕ → ℕ → List ℕ
leb128_within zero n = n ∷ []
leb128_within (suc more) n =
    cond (nat_lt n 128) (n ∷ []) ((128 + n % 128) ∷ leb128_within more (n / 128))

-- The bytes of a number.
unfoldable pub leb128 : ℕ → List ℕ
leb128 n = leb128_within n n
