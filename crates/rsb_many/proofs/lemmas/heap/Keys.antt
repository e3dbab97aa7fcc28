-- The order of keys.
use Rattle.std.proofs.Common.{◌≡◌, ◌≢◌, ap, ◌∙◌, arith}
use Rattle.std.proofs.lemmas.Bool.Decides.{nat_tests}
use Rattle.std.proofs.Math.Bool.{beq}
use Rattle.std.specs.Ordering.{is_eq, is_lt, nat_cmp}
use Rattle.std.specs.Prelude.{nat_lt, not, ◌&&◌, ◌||◌, IsFalse, IsTrue}
use Rattle.rsb_many.specs.Keys.{comes_before, Key}

-- Of two keys, at most one comes before the other.
pub comes_before-one_way : (one other : Key) → IsTrue (comes_before one other)
    → IsFalse (comes_before other one)
comes_before-one_way one other first = grind (arith, nat_tests)

-- If the second key does not come before the first, nor the third before the second, the third does
-- not come before the first.
pub comes_before-chain : (first second third : Key) → IsFalse (comes_before second first)
    → IsFalse (comes_before third second) → IsFalse (comes_before third first)
comes_before-chain first second third one other = grind (arith, nat_tests)

-- No key comes before itself.
pub comes_before-itself : (key : Key) → IsFalse (comes_before key key)
comes_before-itself key = grind (arith, nat_tests)

-- Equal keys come in the same order.
pub comes_before-as : {one other first second : Key} → one ≡ first → other ≡ second
    → comes_before one other ≡ comes_before first second
comes_before-as {other = other} {first = first} one_is other_is =
    ap (λ key. comes_before key other) one_is ∙ ap (comes_before first) other_is

-- Keys are compared by rank. At equal ranks a start comes before an end, and otherwise the lower
-- input comes first.
pub comes_before-parts : (one other : Key)
    → (is_lt (nat_cmp one.at other.at) || (is_eq (nat_cmp one.at other.at)
    && ((beq one.is_end other.is_end && nat_lt one.input other.input)
    || (not one.is_end && other.is_end))))
    ≡ comes_before one other
comes_before-parts one other = grind (arith, nat_tests)

-- If one key comes before another, it comes before whatever that one comes before.
pub comes_before-through : (one other third : Key) → IsTrue (comes_before one other)
    → IsTrue (comes_before other third) → IsTrue (comes_before one third)
comes_before-through one other third left right = grind (arith, nat_tests)

-- Of two keys of different inputs, one comes before the other if the other does not come before it.
pub comes_before-other : (one other : Key) → one.input ≢ other.input
    → IsFalse (comes_before other one) → IsTrue (comes_before one other)
comes_before-other one other apart after = grind (arith, nat_tests)
