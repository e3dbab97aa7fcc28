-- How many binary digits some numbers have.
use Rattle.std.proofs.Common.{◌≡◌, refl}
use Rattle.rsb_many.specs.Heads.{binary_digits}

-- 0 has none.
no-digits : binary_digits 0 ≡ 0
unfolding binary_digits
no-digits = refl

-- 1 has one.
one-digit : binary_digits 1 ≡ 1
unfolding binary_digits
one-digit = refl

-- 3 has two: 11.
two-digits : binary_digits 3 ≡ 2
unfolding binary_digits
two-digits = refl

-- 4 has three: 100.
three-digits : binary_digits 4 ≡ 3
unfolding binary_digits
three-digits = refl

-- 1000 has ten: 1111101000.
ten-digits : binary_digits 1000 ≡ 10
unfolding binary_digits
ten-digits = refl
