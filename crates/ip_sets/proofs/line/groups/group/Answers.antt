use Rattle.ip_sets.proofs.lemmas.spelling.Groups.{four_digits, one_digit, three_digits, two_digits}
use Rattle.ip_sets.proofs.line.groups.group.Goals as goal

-- The group has as many digits as were read.
pub returns-in_default-clause-front : goal.returns-in_default-clause-front
returns-in_default-clause-front c = one_digit _ _ _ c.in_ok-first.ensures

pub returns-in_default-hex_digit-clause-front : goal.returns-in_default-hex_digit-clause-front
returns-in_default-hex_digit-clause-front c =
    two_digits _ _ _ c.in_ok-first.ensures _ _ c.in-Some.ensures

pub returns-in_default-hex_digit-2-clause-front : goal.returns-in_default-hex_digit-2-clause-front
returns-in_default-hex_digit-2-clause-front c =
    three_digits _ _ _ c.in_ok-first.ensures _ _ c.in-Some.ensures _ _ c.in-Some-hex_digit.ensures

pub returns-clause-front : goal.returns-clause-front
returns-clause-front c =
    four_digits _ _ _ c.in_ok-first.ensures _ _ c.in-Some.ensures _ _ c.in-Some-hex_digit.ensures
    _ _ c.in-Some-hex_digit-2.ensures
