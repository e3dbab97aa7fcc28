use Rattle.std.proofs.Common.{◌<◌, arith}
use Rattle.ip_sets.proofs.lemmas.spelling.Octets.{octet_digits}
use Rattle.ip_sets.proofs.line.octets.octet_of_three.Goals as goal

-- The number has as many digits as were counted.
pub returns-clause-front : goal.returns-clause-front
returns-clause-front c = λ rest.
    let small : c.digit-one.result < 10 = omega (arith, c.if-one-gt9.false) in
    rw (c.from.ensures, c.from-2.ensures, c.either-number.ensures, c.either.ensures)
    (octet_digits c.args.first c.args.second c.args.third c.digit-one.result c.digit-next.result
    c.digit-last.result rest small (c.digit-one.ensures.value small) c.digit-next.ensures.value
    c.digit-last.ensures.value c.if-has_two-one.false)
