use Rattle.std.proofs.Common.{arith}
use Rattle.range_set_bytes.proofs.lemmas.Leb128.{bad-large, bad-zero}
use Rattle.range_set_bytes.proofs.numbers.wrong_byte.Goals as goal

pub returns-then-byte-most-clause-wrong : goal.returns-then-byte-most-clause-wrong
returns-then-byte-most-clause-wrong c after =
    let fits = c.ranges.byte.fits in
    bad-large c.args.least c.args.most c.args.byte after c.requires.low c.requires.some
    (omega (arith, fits)) (omega (arith, c.from-byte.ensures, c.if-byte-most.true))

pub returns-then-byte-least-clause-wrong : goal.returns-then-byte-least-clause-wrong
returns-then-byte-least-clause-wrong c after =
    bad-zero c.args.least c.args.most c.args.byte after c.requires.some
    (omega (arith, c.from-byte.ensures, c.if-byte-least.true)) c.requires.low
