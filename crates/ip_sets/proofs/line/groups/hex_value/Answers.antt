use Rattle.std.proofs.Common.{arith}
use Rattle.ip_sets.proofs.lemmas.spelling.Groups.{hex_read}
use Rattle.ip_sets.proofs.line.groups.hex_value.Goals as goal

-- The table has the values of the digits.
pub returns : goal.returns
returns c = λ small. hex_read c.args.byte (omega (arith, c.ranges.byte.fits)) small
