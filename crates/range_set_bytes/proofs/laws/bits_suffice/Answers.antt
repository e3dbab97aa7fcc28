use Rattle.range_set_bytes.proofs.lemmas.Bits.{bits-least, bits-suffice}
use Rattle.range_set_bytes.proofs.laws.bits_suffice.Goals as goal

pub returns-clause-suffice : goal.returns-clause-suffice
returns-clause-suffice c = bits-suffice

pub returns-clause-least : goal.returns-clause-least
returns-clause-least c = bits-least
