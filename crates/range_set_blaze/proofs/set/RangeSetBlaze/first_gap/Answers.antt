use Rattle.std.proofs.Common.{arith}
use Rattle.std.proofs.lemmas.Option.{IfSome_then}
use Rattle.range_set_blaze.proofs.set.RangeSetBlaze.first_gap.Goals as goal

-- Every block starts at the least value or past it.
pub returns-clause-lowest : goal.returns-clause-lowest
returns-clause-lowest g c =
    IfSome_then c.first_gap_from.result c.first_gap_from.ensures.lowest
    (λ range lowest start less some block.
    lowest start (omega (arith, c.min_value.ensures)) less some block)

pub returns-clause-nowhere : goal.returns-clause-nowhere
returns-clause-nowhere g c = λ none start some block.
    c.first_gap_from.ensures.nowhere none start (omega (arith, c.min_value.ensures)) some block

-- Every value is the least or past it.
pub returns-clause-before : goal.returns-clause-before
returns-clause-before g c = λ any.
    IfSome_then c.first_gap_from.result (c.first_gap_from.ensures.before any)
    (λ range before rank less. before rank (omega (arith, c.min_value.ensures)) less)
