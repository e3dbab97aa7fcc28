use Rattle.std.proofs.Common.{◌++◌}
use Rattle.range_set_bytes.specs.Leb128.{leb128}
use Rattle.range_set_byte_streams.specs.Transfer.{HasWritten}
use Rattle.range_set_byte_streams.proofs.page.lay_number.Given as goal

-- What was written, what waits and the rest of the number are what waited and the whole number.
abbrev pub invariant-loop-rest : goal.invariant-loop-rest
invariant-loop-rest g l = HasWritten (g.W.Write.contents l.initial.output)
    (g.W.Write.contents l.output) (l.fn.page.items ++ leb128 l.fn.number) (l.page.items ++ leb128 l.rest)

abbrev pub decreases-loop-rest : goal.decreases-loop-rest
decreases-loop-rest g l = l.rest
