use Rattle.std.proofs.Common.{◌≡◌, ◌++◌}
use Rattle.range_set_bytes.specs.Leb128.{leb128}
use Rattle.range_set_bytes.proofs.numbers.push_number.Given as goal

-- What was written, followed by the rest of the number, is the whole number.
abbrev pub invariant-loop-rest : goal.invariant-loop-rest
invariant-loop-rest g l = l.bytes.items ++ leb128 l.rest ≡ l.fn.bytes.items ++ leb128 l.fn.number

abbrev pub decreases-loop-rest : goal.decreases-loop-rest
decreases-loop-rest g l = l.rest
