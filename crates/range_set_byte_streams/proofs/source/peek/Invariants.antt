use Rattle.std.specs.Io.KnownBytes.{Keeps}
use Rattle.range_set_byte_streams.proofs.source.peek.Given as goal

-- Reads that were interrupted consume nothing.
abbrev pub invariant-loop : goal.invariant-loop
invariant-loop g l = Keeps (g.R.Read.remaining l.fn.input) (g.R.Read.remaining l.input)
