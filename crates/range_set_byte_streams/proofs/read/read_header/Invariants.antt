use Rattle.std.proofs.Common.{take}
use Rattle.std.specs.Io.KnownBytes.{Consumes}
use Rattle.range_set_bytes.specs.Format.{header}
use Rattle.range_set_byte_streams.proofs.read.read_header.Given as goal

-- The bytes so far are those of the header.
abbrev pub invariant-loop-place : goal.invariant-loop-place
invariant-loop-place g l = Consumes (g.R.Read.remaining l.fn.input) (g.R.Read.remaining l.input)
    (take l.place (header g.T.Integer.value_count))
