use Rattle.std.proofs.Common.{ℕ, List}
use Rattle.std.specs.Io.KnownBytes.{Consumes}
use Rattle.rsb_command_parser.specs.Input.{HasTaken}
use Rattle.rsb_command_parser.proofs.input.read_commands.Given as goal

-- `reading` has taken all of the bytes that were read.
abbrev pub invariant-loop : goal.invariant-loop
invariant-loop g l = (bytes : List ℕ)
    × Consumes (g.R.Read.remaining l.initial.input) (g.R.Read.remaining l.input) bytes
    × HasTaken bytes l.reading
