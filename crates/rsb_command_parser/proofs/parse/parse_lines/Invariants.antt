use Rattle.std.proofs.Common.{◌+◌, ◌≤◌, length}
use Rattle.rsb_command_parser.proofs.lemmas.reading.Lines.{HasRead}
use Rattle.rsb_command_parser.proofs.parse.parse_lines.Given as goal

-- The lines before `rest` were read. Each has a byte, so their number fits.
abbrev pub invariant-loop-rest : goal.invariant-loop-rest
invariant-loop-rest g l =
    HasRead l.input l.rest l.number l.commands.items × (l.number + length l.rest ≤ length l.input)

abbrev pub decreases-loop-rest : goal.decreases-loop-rest
decreases-loop-rest g l = length l.rest
