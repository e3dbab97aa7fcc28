use Rattle.std.proofs.Common.{◌≡◌, drop}
use Rattle.rsb_command_parser.specs.Spelling.{words}
use Rattle.rsb_command_parser.proofs.parse.without_blanks.Given as goal

-- What starts at the byte `i` has the same words as the line.
abbrev pub invariant-loop-i : goal.invariant-loop-i
invariant-loop-i l = words (drop l.i l.line) ≡ words l.line
