use Rattle.std.proofs.Common.{map, take}
use Rattle.ip_commands.specs.CommandLine.{AreArguments}
use Rattle.ip_commands.proofs.arguments.Arguments.new.Given as goal

-- the arguments are those of the words so far
abbrev pub invariant-loop-word : goal.invariant-loop-word
invariant-loop-word g l = AreArguments (map g.S.AsStr.text (take l.word-index l.words)) l.arguments
