use Rattle.std.proofs.Common.{◌≡◌, vec_len}
use Rattle.rsb_commands.proofs.lemmas.writing.Replies.{HasReplied}
use Rattle.rsb_commands.proofs.program.answer.Given as goal

-- The commands before this one have their replies, and these were laid.
abbrev pub invariant-loop-command : goal.invariant-loop-command
invariant-loop-command g l =
    HasReplied g.W.Write.contents l.commands l.command-index l.sets.items l.initial.page l.page
    × (vec_len l.sets ≡ 10)
