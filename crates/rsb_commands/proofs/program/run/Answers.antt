use Rattle.std.proofs.Common.{◌<◌, length, subst}
use Rattle.rsb_command_parser.proofs.lemmas.reading.Consumed.{some_spelled}
use Rattle.rsb_commands.proofs.lemmas.writing.Replies.{cut_before_all}
use Rattle.rsb_commands.proofs.program.run.Goals as goal

-- A read failed, and nothing was written.
pub returns-in_err-commands-clause-io : goal.returns-in_err-commands-clause-io
returns-in_err-commands-clause-io g c = λ is. cut_before_all _ _

-- If allocation failed while commands ran, the input has a byte, because it spells a command.
pub returns-clause-some_input : goal.returns-clause-some_input
returns-clause-some_input g c = λ is.
    some_spelled _ c.in_ok-commands.commands.items c.in_ok-commands.ensures.commands
    (subst (λ all. 0 < length all) c.deref.ensures.value (c.answer.ensures.some is))
