use Rattle.rsb_commands.specs.Interpreter.{no_members}
use Rattle.rsb_commands.proofs.lemmas.replying.OneReply.{replies-take}
use Rattle.rsb_commands.proofs.laws.first_commands_first_replies.Goals as goal

pub returns : goal.returns
returns g c = λ commands replies n.
    replies-take g.T.Integer.rank g.T.Integer.value_count no_members n commands replies
