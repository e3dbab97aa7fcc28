use Rattle.rsb_commands.specs.Interpreter.{no_members}
use Rattle.rsb_commands.proofs.lemmas.replying.SomeReply.{replies_exist}
use Rattle.rsb_commands.proofs.laws.replies_exist.Goals as goal

pub returns : goal.returns
returns g c = λ commands values.
    replies_exist g.T.Integer.rank g.T.Integer.value_count g.T.Integer.value_at
    g.met.T.Integer.ranks no_members commands values
