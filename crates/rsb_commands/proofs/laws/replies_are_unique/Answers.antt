use Rattle.rsb_integer.proofs.lemmas.Range.{one_place}
use Rattle.rsb_commands.specs.Interpreter.{no_members}
use Rattle.rsb_commands.proofs.lemmas.replying.OneReply.{replies_unique}
use Rattle.rsb_commands.proofs.laws.replies_are_unique.Goals as goal

pub returns : goal.returns
returns g c = λ commands replies others.
    let laws = g.met.T.Integer in
    let rank = g.T.Integer.rank in
    let value_count = g.T.Integer.value_count in
    replies_unique rank value_count
    (one_place rank value_count g.T.Ord.cmp laws.exact laws.in_order)
    no_members commands replies others
