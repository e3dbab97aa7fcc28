use Rattle.rsb_streams.proofs.lemmas.filling.Lists.{filled-unique}
use Rattle.rsb_streams.proofs.laws.one_filled_list.Goals as goal

pub returns : goal.returns
returns g c = filled-unique g.T.Integer.value_count
