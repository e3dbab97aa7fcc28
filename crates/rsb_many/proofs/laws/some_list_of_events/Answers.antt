use Rattle.rsb_many.proofs.lemmas.events.Lists.{events-some}
use Rattle.rsb_many.proofs.laws.some_list_of_events.Goals as goal

pub returns : goal.returns
returns g c = events-some g.T.Integer.value_count
