use Rattle.rsb_many.specs.Sweep.{all_events}
use Rattle.rsb_many.proofs.lemmas.events.Lists.{in_order-unique}
use Rattle.rsb_many.proofs.laws.one_list_of_events.Goals as goal

pub returns : goal.returns
returns g c inputs = in_order-unique (all_events inputs)
