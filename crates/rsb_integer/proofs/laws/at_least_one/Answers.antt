use Rattle.rsb_integer.proofs.lemmas.AtLeast.{at_least-one}
use Rattle.rsb_integer.proofs.laws.at_least_one.Goals as goal

pub returns : goal.returns
returns g c = at_least-one
