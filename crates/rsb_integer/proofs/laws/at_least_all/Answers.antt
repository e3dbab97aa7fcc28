use Rattle.rsb_integer.proofs.lemmas.AtLeast.{at_least-all}
use Rattle.rsb_integer.proofs.laws.at_least_all.Goals as goal

pub returns : goal.returns
returns g c = at_least-all
