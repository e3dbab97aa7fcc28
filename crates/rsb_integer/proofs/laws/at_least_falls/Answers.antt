use Rattle.rsb_integer.proofs.lemmas.AtLeast.{at_least-falls}
use Rattle.rsb_integer.proofs.laws.at_least_falls.Goals as goal

pub returns : goal.returns
returns g c = at_least-falls
