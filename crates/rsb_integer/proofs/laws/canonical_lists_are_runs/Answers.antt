-- The theorem on lists of intervals, for the number of values of the type.
use Rattle.rsb_integer.proofs.lemmas.Runs.{canonical-is_runs}
use Rattle.rsb_integer.proofs.laws.canonical_lists_are_runs.Goals as goal

pub returns : goal.returns
returns g c = λ runs. canonical-is_runs g.T.Integer.value_count runs
