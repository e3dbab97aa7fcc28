use Rattle.range_set_blaze.proofs.lemmas.order.FedRuns.{run_bounds-canonical}
use Rattle.range_set_blaze.proofs.set.hash.run_bounds_are_ends.Goals as goal

pub returns : goal.returns
returns g c = run_bounds-canonical g.T.Integer.value_count
