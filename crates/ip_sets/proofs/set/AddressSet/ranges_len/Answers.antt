use Rattle.rsb_integer.proofs.lemmas.Runs.{canonical-runs}
use Rattle.ip_sets.proofs.set.AddressSet.ranges_len.Goals as goal

-- The list of runs is canonical.
pub returns-clause-runs : goal.returns-clause-runs
returns-clause-runs g c =
    rw (← c.self.view_is) (canonical-runs _ _ c.self.invariant.apart c.self.invariant.within)
