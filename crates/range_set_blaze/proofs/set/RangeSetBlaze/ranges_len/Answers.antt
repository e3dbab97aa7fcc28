use Rattle.rsb_integer.proofs.lemmas.Runs.{canonical-runs}
use Rattle.range_set_blaze.proofs.set.RangeSetBlaze.ranges_len.Goals as goal

-- The list of runs is canonical.
pub returns-clause-runs : goal.returns-clause-runs
returns-clause-runs g c =
    let canonical = c.self.invariant.canonical in
    rw (← c.self.view_is) (canonical-runs _ _ canonical.apart canonical.within)
