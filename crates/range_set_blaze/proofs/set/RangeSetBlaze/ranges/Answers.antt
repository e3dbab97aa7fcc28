use Rattle.rsb_integer.proofs.lemmas.Runs.{canonical-runs}
use Rattle.range_set_blaze.proofs.set.RangeSetBlaze.ranges.Goals as goal

-- The ranges have the intervals of the runs, which are canonical.
pub returns : goal.returns
returns g c =
    let canonical = c.self.invariant.canonical in
    record {
      ranges = rw (← c.self.view_is) c.ranges-2.ensures;
      ready = rw c.ranges-2.ensures canonical;
      runs = rw (← c.self.view_is)
          (canonical-runs g.T.Integer.value_count _ canonical.apart canonical.within);
    }
