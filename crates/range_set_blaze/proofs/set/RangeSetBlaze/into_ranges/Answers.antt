use Rattle.range_set_blaze.proofs.set.RangeSetBlaze.into_ranges.Goals as goal

-- The ranges have the intervals of the runs, which are canonical.
pub returns : goal.returns
returns g c = record {
  ranges = rw (← c.self.view_is) c.into_ranges.ensures;
  ready = rw c.into_ranges.ensures c.self.invariant.canonical;
}
