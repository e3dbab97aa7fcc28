use Rattle.range_set_blaze.proofs.lemmas.elements.Listed.{whole-over}
use Rattle.range_set_blaze.proofs.set.elements.RangeSetBlazeIntoIterator.into_iter.Goals as goal

-- Nothing has been taken from the runs yet, and they are canonical.
pub invariant_of-result : goal.invariant_of-result
invariant_of-result g c =
    (whole-over g.T.Integer.rank g.T.Integer.value_count c.over.result c.over.ensures
    c.into_ranges-ranges.ensures.ready c.into_ranges-ranges.ensures.ranges).ready

-- They are the runs of the set.
pub returns : goal.returns
returns g c = record {
  into_iter_gives = (whole-over g.T.Integer.rank g.T.Integer.value_count c.over.result
      c.over.ensures c.into_ranges-ranges.ensures.ready c.into_ranges-ranges.ensures.ranges).runs;
}
