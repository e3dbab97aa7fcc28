use Rattle.std.proofs.Common.{true}
use Rattle.range_set_blaze.proofs.lemmas.order.KnownTests.{known-test}
use Rattle.range_set_blaze.proofs.set.RangeSetBlaze.is_subset.Goals as goal

-- The streams give the runs of the sets.
pub returns : goal.returns
returns g c =
    rw (← c.ranges-2.ensures.ranges, ← c.ranges-3.ensures.ranges)
    (known-test g.T.Integer.value_count true _ _ c.is_subset.result c.is_subset.ensures)
