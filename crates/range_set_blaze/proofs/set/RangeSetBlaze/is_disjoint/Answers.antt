use Rattle.std.proofs.Common.{false}
use Rattle.range_set_blaze.proofs.lemmas.order.KnownTests.{known-test}
use Rattle.range_set_blaze.proofs.set.RangeSetBlaze.is_disjoint.Goals as goal

-- The streams give the runs of the sets.
pub returns : goal.returns
returns g c =
    rw (← c.ranges-2.ensures.ranges, ← c.ranges-3.ensures.ranges)
    (known-test g.T.Integer.value_count false _ _ c.is_disjoint.result c.is_disjoint.ensures)
