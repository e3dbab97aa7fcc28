use Rattle.range_set_blaze.specs.laws.Order.{order-holds}
use Rattle.range_set_blaze.proofs.set.order.cmp_counted.Goals as goal

-- The order of two sets by their elements is that by the least rank at which they differ.
pub returns-clause-order : goal.returns-clause-order
returns-clause-order g c =
    rw (c.compare_runs.ensures.order, c.a.view_is, c.b.view_is) (order-holds _ _ _)
