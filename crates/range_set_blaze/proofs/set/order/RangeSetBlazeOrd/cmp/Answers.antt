use Rattle.range_set_blaze.specs.laws.Order.{order-holds}
use Rattle.range_set_blaze.proofs.lemmas.order.OneOrder.{order-unique}
use Rattle.range_set_blaze.proofs.set.order.RangeSetBlazeOrd.cmp.Goals as goal

-- Two sets have only one order.
pub returns : goal.returns
returns g c = order-unique _ _ _ _ _ c.cmp_counted.ensures.order (order-holds _ _ _)
