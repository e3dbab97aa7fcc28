use Rattle.range_set_blaze.specs.laws.Order.{agree-same, order-holds, same-agree}
use Rattle.range_set_blaze.proofs.set.order.order_by_least_difference.Goals as goal

-- `==` returns whether the sets agree at every rank.
pub returns-clause-equal : goal.returns-clause-equal
returns-clause-equal g c left right = (same-agree _ _ _, agree-same _ _ _)

-- `cmp` returns the order by the least rank at which they differ.
pub returns-clause-order : goal.returns-clause-order
returns-clause-order g c left right = order-holds _ _ _
