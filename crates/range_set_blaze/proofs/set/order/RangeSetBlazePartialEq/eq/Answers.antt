use Rattle.std.proofs.Common.{sym}
use Rattle.range_set_blaze.specs.laws.Order.{sets_ties}
use Rattle.range_set_blaze.proofs.set.order.RangeSetBlazePartialEq.eq.Goals as goal

-- Two sets are equal exactly if `cmp` returns `Equal`.
pub returns : goal.returns
returns g c = rw (c.is_eq.ensures, c.cmp.ensures) (sym (sets_ties g.T.Integer.value_count _ _))
