use Rattle.range_map_blaze.specs.laws.Order.{equal-values}
use Rattle.range_map_blaze.proofs.laws.equal_maps_have_equal_values.Goals as goal

pub returns : goal.returns
returns g c left right =
    equal-values g.V.PartialEq.eq g.V.MapValue.seen g.met.V.MapValue.exact g.T.Integer.value_count left right
