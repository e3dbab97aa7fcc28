use Rattle.range_map_blaze.proofs.lemmas.Keys.{universal-keys}
use Rattle.range_map_blaze.proofs.map.RangeMapBlaze.is_universal.Goals as goal

-- The stream of the keys has all values exactly if all are keys.
pub returns : goal.returns
returns g c =
    universal-keys g.T.Integer.value_count c.args.self.now c.ranges-2.ensures.canonical _
    c.is_universal.result c.ranges-2.ensures.gives c.is_universal.ensures
