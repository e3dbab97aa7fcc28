use Rattle.range_map_blaze.proofs.lemmas.Keys.{joined-keys}
use Rattle.range_map_blaze.proofs.map.RangeMapBlaze.key_set.Goals as goal

-- The stream gives the keys.
pub returns : goal.returns
returns g c =
    joined-keys g.T.Integer.value_count c.args.self.now c.in_ok-set.set c.ranges-2.ensures.canonical
    (c.ranges-2.ensures.gives c.in_ok-set.set c.in_ok-set.ensures.runs)
