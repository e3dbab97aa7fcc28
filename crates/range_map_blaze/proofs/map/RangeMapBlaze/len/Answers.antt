use Rattle.std.proofs.Common.{◌∙◌}
use Rattle.range_map_blaze.proofs.lemmas.Keys.{count-keys}
use Rattle.range_map_blaze.proofs.map.RangeMapBlaze.len.Goals as goal

-- The stream of the keys has as many members as there are keys.
pub returns : goal.returns
returns g c =
    let counted = c.members_len.ensures in
    counted.2
    ∙ count-keys g.T.Integer.value_count c.args.self.now c.ranges-2.ensures.canonical counted.0
    (c.ranges-2.ensures.gives counted.0 counted.1)
