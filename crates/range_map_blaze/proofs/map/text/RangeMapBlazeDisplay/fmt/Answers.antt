use Rattle.std.proofs.Common.{[], subst, sym}
use Rattle.rsb_integer.proofs.lemmas.Range.{value_at-rank}
use Rattle.range_map_blaze.specs.Map.{IsMapIn}
use Rattle.range_map_blaze.proofs.lemmas.Texts.{items-pieces}
use Rattle.range_map_blaze.proofs.map.text.RangeMapBlazeDisplay.fmt.Goals as goal

-- The items are the ranges of the map, each with its value.
pub returns-clause-writes : goal.returns-clause-writes
returns-clause-writes g c =
    let rank = g.T.Integer.rank in
    let n = g.T.Integer.value_count in
    let laws = g.met.T.Integer in
    let placed = value_at-rank rank n g.T.Ord.cmp laws.exact laws.in_order g.T.Integer.value_at laws.ranks in
    rw (
      ← c.range_values.ensures,
      ← items-pieces rank n g.V.MapValue.seen g.T.Integer.value_at placed g.T.Debug.debug_output
          g.V.Debug.debug_output g.met.V.ShownValue.shown 0 [] c.range_values.result
          (subst (IsMapIn n) (sym c.range_values.ensures) c.ranges_len.ensures.canonical),
    )
    c.write_items.ensures
