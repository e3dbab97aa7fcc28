use Rattle.std.proofs.Common.{◌∙◌, ap}
use Rattle.range_map_blaze.specs.Storage.{pieces_of}
use Rattle.range_map_blaze.proofs.lemmas.Between.{pieces-all}
use Rattle.range_map_blaze.proofs.pieces.Pieces.all_entries.Goals as goal

-- The whole range has all entries.
pub returns : goal.returns
returns g c =
    let laws = g.met.T.Integer in
    ap (pieces_of g.T.Integer.rank g.V.MapValue.seen) (c.range.ensures.between tt)
    ∙ pieces-all g.T.Ord.cmp g.T.Integer.rank g.V.MapValue.seen g.T.Integer.value_count laws.in_order
    c.self.inside.map.entries c.self.invariant
    ∙ c.self.view_is
