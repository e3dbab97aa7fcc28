use Rattle.std.proofs.Common.{◌∙◌, ap}
use Rattle.range_map_blaze.specs.Storage.{pieces_of}
use Rattle.range_map_blaze.proofs.lemmas.Entries.{pieces_in-entries}
use Rattle.range_map_blaze.proofs.pieces.Pieces.into_range_values.Goals as goal

-- The iterator gives the entries of the map.
pub returns : goal.returns
returns g c =
    let rank = g.T.Integer.rank in
    let seen = g.V.MapValue.seen in
    pieces_in-entries rank seen c.into_iter.result
    ∙ ap (pieces_of rank seen) c.into_iter.ensures.into_iter_gives.0 ∙ c.self.view_is
