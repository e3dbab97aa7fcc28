use Rattle.std.proofs.Common.{◌∙◌, ap}
use Rattle.range_map_blaze.specs.Map.{runs_of_keys}
use Rattle.range_map_blaze.specs.Storage.{pieces_of}
use Rattle.range_map_blaze.proofs.lemmas.Keys.{ranges-keys}
use Rattle.range_map_blaze.proofs.pieces.Pieces.key_ranges.Goals as goal

-- The iterator gives the entries of the map.
pub returns : goal.returns
returns g c =
    let rank = g.T.Integer.rank in
    let seen = g.V.MapValue.seen in
    ranges-keys rank seen c.iter.result
    ∙ ap runs_of_keys (ap (pieces_of rank seen) c.iter.ensures.rest ∙ c.self.view_is)
