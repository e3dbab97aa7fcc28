use Rattle.range_map_blaze.specs.Made.{pieces_made}
use Rattle.range_map_blaze.proofs.lemmas.Made.{made-map, made-value}
use Rattle.range_map_blaze.proofs.laws.each_function_has_its_pieces.Goals as goal

-- They are made rank by rank.
pub returns : goal.returns
returns g c value settled =
    let eq = g.V.PartialEq.eq in
    let seen = g.V.MapValue.seen in
    let n = g.T.Integer.value_count in (
      pieces_made eq 0 n value,
      made-map eq seen g.met.V.MapValue.exact n value settled,
      made-value eq seen g.met.V.MapValue.exact n value settled,
    )
