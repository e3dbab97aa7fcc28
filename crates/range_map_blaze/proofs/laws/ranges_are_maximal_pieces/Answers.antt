use Rattle.range_map_blaze.proofs.lemmas.Contained.{map-pieces}
use Rattle.range_map_blaze.proofs.laws.ranges_are_maximal_pieces.Goals as goal

pub returns : goal.returns
returns g c pieces canonical = map-pieces g.T.Integer.value_count pieces canonical
