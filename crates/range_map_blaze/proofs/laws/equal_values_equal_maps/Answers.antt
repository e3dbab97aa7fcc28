use Rattle.range_map_blaze.proofs.lemmas.Values.{same-in_type}
use Rattle.range_map_blaze.proofs.laws.equal_values_equal_maps.Goals as goal

pub returns : goal.returns
returns g c pieces others left right same =
    same-in_type g.T.Integer.value_count pieces others left right same
