use Rattle.range_map_blaze.proofs.lemmas.Contained.{map-pieces}
use Rattle.range_map_blaze.proofs.map.RangeMapBlaze.ranges_len.Goals as goal

pub returns-clause-pieces : goal.returns-clause-pieces
returns-clause-pieces g c = rw (← c.self.view_is) (map-pieces _ _ c.self.invariant)
