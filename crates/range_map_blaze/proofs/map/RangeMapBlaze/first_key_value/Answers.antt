use Rattle.range_map_blaze.proofs.lemmas.Splits.{first-at, least-key}
use Rattle.range_map_blaze.proofs.map.RangeMapBlaze.first_key_value.Goals as goal

pub returns-clause-key : goal.returns-clause-key
returns-clause-key g c =
    rw (← c.self.view_is)
    (least-key g.T.Integer.value_count c.self.inside.pieces c.self.invariant _ c.in_ok-piece.ensures)

pub returns-clause-value : goal.returns-clause-value
returns-clause-value g c =
    rw (← c.self.view_is)
    (first-at g.T.Integer.value_count c.self.inside.pieces c.self.invariant _ c.in_ok-piece.ensures)
