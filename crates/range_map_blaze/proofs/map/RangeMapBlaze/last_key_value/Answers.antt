use Rattle.range_map_blaze.proofs.lemmas.Splits.{greatest-key, last-at}
use Rattle.range_map_blaze.proofs.map.RangeMapBlaze.last_key_value.Goals as goal

pub returns-clause-key : goal.returns-clause-key
returns-clause-key g c =
    rw (← c.self.view_is)
    (greatest-key g.T.Integer.value_count c.self.inside.pieces c.self.invariant _
    c.in_ok-piece.ensures)

pub returns-clause-value : goal.returns-clause-value
returns-clause-value g c =
    rw (← c.self.view_is)
    (last-at g.T.Integer.value_count c.self.inside.pieces c.self.invariant _ c.in_ok-piece.ensures)
