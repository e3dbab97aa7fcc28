use Rattle.range_map_blaze.proofs.lemmas.Entries.{first-piece}
use Rattle.range_map_blaze.proofs.pieces.Pieces.first.Goals as goal

-- The first entry is that of the first piece.
pub returns : goal.returns
returns g c =
    rw (← c.self.view_is)
    (first-piece g.T.Integer.rank g.V.MapValue.seen c.self.inside.map.entries _
    c.in_ok-start.ensures.first)
