use Rattle.std.proofs.Common.{◌∙◌, sym}
use Rattle.range_map_blaze.proofs.lemmas.Compared.{entries-same, ranked-same, same-ranked, stored-settled}
use Rattle.range_map_blaze.proofs.pieces.Pieces.same.Goals as goal

-- Entries are equal exactly if their pieces are the same.
pub returns-clause-same : goal.returns-clause-same
returns-clause-same g c =
    let rank = g.T.Integer.rank in
    let n = g.T.Integer.value_count in
    let ties = g.met.T.Ord.matches_eq in
    let told = entries-same rank g.V.MapValue.seen n g.T.PartialEq.eq g.V.PartialEq.eq
    (same-ranked rank n g.T.PartialEq.eq g.T.Ord.cmp ties g.met.T.Integer.exact)
    (ranked-same rank n g.T.PartialEq.eq g.T.Ord.cmp ties g.met.T.Integer.in_order)
    g.met.V.MapValue.exact 0 c.self.inside.map.entries c.other.inside.map.entries
    (rw c.self.view_is c.requires) in
    rw (← c.self.view_is, ← c.other.view_is)
    ((λ is. told.0 (sym c.eq.ensures ∙ is)), (λ same. c.eq.ensures ∙ told.1 same))

-- The values are what is seen of them.
pub returns-clause-settled : goal.returns-clause-settled
returns-clause-settled g c =
    rw (← c.self.view_is)
    (stored-settled g.T.Integer.rank g.V.MapValue.seen g.V.MapValue.settled c.self.inside.map.entries)

pub returns-clause-settled_other : goal.returns-clause-settled_other
returns-clause-settled_other g c =
    rw (← c.other.view_is)
    (stored-settled g.T.Integer.rank g.V.MapValue.seen g.V.MapValue.settled c.other.inside.map.entries)
