use Rattle.std.proofs.Common.{ap}
use Rattle.std.specs.Hash.{fed_along}
use Rattle.rsb_integer.proofs.lemmas.Range.{value_at-rank}
use Rattle.range_map_blaze.proofs.lemmas.Compared.{entries-fed, stored-settled}
use Rattle.range_map_blaze.proofs.pieces.Pieces.feed.Goals as goal

-- Entries feed what their pieces do.
pub returns-clause-fed : goal.returns-clause-fed
returns-clause-fed g c =
    let rank = g.T.Integer.rank in
    let n = g.T.Integer.value_count in
    let laws = g.met.T.Integer in
    let seen = g.V.MapValue.seen in
    let key = g.T.Hash.hash_input in
    let value = g.V.Hash.hash_input in
    let placed = value_at-rank rank n g.T.Ord.cmp laws.exact laws.in_order g.T.Integer.value_at laws.ranks in
    rw (← c.self.view_is)
    (fed_along g.H.Hasher.write c.args.state.now c.hash.new.state
    (entries-fed rank seen n key (λ each. key (g.T.Integer.value_at each)) value
    (λ each below. ap key (placed each below))
    (λ each. g.met.V.Hash.respects_eq (seen each) each
    ((g.met.V.MapValue.exact (seen each) each).1 (g.V.MapValue.settled each)))
    0 c.self.inside.map.entries (rw c.self.view_is c.requires))
    c.hash.ensures)

-- The values are what is seen of them.
pub returns-clause-settled : goal.returns-clause-settled
returns-clause-settled g c =
    rw (← c.self.view_is)
    (stored-settled g.T.Integer.rank g.V.MapValue.seen g.V.MapValue.settled c.self.inside.map.entries)
