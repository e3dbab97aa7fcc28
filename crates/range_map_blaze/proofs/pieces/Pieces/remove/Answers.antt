use Rattle.std.proofs.Common.{◌∙◌, ap, sym, subst}
use Rattle.range_map_blaze.specs.Storage.{pieces_of, StartsAscendFrom}
use Rattle.range_map_blaze.proofs.lemmas.Entries.{pieces-remove_entry}
use Rattle.range_map_blaze.proofs.lemmas.Starts.{starting-ascending}
use Rattle.range_map_blaze.proofs.pieces.Pieces.remove.Goals as goal

-- The entry with this start is removed.
pub returns : goal.returns
returns g c =
    let laws = g.met.T.Integer in
    rw (← c.self.view_is)
    (ap (pieces_of g.T.Integer.rank g.V.MapValue.seen) c.remove.ensures.entries
    ∙ pieces-remove_entry g.T.Ord.cmp g.T.Integer.rank g.V.MapValue.seen g.T.Integer.value_count laws.in_order
    c.args.start c.requires 0 c.self.inside.map.entries c.self.invariant)

-- The starts of the others ascend.
pub invariant_of-self : goal.invariant_of-self
invariant_of-self g c =
    let laws = g.met.T.Integer in
    subst (StartsAscendFrom g.T.Integer.value_count 0)
    (sym (ap (pieces_of g.T.Integer.rank g.V.MapValue.seen) c.remove.ensures.entries
    ∙ pieces-remove_entry g.T.Ord.cmp g.T.Integer.rank g.V.MapValue.seen g.T.Integer.value_count laws.in_order
    c.args.start c.requires 0 c.self.inside.map.entries c.self.invariant))
    (starting-ascending _ _ _ _ c.self.invariant)
