use Rattle.std.proofs.Common.{◌≡◌, ◌∙◌, ap, sym, subst}
use Rattle.range_map_blaze.specs.Storage.{pieces_of, with_end_at, StartsAscendFrom}
use Rattle.range_map_blaze.proofs.lemmas.Entries.{pieces-no_value, pieces-set_value, with_end-ascending}
use Rattle.range_map_blaze.proofs.pieces.Pieces.set_end.Given.{Over}
use Rattle.range_map_blaze.proofs.pieces.Pieces.set_end.Goals as goal

-- If no piece starts at the value, none gets another end.
pub returns-in_default : goal.returns-in_default
returns-in_default g c =
    let laws = g.met.T.Integer in
    rw (← c.self.view_is, c.get_mut.follows.holds-at-none)
    (sym (pieces-no_value g.T.Ord.cmp g.T.Integer.rank g.V.MapValue.seen g.T.Integer.value_count laws.in_order
    c.args.start (g.T.Integer.rank c.args.end) c.requires 0 c.self.inside.map.entries
    c.self.invariant (sym c.in_default.ensures.value)))

-- Otherwise its entry gets the other end, and keeps its value.
set : (g : Over) (c : goal.After-self-2-1 g)
    → pieces_of g.T.Integer.rank g.V.MapValue.seen
    (c.get_mut.follows.lender (c.args.end, c.in-Some.rest.now.1)).entries
    ≡ with_end_at (g.T.Integer.rank c.args.start) (g.T.Integer.rank c.args.end)
    (pieces_of g.T.Integer.rank g.V.MapValue.seen c.self.inside.map.entries)
set g c =
    let laws = g.met.T.Integer in
    ap (pieces_of g.T.Integer.rank g.V.MapValue.seen)
    (c.get_mut.follows.holds (c.args.end, c.in-Some.rest.now.1)).0
    ∙ pieces-set_value g.T.Ord.cmp g.T.Integer.rank g.V.MapValue.seen g.T.Integer.value_count laws.in_order
    c.args.start c.args.end c.in-Some.rest.now c.requires 0 c.self.inside.map.entries
    c.self.invariant (sym c.in-Some.ensures.value)

pub returns : goal.returns
returns g c = rw (← c.self.view_is) (set g c)

-- The starts of the pieces still ascend.
pub invariant_of-self-2 : goal.invariant_of-self-2
invariant_of-self-2 g c =
    subst (StartsAscendFrom g.T.Integer.value_count 0) (sym (set g c))
    (with_end-ascending g.T.Ord.cmp g.T.Integer.rank g.V.MapValue.seen g.T.Integer.value_count g.met.T.Integer.in_order
    (g.T.Integer.rank c.args.start) (g.T.Integer.rank c.args.end) 0 _ c.self.invariant)
