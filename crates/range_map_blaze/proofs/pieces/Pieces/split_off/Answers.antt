use Rattle.std.proofs.Common.{◌∙◌, ap, subst, sym}
use Rattle.range_map_blaze.specs.Storage.{pieces_of, StartsAscendFrom}
use Rattle.range_map_blaze.proofs.lemmas.Entries.{pieces-below, pieces-from}
use Rattle.range_map_blaze.proofs.lemmas.Starts.{starting-ascending}
use Rattle.range_map_blaze.proofs.pieces.Pieces.split_off.Goals as goal

-- The map keeps the entries below the key.
pub returns-clause-low : goal.returns-clause-low
returns-clause-low g c =
    let laws = g.met.T.Integer in
    rw (← c.self.view_is)
    (ap (pieces_of g.T.Integer.rank g.V.MapValue.seen) c.in_ok-map.ensures.below
    ∙ pieces-below g.T.Ord.cmp g.T.Integer.rank g.V.MapValue.seen g.T.Integer.value_count laws.in_order c.args.key
    c.requires c.self.inside.map.entries c.self.invariant)

-- The others are returned.
pub returns-clause-high : goal.returns-clause-high
returns-clause-high g c =
    let laws = g.met.T.Integer in
    rw (← c.self.view_is)
    (ap (pieces_of g.T.Integer.rank g.V.MapValue.seen) c.in_ok-map.ensures.from
    ∙ pieces-from g.T.Ord.cmp g.T.Integer.rank g.V.MapValue.seen g.T.Integer.value_count laws.in_order c.args.key
    c.requires c.self.inside.map.entries c.self.invariant)

-- The starts of both parts ascend.
pub invariant_of-result : goal.invariant_of-result
invariant_of-result g c =
    let laws = g.met.T.Integer in
    subst (StartsAscendFrom g.T.Integer.value_count 0)
    (sym (ap (pieces_of g.T.Integer.rank g.V.MapValue.seen) c.in_ok-map.ensures.from
    ∙ pieces-from g.T.Ord.cmp g.T.Integer.rank g.V.MapValue.seen g.T.Integer.value_count laws.in_order c.args.key
    c.requires c.self.inside.map.entries c.self.invariant))
    (starting-ascending _ _ _ _ c.self.invariant)

pub invariant_of-self-2 : goal.invariant_of-self-2
invariant_of-self-2 g c =
    let laws = g.met.T.Integer in
    subst (StartsAscendFrom g.T.Integer.value_count 0)
    (sym (ap (pieces_of g.T.Integer.rank g.V.MapValue.seen) c.in_ok-map.ensures.below
    ∙ pieces-below g.T.Ord.cmp g.T.Integer.rank g.V.MapValue.seen g.T.Integer.value_count laws.in_order c.args.key
    c.requires c.self.inside.map.entries c.self.invariant))
    (starting-ascending _ _ _ _ c.self.invariant)
