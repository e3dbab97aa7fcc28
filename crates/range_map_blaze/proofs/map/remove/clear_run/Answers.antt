use Rattle.std.proofs.Common.{◌∙◌, ◌++◌, ap, arith, subst, sym}
use Rattle.range_map_blaze.specs.Map.{IsMapIn}
use Rattle.range_map_blaze.specs.Parts.{before}
use Rattle.range_map_blaze.specs.Storage.{pieces_below, pieces_from, without_inside}
use Rattle.range_map_blaze.proofs.lemmas.Cuts.{before-below, below-map}
use Rattle.range_map_blaze.proofs.lemmas.Placed.{cleared-below, cleared-from}
use Rattle.range_map_blaze.proofs.map.remove.clear_run.Goals as goal

-- The pieces that start below the run are as before.
pub shorten_before-requires-clause-canonical : goal.shorten_before-requires-clause-canonical
shorten_before-requires-clause-canonical g c =
    let rank = g.T.Integer.rank in
    let start = rank c.args.run.start in
    subst (IsMapIn g.T.Integer.value_count)
    (sym (ap (pieces_below start)
    (c.remove_inside.ensures ∙ ap (without_inside start (rank c.args.run.end)) c.remove.ensures)
    ∙ cleared-below c.args.pieces.now c.open_after.new.pieces start (rank c.args.run.end)
    c.requires.order
    (c.in_ok-open_after.ensures.below start (omega (arith, c.requires.order)))
    c.in_ok-open_after.ensures.past))
    (below-map g.T.Integer.value_count 0 start c.args.pieces.now c.requires.canonical)

-- Those from its start on are what lies past it.
pub returns-clause-pieces : goal.returns-clause-pieces
returns-clause-pieces g c =
    let rank = g.T.Integer.rank in
    let start = rank c.args.run.start in
    let left = c.remove_inside.ensures
    ∙ ap (without_inside start (rank c.args.run.end)) c.remove.ensures in
    let same = c.in_ok-open_after.ensures.below start (omega (arith, c.requires.order)) in
    c.shorten_before.ensures
    ∙ λ i. (ap (λ low. before start low) (ap (pieces_below start) left
    ∙ cleared-below c.args.pieces.now c.open_after.new.pieces start (rank c.args.run.end)
    c.requires.order same c.in_ok-open_after.ensures.past)
    ∙ before-below g.T.Integer.value_count 0 start c.args.pieces.now c.requires.canonical) i
    ++ (ap (pieces_from start) left
    ∙ cleared-from c.args.pieces.now c.open_after.new.pieces start (rank c.args.run.end)
    c.requires.order same c.in_ok-open_after.ensures.past) i
