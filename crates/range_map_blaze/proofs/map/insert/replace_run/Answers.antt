use Rattle.std.proofs.Common.{◌∙◌, ◌++◌, ap, arith, refl, subst, sym}
use Rattle.rsb_storage.specs.Storage.{run_of}
use Rattle.range_map_blaze.specs.Map.{IsMapIn}
use Rattle.range_map_blaze.specs.Parts.{before}
use Rattle.range_map_blaze.specs.Storage.{pieces_below, pieces_from, without_inside}
use Rattle.range_map_blaze.proofs.lemmas.Cuts.{before-below, below-map}
use Rattle.range_map_blaze.proofs.lemmas.Placed.{put-below, put-from}
use Rattle.range_map_blaze.proofs.map.insert.replace_run.Goals as goal

-- The pieces that start below the run are as before.
pub shorten_before-requires-clause-canonical : goal.shorten_before-requires-clause-canonical
shorten_before-requires-clause-canonical g c =
    let rank = g.T.Integer.rank in
    let start = rank c.args.run.start in
    subst (IsMapIn g.T.Integer.value_count)
    (sym (ap (pieces_below start)
    (c.remove_inside.ensures ∙ ap (without_inside start (rank c.args.run.end)) c.in_default.ensures.pieces)
    ∙ put-below c.args.pieces.now c.open_after.new.pieces start (rank c.args.run.end) c.requires.order
    (c.in_ok-opened.ensures.below start (omega (arith, c.requires.order)))
    c.in_ok-opened.ensures.past (run_of rank c.args.run, g.V.MapValue.seen c.args.value) refl))
    (below-map g.T.Integer.value_count 0 start c.args.pieces.now c.requires.canonical)

-- Those from its start on are the run and what lies past it.
pub returns-clause-pieces : goal.returns-clause-pieces
returns-clause-pieces g c =
    let rank = g.T.Integer.rank in
    let start = rank c.args.run.start in
    let put = c.remove_inside.ensures
    ∙ ap (without_inside start (rank c.args.run.end)) c.in_default.ensures.pieces in
    let same = c.in_ok-opened.ensures.below start (omega (arith, c.requires.order)) in
    c.shorten_before.ensures
    ∙ λ i. (ap (λ low. before start low) (ap (pieces_below start) put
    ∙ put-below c.args.pieces.now c.open_after.new.pieces start (rank c.args.run.end) c.requires.order
    same c.in_ok-opened.ensures.past (run_of rank c.args.run, g.V.MapValue.seen c.args.value) refl)
    ∙ before-below g.T.Integer.value_count 0 start c.args.pieces.now c.requires.canonical) i
    ++ (ap (pieces_from start) put
    ∙ put-from c.args.pieces.now c.open_after.new.pieces start (rank c.args.run.end) c.requires.order
    same c.in_ok-opened.ensures.past (run_of rank c.args.run, g.V.MapValue.seen c.args.value) refl) i
