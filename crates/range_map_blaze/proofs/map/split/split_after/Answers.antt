use Rattle.std.proofs.Common.{◌∙◌, ◌++◌, ap, arith, subst, sym}
use Rattle.range_map_blaze.specs.Map.{IsMapIn}
use Rattle.range_map_blaze.specs.Parts.{before}
use Rattle.range_map_blaze.specs.Storage.{pieces_below, pieces_from}
use Rattle.range_map_blaze.proofs.lemmas.Splits.{split-below, split-low}
use Rattle.range_map_blaze.proofs.map.split.split_after.Goals as goal

pub shorten_before-requires-clause-canonical : goal.shorten_before-requires-clause-canonical
shorten_before-requires-clause-canonical g c =
    let rank = g.T.Integer.rank in
    let key = rank c.args.key in
    subst (λ pieces. IsMapIn g.T.Integer.value_count (pieces_below key pieces)) (sym c.in-Ok.ensures.low)
    (split-below g.T.Integer.value_count c.args.pieces.now c.open_after.new.pieces
    c.requires.canonical key (c.in_ok-opened.ensures.below key (omega (arith, c.requires.next))))

pub returns-clause-low : goal.returns-clause-low
returns-clause-low g c =
    let rank = g.T.Integer.rank in
    let key = rank c.args.key in
    c.shorten_before.ensures
    ∙ ap (λ pieces. before key (pieces_below key pieces) ++ pieces_from key pieces) c.in-Ok.ensures.low
    ∙ split-low g.T.Integer.value_count c.args.pieces.now c.open_after.new.pieces
    c.requires.canonical key (c.in_ok-opened.ensures.below key (omega (arith, c.requires.next)))
