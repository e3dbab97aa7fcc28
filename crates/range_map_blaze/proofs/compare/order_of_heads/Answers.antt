use Rattle.std.proofs.Common.{◌∙◌}
use Rattle.range_map_blaze.proofs.lemmas.Ordered.{seen-cmp, then-second}
use Rattle.range_map_blaze.proofs.compare.order_of_heads.Goals as goal

-- If the starts are the same, the values decide, as what is seen of them does.
pub returns : goal.returns
returns g c =
    let mine = c.args.mine.now in
    let theirs = c.args.theirs.now in
    let values = seen-cmp g.V.PartialEq.eq g.V.Ord.cmp g.V.MapValue.seen g.met.V.MapValue.exact
    g.V.MapValue.settled g.met.V.Ord.total g.met.V.Ord.matches_eq in
    then-second c.cmp-starts.result _ c.cmp.result _
    (c.cmp-starts.ensures
    ∙ g.met.T.Integer.in_order mine.run.start theirs.run.start c.requires.mine c.requires.theirs)
    c.if-is_ne.ensures (c.cmp.ensures ∙ values mine.value.now theirs.value.now)
