use Rattle.rsb_streams.specs.Merge.{merge}
use Rattle.rsb_streams.specs.laws.Merge.{merge-sorted}
use Rattle.rsb_streams.proofs.lemmas.lookahead.Ahead.{unites-undrawn}
use Rattle.rsb_streams.proofs.lemmas.calling.Operations.{union-of_merge}
use Rattle.rsb_streams.proofs.lemmas.sources.Known.{fresh-may, fresh-ready}
use Rattle.rsb_streams.proofs.union_iter.UnionIterMergeFromTuple2.from.Goals as goal

-- The union of two streams is the union of their merge.
pub returns : goal.returns
returns g c = λ left_can right_can.
    let merged = merge g.T.Integer g.L.Draw g.R.Draw in
    let n = g.T.Integer.value_count in
    let both = c.of-merge.result in
    let first = c.args.streams.0 in
    let second = c.args.streams.1 in
    let ready : merged.can_draw both = record {
      left = fresh-ready g.T.Integer g.L.Draw first both.left c.of-merge.ensures.left left_can
          (g.met.L.Draw.sorted first left_can).all;
      right = fresh-ready g.T.Integer g.R.Draw second both.right c.of-merge.ensures.right right_can
          (g.met.R.Draw.sorted second right_can).all;
    } in
    let kept = merge-sorted g.T.Integer g.L.Draw g.R.Draw g.met.L.Draw.sorted
    g.met.R.Draw.sorted both ready in
    record {
      made = record {
        ready = fresh-ready g.T.Integer merged both c.over.result.iter c.over.ensures ready kept.all;
        gives = λ runs may. union-of_merge n (g.L.Draw.may_give first) (g.R.Draw.may_give second)
            (merged.may_give both)
            (λ given at nothing. at (λ one two also too all. nothing one two
            (fresh-may g.T.Integer g.L.Draw first both.left c.of-merge.ensures.left one also)
            (fresh-may g.T.Integer g.R.Draw second both.right c.of-merge.ensures.right two too) all))
            runs
            (λ nothing. may (λ given at all. nothing given
            (fresh-may g.T.Integer merged both c.over.result.iter c.over.ensures given at) all));
      };
      undrawn = unites-undrawn g.T.Integer g.L.Draw g.R.Draw first second both
          c.of-merge.ensures.left c.of-merge.ensures.right c.over.result c.over.ensures;
    }
