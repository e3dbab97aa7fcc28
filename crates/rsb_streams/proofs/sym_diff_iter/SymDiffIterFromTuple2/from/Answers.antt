use Rattle.rsb_integer.specs.Runs.{IsCanonicalFrom}
use Rattle.rsb_streams.specs.Merge.{merge}
use Rattle.rsb_streams.specs.laws.Merge.{merge-sorted}
use Rattle.rsb_streams.specs.OddPieces.{odd_pieces}
use Rattle.rsb_streams.specs.laws.OddPieces.{odd_pieces-sorted}
use Rattle.rsb_streams.specs.Stream.{◌⊆◌, merges}
use Rattle.rsb_streams.proofs.lemmas.odd.Ends.{fresh-going, fresh-pieces}
use Rattle.rsb_streams.proofs.lemmas.sources.Known.{fresh-may, fresh-ready}
use Rattle.rsb_streams.proofs.lemmas.odd.SymmetricDifference.{merges-twofold, symmetric-of_merge}
use Rattle.rsb_streams.proofs.sym_diff_iter.SymDiffIterFromTuple2.from.Goals as goal

-- The symmetric difference is the union of the pieces of the merge of the two streams.
pub returns : goal.returns
returns g c = λ left_can right_can.
    let merged = merge g.T.Integer g.L.Draw g.R.Draw in
    let pieces = odd_pieces g.T.Integer merged in
    let n = g.T.Integer.value_count in
    let both = c.of-merge.result in
    let told = c.over.result in
    let first = c.args.streams.0 in
    let second = c.args.streams.1 in
    let ready : merged.can_draw both = record {
      left = fresh-ready g.T.Integer g.L.Draw first both.left c.of-merge.ensures.left left_can
          (g.met.L.Draw.sorted first left_can).all;
      right = fresh-ready g.T.Integer g.R.Draw second both.right c.of-merge.ensures.right right_can
          (g.met.R.Draw.sorted second right_can).all;
    } in
    let keeps = merge-sorted g.T.Integer g.L.Draw g.R.Draw g.met.L.Draw.sorted g.met.R.Draw.sorted in
    let within : merged.may_give both
    ⊆ merges n (g.L.Draw.may_give first) (g.R.Draw.may_give second) = λ given at nothing.
    at (λ one two also too all. nothing one two
    (fresh-may g.T.Integer g.L.Draw first both.left c.of-merge.ensures.left one also)
    (fresh-may g.T.Integer g.R.Draw second both.right c.of-merge.ensures.right two too) all) in
    let left_runs : g.L.Draw.may_give first ⊆ IsCanonicalFrom 0 =
    λ runs at. (g.met.L.DrawDisjoint.canonical first left_can runs at).apart in
    let right_runs : g.R.Draw.may_give second ⊆ IsCanonicalFrom 0 =
    λ runs at. (g.met.R.DrawDisjoint.canonical second right_can runs at).apart in
    let odd_ready : pieces.can_draw told =
    fresh-going g.T.Integer merged both told c.over.ensures.source c.over.ensures.none ready
    (λ given at. merges-twofold n (g.L.Draw.may_give first) (g.R.Draw.may_give second) left_runs
    right_runs given (within given at) ((keeps both ready).all given at)) in
    let kept = odd_pieces-sorted g.T.Integer merged keeps told odd_ready in
    record {
      ready = fresh-ready g.T.Integer pieces told c.over-2.result.iter c.over-2.ensures odd_ready
          kept.all;
      gives = λ runs may. symmetric-of_merge n (g.L.Draw.may_give first)
          (g.R.Draw.may_give second) (pieces.may_give told) left_runs right_runs
          (λ each at nothing. fresh-pieces g.T.Integer merged both told c.over.ensures.source
          c.over.ensures.none c.over.ensures.undone each at (λ given might all.
          within given might (λ one two also too both.
          nothing one two also too (given, both.1, all))))
          runs
          (λ nothing. may (λ given at all. nothing given
          (fresh-may g.T.Integer pieces told c.over-2.result.iter c.over-2.ensures given at) all));
    }
