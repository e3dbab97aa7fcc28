use Rattle.std.proofs.Common.{◌+◌, ◌∙◌, refl}
use Rattle.std.proofs.lemmas.Result.{IfOk-weaker}
use Rattle.rsb_integer.specs.Runs.{covers, members}
use Rattle.rsb_storage.specs.Storage.{run_of}
use Rattle.range_set_blaze.specs.Pieces.{gathered_runs, is_kept}
use Rattle.range_set_blaze.specs.Retain.{left_runs, past_piece}
use Rattle.range_set_blaze.proofs.lemmas.gathering.AskedValues.{below-lower, canonical-below}
use Rattle.range_set_blaze.proofs.lemmas.gathering.Pieces.{kept-last, kept-more, kept-next}
use Rattle.range_set_blaze.proofs.set.pieces.kept_of.Goals as goal

-- At first, all runs of both sets are to come.
pub loop-piece-init : goal.loop-piece-init
loop-piece-init g c =
    let n = g.T.Integer.value_count in
    let none = c.none-gathered.ensures in
    record {
      kept = none.kept;
      left = rw (none.past, c.over-lefts.ensures) (canonical-below n 0 c.left.inside.runs
          c.left.invariant.canonical.apart c.left.invariant.canonical.within);
      right = rw (none.past, c.over-rights.ensures) (canonical-below n 0 c.right.inside.runs
          c.right.invariant.canonical.apart c.right.invariant.canonical.within);
      exact = λ point.
          rw (
            none.none,
            c.over-lefts.ensures,
            c.over-rights.ensures,
            c.left.view_is,
            c.right.view_is,
          )
          refl;
    }

-- A piece that is kept is gathered, and the runs past it are to come.
pub loop-piece-preserved : goal.loop-piece-preserved
loop-piece-preserved g c =
    let rank = g.T.Integer.rank in
    let n = g.T.Integer.value_count in
    let run = run_of rank c.in-Some.piece.run in
    let lefts = left_runs rank c.loop-piece.lefts.head c.loop-piece.lefts.rest in
    let rights = left_runs rank c.loop-piece.rights.head c.loop-piece.rights.rest in
    let after = left_runs rank c.next_piece.new.lefts.head c.next_piece.new.lefts.rest in
    let others = left_runs rank c.next_piece.new.rights.head c.next_piece.new.rights.rest in
    let past = past_piece rank c.put_if.new.self.held in
    let piece = c.in-Some.ensures in
    let put = c.in_ok-put_if.ensures in
    record {
      kept = put.kept;
      left = below-lower n (run.last + 1) past after put.last piece.left.canonical;
      right = below-lower n (run.last + 1) past others put.last piece.right.canonical;
      exact = λ point.
          c.loop-piece.invariant.exact point
          ∙ kept-more
          (members (gathered_runs rank c.loop-piece.gathered.entries.items c.loop-piece.gathered.held)
          point)
          (members (gathered_runs rank c.put_if.new.self.entries.items c.put_if.new.self.held) point)
          c.keeps-kept.result (is_kept c.args.common c.in-Some.piece.in_left c.in-Some.piece.in_right)
          (covers run point) (is_kept c.args.common (members lefts point) (members rights point))
          (is_kept c.args.common (members after point) (members others point)) c.keeps-kept.ensures
          (kept-next c.args.common n lefts rights run c.in-Some.piece.in_left
          c.in-Some.piece.in_right after others piece point) (put.added point);
    }

-- If no piece is left, all that is kept is gathered.
pub returns : goal.returns
returns g c =
    let rank = g.T.Integer.rank in
    let gathered = gathered_runs rank c.loop-piece.gathered.entries.items c.loop-piece.gathered.held in
    let none = c.in_default.ensures in
    IfOk-weaker c.finish.result _ _ (λ set is. record {
      left = rw (← c.left.view_is) c.left.invariant.canonical;
      right = rw (← c.right.view_is) c.right.invariant.canonical;
      made = rw is c.loop-piece.invariant.kept.canonical;
      exact = λ point. rw is (kept-last c.args.common (members gathered point) _
          (rw (none.0, none.1) at (c.loop-piece.invariant.exact point)));
    }) c.finish.ensures
