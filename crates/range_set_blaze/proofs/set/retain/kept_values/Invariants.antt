-- The closure was called on a prefix of the members. Those for which it returned true are kept or
-- in the piece.
use Rattle.std.proofs.Common.{◌≡◌, ◌≤◌, IfSome, List, [], None, ◌++◌, length, map}
use Rattle.range_set_blaze.specs.Retain.{left_runs, past_piece, ascending_ranks, with_piece, IsCanonicalBelow}
use Rattle.range_set_blaze.proofs.lemmas.gathering.AskedValues.{HasAnswered}
use Rattle.range_set_blaze.proofs.set.retain.kept_values.Given as goal

abbrev pub invariant-loop-left : goal.invariant-loop-left
invariant-loop-left g l =
    let rank = g.T.Integer.rank in
    let n = g.T.Integer.value_count in
    let old = l.fn.runs in
    let todo = left_runs rank l.left l.entries in
    record {
      canonical : IsCanonicalBelow n (past_piece rank l.piece) todo;
      order : IfSome l.piece (λ run. rank run.start ≤ rank run.end);
      value : past_piece rank l.piece ≤ n;
      empty : old ≡ [] → (todo ≡ []) × (l.piece ≡ None);
      asked : List g.row.T.Denot;
      answered : HasAnswered rank n g.F.FnMut l.initial.f asked l.f (with_piece rank l.kept l.piece);
      listed : ascending_ranks old ≡ map rank asked ++ ascending_ranks todo;
    }

abbrev pub decreases-loop-left : goal.decreases-loop-left
decreases-loop-left g l = length (ascending_ranks (left_runs g.T.Integer.rank l.left l.entries))
