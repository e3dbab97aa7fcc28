-- The runs gathered so far, and what the operation keeps of the runs to come, are what it keeps of
-- both sets.
use Rattle.std.proofs.Common.{◌≡◌, ℕ, ◌||◌, ◌+◌, ◌-◌}
use Rattle.rsb_integer.specs.Runs.{members}
use Rattle.range_set_blaze.specs.Pieces.{first_in, gathered_runs, is_kept, IsGathered}
use Rattle.range_set_blaze.specs.Retain.{left_runs, past_piece, IsCanonicalBelow}
use Rattle.range_set_blaze.proofs.set.pieces.kept_of.Given as goal

abbrev pub invariant-loop-piece : goal.invariant-loop-piece
invariant-loop-piece g l =
    let rank = g.T.Integer.rank in
    let n = g.T.Integer.value_count in
    let lefts = left_runs rank l.lefts.head l.lefts.rest in
    let rights = left_runs rank l.rights.head l.rights.rest in
    let past = past_piece rank l.gathered.held in
    record {
      kept : IsGathered rank n l.gathered.entries.items
          (g.T.SafeLen.SafeLength.number l.gathered.length) l.gathered.held;
      left : IsCanonicalBelow n past lefts;
      right : IsCanonicalBelow n past rights;
      exact : (point : ℕ) → is_kept l.common (members l.fn.left point) (members l.fn.right point)
          ≡ (members (gathered_runs rank l.gathered.entries.items l.gathered.held) point
          || is_kept l.common (members lefts point) (members rights point));
    }

abbrev pub decreases-loop-piece : goal.decreases-loop-piece
decreases-loop-piece g l =
    let rank = g.T.Integer.rank in
    let n = g.T.Integer.value_count in
    n + n - (first_in n (left_runs rank l.lefts.head l.lefts.rest)
    + first_in n (left_runs rank l.rights.head l.rights.rest))
