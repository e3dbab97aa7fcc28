-- Each iteration takes a run of each list. How the last two compare by their ends, and what is
-- left, determine the order.
use Rattle.std.proofs.Common.{length}
use Rattle.range_set_blaze.proofs.lemmas.order.CommonFronts.{HasCompared}
use Rattle.range_set_blaze.proofs.set.order.compare_runs.Given as goal

abbrev pub invariant-loop-ends : goal.invariant-loop-ends
invariant-loop-ends g l =
    let rank = g.T.Integer.rank in
    HasCompared rank g.T.Integer.value_count l.fn.left
    l.fn.right l.ends l.left l.right l.turns

abbrev pub decreases-loop-ends : goal.decreases-loop-ends
decreases-loop-ends g l = length l.left
