-- The closure was called on a prefix of the runs. Of these, the map still has those that are kept.
use Rattle.range_set_blaze.proofs.lemmas.retaining.Retained.{to_come, IsRetaining}
use Rattle.range_set_blaze.proofs.set.retain.retain_runs.Given as goal

abbrev pub invariant-loop-next : goal.invariant-loop-next
invariant-loop-next g l =
    let rank = g.T.Integer.rank in
    IsRetaining rank g.T.Integer.value_count g.F.FnMut l.initial.f l.fn.runs
    l.runs (g.T.SafeLen.SafeLength.number l.length) l.next l.f

abbrev pub decreases-loop-next : goal.decreases-loop-next
decreases-loop-next g l = to_come g.T.Integer.rank g.T.Integer.value_count l.next
