use Rattle.std.proofs.Common.{refl}
use Rattle.range_set_blaze.proofs.lemmas.runs.Counts.{run_count-removed}
use Rattle.range_set_blaze.proofs.set.RangeSetBlaze.remove.Goals as goal

-- One value is removed from the runs of the set.
pub returns-clause-run_count : goal.returns-clause-run_count
returns-clause-run_count g c =
    let rank = g.T.Integer.rank in
    let kept = rw c.in-Some.is at c.in_ok-length.ensures.kept in
    let removed = (rw (c.in-Some.is, c.known.ensures.same) at c.in_ok-length.ensures.removed) refl in
    rw (← c.self.view_is) (run_count-removed g.T.Integer.value_count
    c.self.inside.runs c.remove_value.new.runs
    c.self.invariant.canonical kept.canonical (rank c.args.value) c.known.ensures.value removed)
