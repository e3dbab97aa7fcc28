use Rattle.std.proofs.Common.{◌||◌, refl}
use Rattle.range_set_blaze.proofs.lemmas.gathering.SetOperations.{set-of_operation}
use Rattle.range_set_blaze.proofs.set.algebra.union_of.Goals as goal

-- The result has the ranks that the operation selects.
pub returns-clause-members : goal.returns-clause-members
returns-clause-members g c these those is also one other =
    (set-of_operation g.T.Integer.value_count c.from_sorted_disjoint.result _ c.from_sorted_disjoint.ensures.runs
    these those is also one other (λ left right. left || right) refl c.union.ensures.made.gives).0

-- The number of its runs is at most what the operation allows.
pub returns-clause-run_count : goal.returns-clause-run_count
returns-clause-run_count g c these those is also one other =
    (set-of_operation g.T.Integer.value_count c.from_sorted_disjoint.result _ c.from_sorted_disjoint.ensures.runs
    these those is also one other (λ left right. left || right) refl c.union.ensures.made.gives).1
