use Rattle.rsb_integer.specs.Selection.{difference, intersection, symmetric_difference, union}
use Rattle.rsb_streams.proofs.lemmas.calling.Nested.{both-of, difference-respects, runs_by_two-same, two-of_both, unshared-alone}
use Rattle.rsb_streams.specs.Stream.{just}
use Rattle.test_streams.proofs.streams.symmetric_algebra.unshared.Goals as goal

-- The difference of the two results is one operation on the lists.
pub returns-clause-gives : goal.returns-clause-gives
returns-clause-gives g c = λ these those some other again other_again runs at.
    let n = g.T.Integer.value_count in
    let either = both-of n these those union _ _ _ some other c.union-either.ensures.made.gives in
    let common = both-of n these those intersection _ _ _ again other_again
    c.intersection-common.ensures.made.gives in
    runs_by_two-same n (λ left right. difference (union left right) (intersection left right))
    symmetric_difference (just these) (just those)
    (λ left right rank. unshared-alone (left rank) (right rank)) runs
    (two-of_both n these those difference union intersection _ _ (difference-respects n) either
    common runs (c.difference.ensures.made.gives runs at))
