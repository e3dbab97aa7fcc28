use Rattle.rsb_integer.specs.Selection.{difference, intersection, union}
use Rattle.rsb_streams.proofs.lemmas.calling.Nested.{both-of, left-of_both, parts-join, runs_by_two-same, two-of_both, union-respects}
use Rattle.rsb_streams.specs.Stream.{just}
use Rattle.test_streams.proofs.streams.set_algebra.parts_joined.Goals as goal

pub returns-clause-gives : goal.returns-clause-gives
returns-clause-gives g c = λ these those some other again other_again runs at.
    let n = g.T.Integer.value_count in
    let common = both-of n these those intersection _ _ _ some other
    c.intersection-common.ensures.made.gives in
    let rest = both-of n these those difference _ _ _ again other_again
    c.difference-rest.ensures.made.gives in
    left-of_both n these those runs
    (runs_by_two-same n (λ left right. union (intersection left right) (difference left right))
    (λ left right. left) (just these) (just those)
    (λ left right rank. parts-join (left rank) (right rank)) runs
    (two-of_both n these those union intersection difference _ _ (union-respects n) common rest runs
    (c.union.ensures.made.gives runs at)))
