use Rattle.std.proofs.Common.{sym}
use Rattle.rsb_integer.specs.Selection.{complement, intersection, union}
use Rattle.rsb_streams.proofs.lemmas.calling.Nested.{intersection-respects, neither-of, runs_by_two-after, runs_by_two-same}
use Rattle.test_streams.proofs.streams.set_algebra.inside_complements.Goals as goal

pub returns-clause-gives : goal.returns-clause-gives
returns-clause-gives g c = λ runs at.
    let n = g.T.Integer.value_count in
    runs_by_two-same n (λ left right. intersection (complement left) (complement right))
    (λ left right. complement (union left right)) _ _
    (λ left right rank. sym (neither-of (left rank) (right rank))) runs
    (runs_by_two-after n intersection complement complement (g.L.Draw.may_give c.args.left)
    (g.R.Draw.may_give c.args.right) _ _ (intersection-respects n)
    c.complement-gaps.ensures.made.gives c.complement-others.ensures.made.gives runs
    (c.intersection.ensures.made.gives runs at))
