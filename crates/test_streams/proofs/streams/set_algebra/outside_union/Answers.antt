use Rattle.rsb_integer.specs.Selection.{complement, union}
use Rattle.rsb_streams.proofs.lemmas.calling.Results.{complement-respects, runs_by-after_two, runs_by-within}
use Rattle.test_streams.proofs.streams.set_algebra.outside_union.Goals as goal

pub returns-clause-gives : goal.returns-clause-gives
returns-clause-gives g c = λ runs at.
    let n = g.T.Integer.value_count in
    runs_by-after_two n complement union (g.L.Draw.may_give c.args.left)
    (g.R.Draw.may_give c.args.right) (complement-respects n) runs
    (runs_by-within n complement _ _ c.union-either.ensures.made.gives runs
    (c.complement.ensures.made.gives runs at))
