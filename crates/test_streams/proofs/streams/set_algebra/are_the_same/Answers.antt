use Rattle.rsb_streams.proofs.lemmas.calling.Nested.{equal-of_both}
use Rattle.test_streams.proofs.streams.set_algebra.are_the_same.Goals as goal

pub returns : goal.returns
returns g c = λ operation these those ones twos.
    equal-of_both g.T.Integer.value_count these those operation (g.L.Draw.may_give c.args.left)
    (g.R.Draw.may_give c.args.right) c.equal.result ones twos c.equal.ensures
