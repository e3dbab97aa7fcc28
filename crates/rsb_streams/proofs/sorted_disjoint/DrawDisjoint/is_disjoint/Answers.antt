use Rattle.rsb_integer.specs.Selection.{intersection, AreDisjoint}
use Rattle.rsb_streams.proofs.lemmas.questions.Tests.{intersection-tells, nothing-tells}
use Rattle.rsb_streams.proofs.sorted_disjoint.DrawDisjoint.is_disjoint.Goals as goal

pub returns : goal.returns
returns g c =
    let n = g.T.Integer.value_count in
    nothing-tells n intersection (AreDisjoint n) (g.Self.Draw.may_give c.args.self)
    (g.R.Draw.may_give c.args.other) _ c.is_empty.result (intersection-tells n)
    c.intersection.ensures.made.gives c.is_empty.ensures
