use Rattle.rsb_integer.specs.Selection.{difference, IsSubset}
use Rattle.rsb_streams.proofs.lemmas.questions.Tests.{difference-tells, nothing-tells}
use Rattle.rsb_streams.proofs.sorted_disjoint.DrawDisjoint.is_subset.Goals as goal

pub returns : goal.returns
returns g c =
    let n = g.T.Integer.value_count in
    nothing-tells n difference (IsSubset n) (g.Self.Draw.may_give c.args.self)
    (g.R.Draw.may_give c.args.other) _ c.is_empty.result (difference-tells n)
    c.difference.ensures.made.gives c.is_empty.ensures
