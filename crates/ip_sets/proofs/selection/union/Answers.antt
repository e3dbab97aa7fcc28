use Rattle.std.proofs.lemmas.Result.{IfOk-weaker}
use Rattle.range_set_blaze.specs.Selection.{any_of}
use Rattle.rsb_many.proofs.lemmas.inputs.GivenList.{given-list}
use Rattle.rsb_many.specs.MultiwayUnion.{multiway_union}
use Rattle.rsb_many.specs.MultiwayResults.{MakesMultiwayUnion}
use Rattle.ip_sets.proofs.lemmas.Selecting.{selects}
use Rattle.ip_sets.proofs.selection.union.Goals as goal

-- The stream gives only the runs of what is selected.
pub returns-clause-selects : goal.returns-clause-selects
returns-clause-selects g c = λ sets each.
    let streams = c.args.streams.items in
    IfOk-weaker c.union.result _ _ (λ made gave.
    selects g.I.Draw.may_give g.T.Integer.value_count any_of streams sets _ each
    (given-list streams gave.0 (λ items. MakesMultiwayUnion g.T.Integer g.I.Draw
    (multiway_union g.T.Integer g.I.Draw) items made) gave.1.0 gave.1.3 gave.2).gives)
    c.union.ensures.made
