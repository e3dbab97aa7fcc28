use Rattle.std.proofs.lemmas.Result.{IfOk-weaker}
use Rattle.range_set_blaze.specs.Selection.{odd_of}
use Rattle.rsb_many.proofs.lemmas.inputs.GivenList.{given-list}
use Rattle.rsb_many.specs.MultiwaySymmetricDifference.{multiway_symmetric_difference}
use Rattle.rsb_many.specs.MultiwayResults.{MakesMultiwaySymmetricDifference}
use Rattle.ip_sets.proofs.lemmas.Selecting.{selects}
use Rattle.ip_sets.proofs.selection.odd.Goals as goal

-- The stream gives only the runs of what is selected.
pub returns-clause-selects : goal.returns-clause-selects
returns-clause-selects g c = λ sets each.
    let streams = c.args.streams.items in
    IfOk-weaker c.symmetric_difference.result _ _ (λ made gave.
    selects g.I.Draw.may_give g.T.Integer.value_count odd_of streams sets _ each
    (given-list streams gave.0 (λ items. MakesMultiwaySymmetricDifference g.T.Integer g.I.Draw
    (multiway_symmetric_difference g.T.Integer g.I.Draw) items made) gave.1.0 gave.1.3 gave.2).gives)
    c.symmetric_difference.ensures.made
