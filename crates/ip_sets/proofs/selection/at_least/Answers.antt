use Rattle.std.proofs.lemmas.Result.{IfOk-weaker}
use Rattle.range_set_blaze.specs.Selection.{at_least}
use Rattle.rsb_many.proofs.lemmas.inputs.GivenList.{given-list}
use Rattle.rsb_many.specs.MultiwayAtLeast.{MakesMultiwayAtLeast, multiway_at_least}
use Rattle.ip_sets.proofs.lemmas.Selecting.{selects}
use Rattle.ip_sets.proofs.selection.at_least.Goals as goal

-- The stream gives only the runs of what is selected.
pub returns-clause-selects : goal.returns-clause-selects
returns-clause-selects g c = λ sets each.
    let streams = c.args.streams.items in
    IfOk-weaker c.at_least.result _ _ (λ made gave.
    selects g.I.Draw.may_give g.T.Integer.value_count (at_least c.args.k) streams sets _ each
    (given-list streams gave.0 (λ items. MakesMultiwayAtLeast g.T.Integer g.I.Draw c.args.k
    (multiway_at_least g.T.Integer g.I.Draw) items made) gave.1.0 gave.1.3 gave.2).gives)
    c.at_least.ensures.made
