use Rattle.std.proofs.lemmas.Result.{IfOk-weaker}
use Rattle.range_set_blaze.specs.MultiwayResults.{MakesMultiwayUnion}
use Rattle.range_set_blaze.specs.MultiwayUnion.{multiway_union}
use Rattle.range_set_blaze.proofs.StreamLists.{given-streams}
use Rattle.rsb_examples.proofs.logs.in_some.Goals as goal

-- The set is a list that the union of the streams may give.
pub returns : goal.returns
returns g c =
    let made = given-streams g.I.Draw.can_draw c.args.logs (λ streams. MakesMultiwayUnion
    g.T.Integer g.I.Draw (multiway_union g.T.Integer g.I.Draw) streams c.in_ok-union.union)
    c.in_ok-union.ensures.made in
    IfOk-weaker c.into_range_set_blaze.result _ _ made.gives c.into_range_set_blaze.ensures.runs
