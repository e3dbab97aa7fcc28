use Rattle.std.proofs.lemmas.Result.{IfOk-weaker}
use Rattle.rsb_many.specs.MultiwayResults.{MakesMultiwayUnion}
use Rattle.rsb_many.specs.MultiwayUnion.{multiway_union}
use Rattle.rsb_many.proofs.lemmas.calling.StreamLists.{given-streams}
use Rattle.test_many.proofs.many.over_any.union_of.Goals as goal

-- The union is built from the streams of the list.
pub returns-clause-gives : goal.returns-clause-gives
returns-clause-gives g c = IfOk-weaker c.union.result _ _ (λ union made.
    (given-streams g.I.Draw.can_draw c.args.streams (λ streams.
    MakesMultiwayUnion g.T.Integer g.I.Draw (multiway_union g.T.Integer g.I.Draw) streams union)
    made).gives) c.union.ensures.made
