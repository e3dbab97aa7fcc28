use Rattle.std.specs.Prelude.{length}
use Rattle.rsb_integer.specs.Selection.{any_of, complement}
use Rattle.rsb_streams.proofs.lemmas.calling.Results.{runs_by-within}
use Rattle.rsb_many.specs.Many.{may_give_at, runs_by_all}
use Rattle.rsb_many.specs.MultiwayResults.{MakesMultiwayUnion}
use Rattle.rsb_many.specs.MultiwayUnion.{multiway_union}
use Rattle.rsb_many.proofs.lemmas.inputs.GivenList.{given-list}
use Rattle.test_many.proofs.many.nested.none_of.Goals as goal

-- The result is the complement of what the union may give.
pub returns-clause-gives : goal.returns-clause-gives
returns-clause-gives g c =
    let n = g.T.Integer.value_count in
    let union = multiway_union g.T.Integer g.I.Draw in
    let gave = c.in_ok-union.ensures.made in
    let made = given-list c.args.streams.items gave.0
    (λ streams. MakesMultiwayUnion g.T.Integer g.I.Draw union streams c.in_ok-union.union)
    gave.1.0 gave.1.3 gave.2 in
    λ runs may. runs_by-within n complement
    (runs_by_all n any_of (length c.args.streams.items)
    (may_give_at g.I.Draw.may_give c.args.streams.items))
    (union.may_give c.in_ok-union.union) made.gives runs (c.complement.ensures.made.gives runs may)
