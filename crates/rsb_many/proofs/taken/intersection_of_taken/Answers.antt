use Rattle.std.proofs.lemmas.Result.{IfOk-at_ok, IfOk-from_err, IfOk-weaker}
use Rattle.rsb_many.specs.MultiwayBegun.{BeginsIntersection}
use Rattle.rsb_many.specs.MultiwayResults.{MakesMultiwayIntersection}
use Rattle.rsb_many.specs.MultiwayIntersection.{multiway_intersection}
use Rattle.rsb_many.proofs.lemmas.inputs.GivenList.{given-each, given-list, taken_stream}
use Rattle.rsb_many.proofs.taken.intersection_of_taken.Goals as goal

-- The intersection is of the streams of the list.
pub returns-clause-made : goal.returns-clause-made
returns-clause-made g c =
    let streams = c.in_ok-taken.field-0.items in
    let of = taken_stream g.T.Integer in
    let made = multiway_intersection g.T.Integer of in
    rw c.in_ok-taken.was (IfOk-weaker c.intersection.result _ _ (λ given gave.
    given-list streams gave.0 (λ each. MakesMultiwayIntersection g.T.Integer of made each given)
    gave.1.0 gave.1.3 gave.2) c.intersection.ensures.made)

-- It draws nothing more from them.
pub returns-clause-begun : goal.returns-clause-begun
returns-clause-begun g c =
    let streams = c.in_ok-taken.field-0.items in
    let of = taken_stream g.T.Integer in
    let made = multiway_intersection g.T.Integer of in
    rw c.in_ok-taken.was (IfOk-weaker c.intersection.result _ _ (λ given gave.
    given-list streams gave.0 (λ each. BeginsIntersection g.T.Integer of made each given)
    gave.1.0 gave.1.3 gave.2) c.intersection.ensures.begun)

pub returns-in_err-taken-clause-ready : goal.returns-in_err-taken-clause-ready
returns-in_err-taken-clause-ready g c =
    IfOk-from_err c.from_residual.result _ c.from_residual.ensures.0

pub returns-in_err-taken-clause-made : goal.returns-in_err-taken-clause-made
returns-in_err-taken-clause-made g c =
    IfOk-from_err c.from_residual.result _ c.from_residual.ensures.0

pub returns-in_err-taken-clause-begun : goal.returns-in_err-taken-clause-begun
returns-in_err-taken-clause-begun g c =
    IfOk-from_err c.from_residual.result _ c.from_residual.ensures.0

pub intersection-requires-clause-ends : goal.intersection-requires-clause-ends
intersection-requires-clause-ends g c = λ iter gives. (tt, tt)

pub intersection-requires-clause-can : goal.intersection-requires-clause-can
intersection-requires-clause-can g c = λ iter gives.
    given-each (taken_stream g.T.Integer).can_draw c.in_ok-taken.field-0.items iter
    (IfOk-at_ok _ c.in_ok-taken.was c.requires) gives.0 gives.3

pub returns-clause-ready : goal.returns-clause-ready
returns-clause-ready g c = c.intersection.ensures.ready
