use Rattle.std.proofs.Common.{map}
use Rattle.std.proofs.lemmas.Result.{IfOk-weaker}
use Rattle.range_set_blaze.specs.MultiwaySweep.{SweepsOver}
use Rattle.range_set_blaze.specs.Sweep.{event_of}
use Rattle.range_set_blaze.proofs.ManySets.{given-list}
use Rattle.rsb_examples.proofs.shifts.timeline.Goals as goal

-- The events that the sweep returns are those of the ranges that its streams give.
pub returns : goal.returns
returns g c =
    let sweep = c.in_ok-new_touching.field-0 in
    let gave = c.in_ok-new_touching.ensures.made in
    let over = given-list c.args.inputs.items gave.0
    (λ streams. SweepsOver g.T.Integer g.I.Draw streams sweep) gave.1.0 gave.1.3 gave.2 in
    IfOk-weaker c.all_of.result _ _ (λ told may. over.gives (map (event_of g.T.Integer.rank)
    told.items) may) c.all_of.ensures
