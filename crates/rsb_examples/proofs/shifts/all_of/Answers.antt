use Rattle.std.proofs.Common.{[], ◌∷◌, ◌++◌, map, subst, sym}
use Rattle.std.proofs.lemmas.List.{append-nil}
use Rattle.range_set_blaze.specs.MultiwaySweep.{sweep_may_give}
use Rattle.range_set_blaze.specs.Sweep.{event_of}
use Rattle.rsb_examples.proofs.lemmas.Shifts.{told-more}
use Rattle.rsb_examples.proofs.shifts.all_of.Goals as goal

pub loop-event-init : goal.loop-event-init
loop-event-init g c = λ rest may.
    subst (λ items. sweep_may_give g.T.Integer g.I.Draw c.args.sweep
    (map (event_of g.T.Integer.rank) items ++ rest)) (sym c.new-told.ensures.items) may

-- One more event was added to the list.
pub loop-event-preserved : goal.loop-event-preserved
loop-event-preserved g c = λ rest may.
    let f = event_of g.T.Integer.rank in
    subst (sweep_may_give g.T.Integer g.I.Draw c.args.sweep)
    (sym (told-more f c.loop-event.told.items c.push.new.self.items c.in-Some.event rest
    c.in_ok-push.ensures.items))
    (c.loop-event.invariant (f c.in-Some.event ∷ rest) (c.in-Some.ensures.steps.answers rest may))

-- Nothing more comes.
pub returns : goal.returns
returns g c = subst (sweep_may_give g.T.Integer g.I.Draw c.args.sweep)
    (append-nil (map (event_of g.T.Integer.rank) c.loop-event.told.items))
    (c.loop-event.invariant [] c.in_default.ensures.steps.answers)
