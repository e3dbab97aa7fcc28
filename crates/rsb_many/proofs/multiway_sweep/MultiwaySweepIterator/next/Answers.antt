use Rattle.std.proofs.Common.{arith, subst, sym, ◌∙◌}
use Rattle.std.specs.Iterator.{MakesProgress}
use Rattle.rsb_many.specs.Drawn.{Refills, TakesHead}
use Rattle.rsb_many.specs.MultiwaySweep.{events_left, SweepReady, Sweeps}
use Rattle.rsb_many.proofs.lemmas.events.OneEvent.{end-goes, end-known, none-goes, none-known, start-goes, start-known}
use Rattle.rsb_streams.proofs.lemmas.sources.Known.{IsLawful}
use Rattle.rsb_many.proofs.multiway_sweep.MultiwaySweepIterator.next.Given.{Over}
use Rattle.rsb_many.proofs.multiway_sweep.MultiwaySweepIterator.next.Goals as goal

laws : (g : Over) → IsLawful g.T.Integer g.I.Draw
laws g = record {
  answers = g.met.I.Draw.answers;
  sorted = g.met.I.Draw.sorted;
}

-- There is no head.
pub returns-in_err-head-clause-steps : goal.returns-in_err-head-clause-steps
returns-in_err-head-clause-steps g c =
    subst (λ item. Sweeps g.T.Integer g.I.Draw c.args.self.now item
    (record { inputs = c.take.new.self })) (sym c.from_residual.ensures)
    (none-known g.T.Integer g.I.Draw (laws g) c.args.self.now
    (record { inputs = c.take.new.self }) c.refill.new.self c.requires c.refill.ensures
    c.in_err-head.ensures.taken c.in_err-head.ensures.compared c.in_err-head.ensures.counted)

pub returns-in_err-head-clause-goes : goal.returns-in_err-head-clause-goes
returns-in_err-head-clause-goes g c =
    subst (λ item. MakesProgress (SweepReady {A = g.row.A.Denot} g.T.Integer g.I.Draw)
    (events_left g.T.Integer g.I.Draw) c.args.self.now item (record { inputs = c.take.new.self }))
    (sym c.from_residual.ensures)
    (none-goes g.T.Integer g.I.Draw (laws g) c.args.self.now
    (record { inputs = c.take.new.self }) c.refill.new.self c.requires c.refill.ensures
    c.in_err-head.ensures.taken)

-- The range of the head ends.
pub returns-then-is_started-clause-steps : goal.returns-then-is_started-clause-steps
returns-then-is_started-clause-steps g c =
    rw (c.end.ensures, c.input.ensures)
    (end-known g.T.Integer g.I.Draw (laws g) c.args.self.now
    (record { inputs = c.take.new.self }) c.refill.new.self c.requires c.refill.ensures
    c.in_ok-head.head c.in_ok-head.ensures.taken (sym c.is_started.ensures ∙ c.if-is_started.true)
    c.in_ok-head.ensures.compared c.in_ok-head.ensures.counted)

pub returns-then-is_started-clause-goes : goal.returns-then-is_started-clause-goes
returns-then-is_started-clause-goes g c =
    rw (c.end.ensures, c.input.ensures)
    (end-goes g.T.Integer g.I.Draw (laws g) c.args.self.now
    (record { inputs = c.take.new.self }) c.refill.new.self c.requires c.refill.ensures
    c.in_ok-head.head c.in_ok-head.ensures.taken (sym c.is_started.ensures ∙ c.if-is_started.true))

-- There is room for the head that was taken out.
pub put_back-requires-clause-room : goal.put_back-requires-clause-room
put_back-requires-clause-room g c =
    let filled : Refills g.T.Integer g.I.Draw c.args.self.now.inputs c.refill.new.self =
    c.refill.ensures in
    let takes : TakesHead g.T.Integer g.I.Draw c.refill.new.self c.in_ok-head.head c.take.new.self =
    c.in_ok-head.ensures.taken in
    let ready = filled.ready in
    omega (arith, takes.taken.count, ready.room.few, ready.room.room, takes.room)

-- The range of the head starts.
pub returns-clause-steps : goal.returns-clause-steps
returns-clause-steps g c =
    rw c.input-2.ensures
    (start-known g.T.Integer g.I.Draw (laws g) c.args.self.now
    (record { inputs = c.put_back.new.self }) c.refill.new.self c.requires c.refill.ensures
    c.in_ok-head.head c.take.new.self c.in_ok-head.ensures.taken c.put_back.ensures.back
    (sym c.is_started.ensures ∙ c.if-is_started.false) c.range.result c.range.ensures
    c.in_ok-head.ensures.compared c.put_back.ensures.compared c.in_ok-head.ensures.counted
    c.put_back.ensures.counted)

pub returns-clause-goes : goal.returns-clause-goes
returns-clause-goes g c =
    rw c.input-2.ensures
    (start-goes g.T.Integer g.I.Draw (laws g) c.args.self.now
    (record { inputs = c.put_back.new.self }) c.refill.new.self c.requires c.refill.ensures
    c.in_ok-head.head c.take.new.self c.in_ok-head.ensures.taken c.put_back.ensures.back
    (sym c.is_started.ensures ∙ c.if-is_started.false) c.range.result)
