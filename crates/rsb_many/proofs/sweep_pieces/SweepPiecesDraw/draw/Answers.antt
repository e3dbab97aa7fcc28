use Rattle.std.proofs.Common.{refl, sym, Some, None}
use Rattle.rsb_many.proofs.lemmas.pieces.Draw.{draw-ends, draw-last, draw-over, event-can, event-in, piece-goes, piece-known, so_far-more, so_far-nothing}
use Rattle.rsb_many.proofs.sweep_pieces.SweepPiecesDraw.draw.Goals as goal

-- The stream is done, so nothing is left.
pub returns-then-self-clause-steps : goal.returns-then-self-clause-steps
returns-then-self-clause-steps g c =
    draw-over g.T.Integer g.I.Draw c.args.self.now c.if-self.true

pub loop-event-init : goal.loop-event-init
loop-event-init g c =
    so_far-nothing g.T.Integer g.I.Draw c.args.self.now c.if-self.false c.requires

-- The event can be counted.
pub pass-requires-clause-depth : goal.pass-requires-clause-depth
pass-requires-clause-depth g c = event-can g.T.Integer g.I.Draw c.args.self.now
    c.loop-event.self c.loop-event.invariant c.next.new.self c.in-Some.event
    c.in-Some.ensures.steps c.in-Some.ensures.goes

-- It lies in the type.
pub pass-requires-clause-event : goal.pass-requires-clause-event
pass-requires-clause-event g c = event-in g.T.Integer g.I.Draw c.args.self.now
    c.loop-event.self c.loop-event.invariant c.next.new.self c.in-Some.event
    c.in-Some.ensures.steps c.in-Some.ensures.goes

-- A piece ends at the event.
pub returns-in-Some-pass-clause-steps : goal.returns-in-Some-pass-clause-steps
returns-in-Some-pass-clause-steps g c = piece-known g.T.Integer g.I.Draw c.args.self.now
    c.loop-event.self c.loop-event.invariant c.next.new.self c.in-Some.event
    c.in-Some.ensures.steps c.in-Some.ensures.goes (Some c.in-Some-pass.piece) c.pass.new.depth
    c.pass.new.start c.in-Some-pass.ensures c.in-Some-pass.piece refl c.if-self.false

pub returns-in-Some-pass-clause-goes : goal.returns-in-Some-pass-clause-goes
returns-in-Some-pass-clause-goes g c = piece-goes g.T.Integer g.I.Draw c.args.self.now
    c.loop-event.self c.loop-event.invariant c.next.new.self c.in-Some.event
    c.in-Some.ensures.steps c.in-Some.ensures.goes (Some c.in-Some-pass.piece) c.pass.new.depth
    c.pass.new.start c.in-Some-pass.ensures c.in-Some-pass.piece refl c.if-self.false

-- No piece ends at the event.
pub loop-event-preserved : goal.loop-event-preserved
loop-event-preserved g c = so_far-more g.T.Integer g.I.Draw c.args.self.now c.loop-event.self
    c.loop-event.invariant c.next.new.self c.in-Some.event c.in-Some.ensures.steps
    c.in-Some.ensures.goes None c.pass.new.depth c.pass.new.start c.in_default-pass.ensures refl

-- The sweep has ended, and no piece has begun.
pub returns-in_err-start-clause-steps : goal.returns-in_err-start-clause-steps
returns-in_err-start-clause-steps g c = rw c.from_residual.ensures
    (draw-ends g.T.Integer g.I.Draw c.args.self.now c.loop-event.self c.loop-event.invariant
    c.next.new.self c.in_default.ensures.steps c.if-self.false c.take.new.self
    (sym c.in_err-start.ensures.value))

-- A piece has begun, and it extends to the greatest value.
pub returns-clause-steps : goal.returns-clause-steps
returns-clause-steps g c = draw-last g.T.Integer g.I.Draw c.args.self.now c.loop-event.self
    c.loop-event.invariant c.next.new.self c.in_default.ensures.steps c.if-self.false
    c.take.new.self c.in_ok-start.start c.max_value.result (sym c.in_ok-start.ensures.value)
    c.max_value.ensures c.new.result
    (rw (c.new.ensures.exhausted, c.new.ensures.start, c.new.ensures.end) refl)

pub returns-then-self-clause-goes : goal.returns-then-self-clause-goes
returns-then-self-clause-goes g c = record {
  on = λ finite. tt;
  keeps = tt;
  rests = λ finite. finite;
}

pub next-requires : goal.next-requires
next-requires g c = c.loop-event.invariant.ready.sweep

pub pass-requires-clause-start : goal.pass-requires-clause-start
pass-requires-clause-start g c = c.loop-event.invariant.ready.start

pub returns-in_err-start-clause-goes : goal.returns-in_err-start-clause-goes
returns-in_err-start-clause-goes g c = rw c.from_residual.ensures (record {
  on = λ finite. tt;
  keeps = tt;
  rests = λ finite. tt;
})
