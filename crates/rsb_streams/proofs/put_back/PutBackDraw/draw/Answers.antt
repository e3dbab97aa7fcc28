use Rattle.std.proofs.Common.{◌≡◌, refl, rules}
use Rattle.std.specs.Prelude.{Some, None, is_none}
use Rattle.rsb_streams.proofs.lemmas.merging.PutBack.{drawn-goes, held-goes, told}
use Rattle.rsb_streams.proofs.put_back.PutBackDraw.draw.Goals as goal

-- A range was held.
pub returns-in-Some-clause-steps : goal.returns-in-Some-clause-steps
returns-in-Some-clause-steps g c =
    let held : c.args.self.now.held ≡ Some c.in-Some.range = cc (c.take.ensures.value, c.in-Some.is) in
    record { room = c.take.ensures.after; call = rw held (refl, refl) }

pub returns-in-Some-clause-goes : goal.returns-in-Some-clause-goes
returns-in-Some-clause-goes g c =
    let held : c.args.self.now.held ≡ Some c.in-Some.range = cc (c.take.ensures.value, c.in-Some.is) in
    held-goes g.T.Integer g.I.Draw g.met.I.Draw.sorted c.args.self.now c.take.new.self c.in-Some.range held
    c.take.ensures.after c.requires

-- The source had ended.
pub returns-then-self-clause-steps : goal.returns-then-self-clause-steps
returns-then-self-clause-steps g c =
    let none : c.args.self.now.held ≡ None = cc (c.take.ensures.value, c.in_default.is) in
    record { room = c.take.ensures.after; call = rw (none, c.if-self.true) (refl, refl) }

pub returns-then-self-clause-goes : goal.returns-then-self-clause-goes
returns-then-self-clause-goes g c =
    record { on = λ finite. tt; keeps = tt; rests = λ finite. finite }

-- Nothing was held, and the source had not ended.
pub draw-range-requires : goal.draw-range-requires
draw-range-requires g c = c.requires.callable c.if-self.false

pub returns-clause-steps : goal.returns-clause-steps
returns-clause-steps g c =
    let none : c.args.self.now.held ≡ None = cc (c.take.ensures.value, c.in_default.is) in
    let end : c.is_none-self.result ≡ is_none c.draw-range.result = search rules in
    record {
      room = c.take.ensures.after;
      call = rw (none, c.if-self.false) (c.draw-range.ensures.steps, told c.draw-range.result c.is_none-self.result end);
    }

-- Nothing was held, and the source had not ended.
pub returns-clause-goes : goal.returns-clause-goes
returns-clause-goes g c =
    let none : c.args.self.now.held ≡ None = cc (c.take.ensures.value, c.in_default.is) in
    let end : c.is_none-self.result ≡ is_none c.draw-range.result = search rules in
    drawn-goes g.T.Integer g.I.Draw g.met.I.Draw.sorted c.args.self.now c.take.new.self c.is_none-self.result
    c.draw-range.new.self c.draw-range.result none c.take.ensures.after c.if-self.false end
    c.draw-range.ensures.goes
