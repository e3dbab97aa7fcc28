use Rattle.std.proofs.Common.{arith}
use Rattle.rsb_many.proofs.lemmas.inputs.Begun.{begun-all, begun-can, begun-first, begun-next, begun-none}
use Rattle.rsb_streams.proofs.lemmas.sources.Known.{IsLawful}
use Rattle.rsb_many.proofs.drawn.Drawn.begin.Given.{Over}
use Rattle.rsb_many.proofs.drawn.Drawn.begin.Goals as goal

laws : (g : Over) → IsLawful g.T.Integer g.I.Draw
laws g = record {
  answers = g.met.I.Draw.answers;
  sorted = g.met.I.Draw.sorted;
}

pub loop-place-init : goal.loop-place-init
loop-place-init g c = begun-first g.T.Integer g.I.Draw (laws g) c.args.self.now c.requires.can
    c.requires.none c.requires.used c.requires.room

pub draw_from-requires-clause-ready : goal.draw_from-requires-clause-ready
draw_from-requires-clause-ready g c = begun-can g.T.Integer g.I.Draw (laws g)
    c.args.self.now.streams.items c.loop-place.place c.loop-place.self c.loop-place.invariant
    (omega (arith, c.loop-place-test.true, c.len.ensures))

pub draw_from-requires-clause-none : goal.draw_from-requires-clause-none
draw_from-requires-clause-none g c = begun-none g.T.Integer g.I.Draw (laws g) _ c.loop-place.place
    c.loop-place.self c.loop-place.invariant (omega (arith, c.loop-place-test.true, c.len.ensures))

pub loop-place-preserved : goal.loop-place-preserved
loop-place-preserved g c = begun-next g.T.Integer g.I.Draw (laws g) c.args.self.now.streams.items
    c.loop-place.place c.loop-place.self c.draw_from.new.self c.loop-place.invariant
    (omega (arith, c.loop-place-test.true, c.len.ensures)) c.draw_from.ensures.draws c.draw_from.ensures.used c.draw_from.ensures.room
    c.draw_from.ensures.count

pub returns : goal.returns
returns g c = begun-all g.T.Integer g.I.Draw (laws g) c.args.self.now.streams.items
    c.loop-place.place c.loop-place.self c.loop-place.invariant (omega (arith, c.loop-place-test.false, c.len.ensures))
