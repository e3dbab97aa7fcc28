use Rattle.std.proofs.Common.{refl, sym, ◌∙◌}
use Rattle.rsb_many.proofs.lemmas.inputs.Drawn.{refills, refills-none}
use Rattle.rsb_streams.proofs.lemmas.sources.Known.{IsLawful}
use Rattle.rsb_many.proofs.drawn.Drawn.refill.Given.{Over}
use Rattle.rsb_many.proofs.drawn.Drawn.refill.Goals as goal

laws : (g : Over) → IsLawful g.T.Integer g.I.Draw
laws g = record {
  answers = g.met.I.Draw.answers;
  sorted = g.met.I.Draw.sorted;
}

pub returns-in-Some : goal.returns-in-Some
returns-in-Some g c = refills g.T.Integer g.I.Draw (laws g) c.args.self.now c.draw_from.new.self
    c.in-Some.place c.requires (sym c.take.ensures.value ∙ c.in-Some.is)
    (c.draw_from.ensures.used ∙ c.take.ensures.after) c.draw_from.ensures.room
    c.draw_from.ensures.count c.draw_from.ensures.draws c.draw_from.ensures.compared c.draw_from.ensures.counted

pub returns-in_default : goal.returns-in_default
returns-in_default g c = refills-none g.T.Integer g.I.Draw (laws g) c.args.self.now
    (record {
      streams = c.args.self.now.streams;
      heads = c.args.self.now.heads;
      used = c.take.new.self;
    }) c.requires (sym c.take.ensures.value ∙ c.in_default.is) refl refl c.take.ensures.after
