use Rattle.rsb_streams.proofs.lemmas.questions.FirstItems.{tells-nothing}
use Rattle.rsb_streams.proofs.lemmas.sources.Known.{IsLawful}
use Rattle.rsb_streams.proofs.sorted_disjoint.DrawDisjoint.is_empty.Given.{Over}
use Rattle.rsb_streams.proofs.sorted_disjoint.DrawDisjoint.is_empty.Goals as goal

laws : (g : Over) → IsLawful g.T.Integer g.Self.Draw
laws g = record { answers = g.met.Self.Draw.answers; sorted = g.met.Self.Draw.sorted }

pub returns : goal.returns
returns g c =
    tells-nothing g.T.Integer g.Self.Draw (laws g) c.args.self
    c.draw.new.self
    c.requires c.draw.result c.is_none.result c.draw.ensures.steps c.draw.ensures.goes
    c.is_none.ensures
