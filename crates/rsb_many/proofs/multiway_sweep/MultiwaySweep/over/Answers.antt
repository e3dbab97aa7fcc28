use Rattle.rsb_streams.proofs.lemmas.sources.Known.{IsLawful}
use Rattle.rsb_many.proofs.lemmas.events.Built.{sweeps-over}
use Rattle.rsb_many.proofs.multiway_sweep.MultiwaySweep.over.Given.{Over}
use Rattle.rsb_many.proofs.multiway_sweep.MultiwaySweep.over.Goals as goal

laws : (g : Over) → IsLawful g.T.Integer g.I.Draw
laws g = record {
  answers = g.met.I.Draw.answers;
  sorted = g.met.I.Draw.sorted;
}

-- The list of each stream is touching.
pub returns : goal.returns
returns g c = sweeps-over g.T.Integer g.I.Draw (laws g) c.args.streams.items
    (record { inputs = c.in_ok-over.field-0 }) c.in_ok-over.ensures c.requires.touching
