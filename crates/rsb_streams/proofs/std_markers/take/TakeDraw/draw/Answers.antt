use Rattle.rsb_streams.specs.laws.Adapter.{take-drawn}
use Rattle.rsb_streams.proofs.lemmas.sources.Known.{drawn-call}
use Rattle.rsb_streams.proofs.std_markers.take.TakeDraw.draw.Goals as goal

-- A call of `next` is a draw.
pub returns-clause-steps : goal.returns-clause-steps
returns-clause-steps g c =
    drawn-call (take-drawn g.T.Integer g.I.Draw g.I.Iterator g.met.I.Draw.answers
    g.met.I.Draw.sorted c.requires.drawn) _ _ _ c.requires c.next.ensures.steps
