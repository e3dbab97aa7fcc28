use Rattle.rsb_streams.specs.laws.Adapter.{filter-drawn}
use Rattle.rsb_streams.proofs.lemmas.sources.Known.{drawn-call, goes-drawn}
use Rattle.rsb_streams.proofs.std_markers.filter.FilterDraw.draw.Goals as goal

-- The adapter may be called.
pub next-requires : goal.next-requires
next-requires g c = (filter-drawn g.T.Integer g.I.Draw g.I.Iterator g.met.I.Draw.answers
    g.met.I.Draw.sorted c.requires.drawn g.P.FnMut).callable c.args.self.now c.requires

-- A call of `next` is a draw.
pub returns-clause-steps : goal.returns-clause-steps
returns-clause-steps g c =
    drawn-call (filter-drawn g.T.Integer g.I.Draw g.I.Iterator g.met.I.Draw.answers
    g.met.I.Draw.sorted c.requires.drawn g.P.FnMut) _ _ _ c.requires c.next.ensures.steps

pub returns-clause-goes : goal.returns-clause-goes
returns-clause-goes g c =
    goes-drawn _ _ _ (filter-drawn g.T.Integer g.I.Draw g.I.Iterator g.met.I.Draw.answers
    g.met.I.Draw.sorted c.requires.drawn g.P.FnMut).drawable _ _ _ c.next.ensures.goes
