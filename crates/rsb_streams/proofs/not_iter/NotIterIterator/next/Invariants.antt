use Rattle.std.specs.Iterator.{size}
use Rattle.rsb_streams.proofs.lemmas.gaps.Loop.{SoFar}
use Rattle.rsb_streams.proofs.not_iter.NotIterIterator.next.Given as goal

abbrev pub invariant-loop-self : goal.invariant-loop-self
invariant-loop-self g l = SoFar g.T.Integer g.I.Draw l.fn.self l.self

abbrev pub decreases-loop-self : goal.decreases-loop-self
decreases-loop-self g l = size (g.I.Draw.draws_left l.self.iter)
