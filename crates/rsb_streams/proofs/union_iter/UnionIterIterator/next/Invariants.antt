use Rattle.std.specs.Iterator.{size}
use Rattle.rsb_streams.specs.PutBack.{put_back}
use Rattle.rsb_streams.proofs.lemmas.joining.Loop.{SoFar}
use Rattle.rsb_streams.proofs.union_iter.UnionIterIterator.next.Given as goal

abbrev pub invariant-loop-range : goal.invariant-loop-range
invariant-loop-range g l = SoFar g.T.Integer g.SS.Draw l.fn.self.iter
    l.self.iter l.start l.end

abbrev pub decreases-loop-range : goal.decreases-loop-range
decreases-loop-range g l = size ((put_back g.T.Integer g.SS.Draw).draws_left l.self.iter)
