use Rattle.std.specs.Iterator.{size}
use Rattle.rsb_streams.specs.Fused.{fuse_remaining}
use Rattle.rsb_streams.proofs.lemmas.unsorted.Loop.{SoFar}
use Rattle.rsb_streams.proofs.unsorted_disjoint.UnsortedDisjointIterator.next.Given as goal

abbrev pub invariant-loop-range : goal.invariant-loop-range
invariant-loop-range g l = SoFar g.T.Integer g.I.Iterator l.fn.self l.self

abbrev pub decreases-loop-range : goal.decreases-loop-range
decreases-loop-range g l = size (fuse_remaining g.I.Iterator.remaining l.self.iter)
