use Rattle.std.specs.Iterator.{size}
use Rattle.rsb_streams.proofs.lemmas.questions.Equality.{SameSoFar}
use Rattle.rsb_streams.proofs.sorted_disjoint.DrawDisjoint.equal.Given as goal

abbrev pub invariant-loop-range : goal.invariant-loop-range
invariant-loop-range g l = SameSoFar g.T.Integer g.Self.Draw g.R.Draw
    l.fn.self l.fn.other l.left l.right

abbrev pub decreases-loop-range : goal.decreases-loop-range
decreases-loop-range g l = size (g.Self.Draw.draws_left l.left)
