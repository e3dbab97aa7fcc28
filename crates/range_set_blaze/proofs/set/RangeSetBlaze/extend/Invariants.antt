use Rattle.range_set_blaze.specs.Algebra.{AddsItems}
use Rattle.range_set_blaze.proofs.set.RangeSetBlaze.extend.Given as goal

abbrev pub invariant-loop-range : goal.invariant-loop-range
invariant-loop-range g l = AddsItems g.T.Integer.rank l.fn.self l.yielded l.self
