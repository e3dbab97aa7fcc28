use Rattle.range_set_blaze.specs.Algebra.{AddsValues}
use Rattle.range_set_blaze.proofs.set.RangeSetBlaze.extend_values.Given as goal

abbrev pub invariant-loop-value : goal.invariant-loop-value
invariant-loop-value g l = AddsValues g.T.Integer.rank l.fn.self l.yielded l.self
