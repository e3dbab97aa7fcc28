use Rattle.range_set_blaze.specs.Algebra.{AddsValues}
use Rattle.range_set_blaze.specs.Lent.{pointed_to}
use Rattle.range_set_blaze.proofs.set.collect.by_reference.RangeSetBlazeExtendRef.extend.Given as goal

-- The values so far are added.
abbrev pub invariant-loop-value : goal.invariant-loop-value
invariant-loop-value g l =
    AddsValues g.T.Integer.rank l.fn.self (pointed_to l.yielded) l.self
