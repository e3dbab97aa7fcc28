use Rattle.range_set_blaze.specs.Algebra.{AddsItems}
use Rattle.range_set_blaze.specs.Lent.{pointed_to}
use Rattle.range_set_blaze.proofs.set.collect.by_reference.RangeSetBlazeExtendRefRangeInclusive.extend.Given as goal

-- The ranges so far are added.
abbrev pub invariant-loop-range : goal.invariant-loop-range
invariant-loop-range g l =
    AddsItems g.T.Integer.rank l.fn.self (pointed_to l.yielded) l.self
