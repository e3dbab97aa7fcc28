-- The list is in order if the ranges to come are, and the length is that of those before.
use Rattle.std.proofs.Common.{length}
use Rattle.std.specs.Slice.Iter.{iter_rest}
use Rattle.rsb_integer.specs.Rank.{intervals_of}
use Rattle.rsb_storage.proofs.lemmas.gathering.InOrder.{IsBegun}
use Rattle.range_set_blaze.proofs.set.collect.sorted.length_in_order.Given as goal

abbrev pub invariant-loop-range : goal.invariant-loop-range
invariant-loop-range g l =
    let rank = g.T.Integer.rank in
    IsBegun rank g.T.Integer.value_count (intervals_of rank l.fn.ranges)
    (intervals_of rank (iter_rest l.rest)) l.previous (g.T.SafeLen.SafeLength.number l.length)

abbrev pub decreases-loop-range : goal.decreases-loop-range
decreases-loop-range g l = length (iter_rest l.rest)
