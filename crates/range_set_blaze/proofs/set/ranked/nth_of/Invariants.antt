-- The runs that were passed lie below the n-th member.
use Rattle.std.proofs.Common.{length}
use Rattle.rsb_storage.specs.Storage.{runs_of}
use Rattle.range_set_blaze.proofs.lemmas.ranking.Counted.{AreLeft}
use Rattle.range_set_blaze.proofs.set.ranked.nth_of.Given as goal

abbrev pub invariant-loop-run : goal.invariant-loop-run
invariant-loop-run g l =
    let rank = g.T.Integer.rank in
    let number = g.T.SafeLen.SafeLength.number in
    AreLeft g.T.Integer.value_count l.fn.runs (runs_of rank l.entries)
    (number l.fn.n) (number l.left)

abbrev pub decreases-loop-run : goal.decreases-loop-run
decreases-loop-run g l = length l.entries
