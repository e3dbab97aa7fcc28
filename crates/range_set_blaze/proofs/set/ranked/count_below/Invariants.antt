-- The members of the runs that were passed are counted.
use Rattle.std.proofs.Common.{length}
use Rattle.rsb_storage.specs.Storage.{runs_of}
use Rattle.range_set_blaze.proofs.lemmas.ranking.Counted.{AreCounted}
use Rattle.range_set_blaze.proofs.set.ranked.count_below.Given as goal

abbrev pub invariant-loop-run : goal.invariant-loop-run
invariant-loop-run g l =
    let rank = g.T.Integer.rank in
    AreCounted g.T.Integer.value_count l.fn.runs (runs_of rank l.entries)
    (rank l.value) (g.T.SafeLen.SafeLength.number l.below)

abbrev pub decreases-loop-run : goal.decreases-loop-run
decreases-loop-run g l = length l.entries
