-- The gaps that were passed are too short.
use Rattle.std.proofs.Common.{length}
use Rattle.rsb_storage.specs.Storage.{runs_of}
use Rattle.range_set_blaze.proofs.lemmas.fitting.FirstFits.{free_from, AreGapsPassed}
use Rattle.range_set_blaze.proofs.set.first_fit.first_between.Given as goal

abbrev pub invariant-loop-run : goal.invariant-loop-run
invariant-loop-run g l =
    let rank = g.T.Integer.rank in
    AreGapsPassed g.T.Integer.value_count (free_from (rank l.fn.from) (runs_of rank l.fn.entries))
    (g.T.SafeLen.SafeLength.number l.len) (rank l.start) (runs_of rank l.entries)

abbrev pub decreases-loop-run : goal.decreases-loop-run
decreases-loop-run g l = length l.entries
