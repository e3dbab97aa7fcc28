-- The runs that were passed are too short.
use Rattle.std.proofs.Common.{length}
use Rattle.rsb_storage.specs.Storage.{runs_of}
use Rattle.range_set_blaze.proofs.lemmas.fitting.FirstFits.{ArePassed}
use Rattle.range_set_blaze.proofs.set.first_fit.long_run.Given as goal

abbrev pub invariant-loop-run : goal.invariant-loop-run
invariant-loop-run g l =
    let rank = g.T.Integer.rank in
    ArePassed g.T.Integer.value_count (g.T.SafeLen.SafeLength.number l.len)
    l.fn.runs (runs_of rank l.entries)

abbrev pub decreases-loop-run : goal.decreases-loop-run
decreases-loop-run g l = length l.entries
