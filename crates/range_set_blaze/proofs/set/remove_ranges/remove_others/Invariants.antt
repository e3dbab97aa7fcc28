-- Only values of the range have been removed, and no run extends past the range.
use Rattle.rsb_storage.specs.Storage.{run_of}
use Rattle.range_set_blaze.specs.RemoveRanges.{IsNarrowed}
use Rattle.range_set_blaze.proofs.set.remove_ranges.remove_others.Given as goal

abbrev pub invariant-loop-run : goal.invariant-loop-run
invariant-loop-run g l =
    IsNarrowed g.T.Integer.value_count (run_of g.T.Integer.rank l.fn.window)
    l.fn.runs l.runs (g.T.SafeLen.SafeLength.number l.length)

abbrev pub decreases-loop-run : goal.decreases-loop-run
decreases-loop-run g l = g.T.SafeLen.SafeLength.number l.length
