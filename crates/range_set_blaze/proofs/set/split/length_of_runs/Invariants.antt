-- The length so far and the lengths of the runs to come add up to those of all runs.
use Rattle.std.proofs.Common.{◌≡◌, ◌+◌, length}
use Rattle.std.specs.List.{sum_by}
use Rattle.rsb_integer.specs.Runs.{length_of, IsCanonicalIn}
use Rattle.rsb_storage.specs.Storage.{runs_of}
use Rattle.range_set_blaze.proofs.set.split.length_of_runs.Given as goal

abbrev pub invariant-loop-run : goal.invariant-loop-run
invariant-loop-run g l =
    let rank = g.T.Integer.rank in
    record {
      canonical : IsCanonicalIn g.T.Integer.value_count (runs_of rank l.entries);
      counted : g.T.SafeLen.SafeLength.number l.length
          + sum_by length_of (runs_of rank l.entries)
          ≡ sum_by length_of l.fn.runs;
    }

abbrev pub decreases-loop-run : goal.decreases-loop-run
decreases-loop-run g l = length l.entries
