-- How many runs a set has after a call.
use Rattle.std.proofs.Common.{ℕ, ◌<◌, ◌≤◌, List, arith}
use Rattle.std.proofs.lemmas.Bool.Decides.{nat_tests}
use Rattle.rsb_integer.specs.Runs.{Interval, covers, from_to, members, IsCanonicalIn}
use Rattle.rsb_integer.specs.Selection.{difference, union}
use Rattle.rsb_integer.proofs.lemmas.RunCount.{runs-with_interval, runs-without_interval}
use Rattle.rsb_integer.proofs.lemmas.Runs.{canonical-runs, runs-from_canonical}
use Rattle.rsb_streams.specs.RunCount.{HasOneRunMoreAtMost}
use Rattle.rsb_storage.specs.Set.{only, Adds, Removes}

module _ (n : ℕ) (old new : List Interval) (before : IsCanonicalIn n old)
    (after : IsCanonicalIn n new) where
  -- Adding the ranks of a run makes at most one run more.
  pub run_count-added : (run : Interval) → run.first ≤ run.last → run.last < n
      → Adds old new (covers run) → HasOneRunMoreAtMost old new
  run_count-added run ordered below adds =
      runs-with_interval n (members old) run old new ordered below
      (canonical-runs n old before.apart before.within)
      (runs-from_canonical n (union (members old) (covers run)) new after.apart after.within
      (λ rank within. adds rank))

  -- Removing the ranks of a run makes at most one run more.
  pub run_count-without : (run : Interval) → run.first ≤ run.last → run.last < n
      → Removes old new (covers run) → HasOneRunMoreAtMost old new
  run_count-without run ordered below removes =
      runs-without_interval n (members old) run old new ordered below
      (canonical-runs n old before.apart before.within)
      (runs-from_canonical n (difference (members old) (covers run)) new after.apart after.within
      (λ rank within. removes rank))

  -- Removing one rank makes at most one run more.
  pub run_count-removed : (point : ℕ) → point < n → Removes old new (only point)
      → HasOneRunMoreAtMost old new
  run_count-removed point below removes =
      run_count-without (from_to point point) (omega arith) below
      (λ rank. let gone = removes rank in grind (arith, nat_tests))
