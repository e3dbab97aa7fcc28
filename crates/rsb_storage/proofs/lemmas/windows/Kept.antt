-- A window as the run that is held and the entries that follow.
use Rattle.std.proofs.Common.{◌≡◌, ℕ, ◌≤◌, List, ◌∷◌, sym, subst, Option, Some, None, MatchOption}
use Rattle.rsb_integer.specs.Rank.{intervals_of}
use Rattle.rsb_integer.specs.Runs.{Interval, covers, members, IsCanonicalIn}
use Rattle.rsb_integer.specs.Selection.{intersection}
use Rattle.rsb_storage.specs.Storage.{run_of, runs_of}
use Rattle.rsb_storage.specs.Set.{IsSetOf}
use Rattle.rsb_storage.specs.Split.{NoneOver}
use Rattle.rsb_storage.specs.Windows.{ranges_up_to, starting_within, with_held, IsWindow, ReachesIn}
use Rattle.rsb_storage.specs.declared.run.Run.{Run}
use Rattle.rsb_storage.proofs.lemmas.windows.Parts.{window-canonical, window-members, window-none, window-reached}
use Rattle.rsb_storage.proofs.lemmas.windows.Ranges.{intervals_of-ranges_up_to}

module _ {T : Type 0} (rank : T → ℕ) (n : ℕ) (runs : List Interval) (canonical : IsCanonicalIn n runs)
    (window : Run T) (order : rank window.start ≤ rank window.end) where
  -- The held part, if there is one, and the runs that start in the window form the window.
  held-window : (held : Option (Run T)) (entries : List (T × T))
      → MatchOption held (NoneOver runs (rank window.start))
      (λ part. ReachesIn runs (rank window.start) (run_of rank part))
      → runs_of rank entries ≡ starting_within (rank window.start) (rank window.end) runs
      → IsWindow n runs (rank window.start) (rank window.end) (runs_of rank (with_held held entries))
  held-window None entries none are =
      subst (IsWindow n runs (rank window.start) (rank window.end)) (sym are)
      (window-none n runs canonical (rank window.start) (rank window.end) order none)
  held-window (Some part) entries reaches are =
      subst (λ (rest : List Interval). IsWindow n runs (rank window.start) (rank window.end)
      (run_of rank part ∷ rest)) (sym are)
      (window-reached n runs canonical (rank window.start) (rank window.end) order
      (run_of rank part) reaches)

  module _ (held : Option (Run T)) (entries : List (T × T))
      (reaches : MatchOption held (NoneOver runs (rank window.start))
      (λ part. ReachesIn runs (rank window.start) (run_of rank part)))
      (are : runs_of rank entries ≡ starting_within (rank window.start) (rank window.end) runs) where
    abbrev ranges : List Interval
    ranges = intervals_of rank (ranges_up_to rank window.end (with_held held entries))

    -- So their ranges are canonical.
    pub held-canonical : IsCanonicalIn n ranges
    held-canonical =
        rw (intervals_of-ranges_up_to rank window.end (with_held held entries))
        (window-canonical n runs (rank window.start) (rank window.end) _
        (held-window held entries reaches are))

    -- These ranges have the members in the window.
    pub held-members : IsSetOf ranges (intersection (members runs) (covers (run_of rank window)))
    held-members point =
        rw (intervals_of-ranges_up_to rank window.end (with_held held entries))
        (window-members n runs (rank window.start) (rank window.end) _
        (held-window held entries reaches are) point)
