-- A set has at most as many runs as any list of intervals with its members: an interval starts
-- where each run does.
use Rattle.std.proofs.Common.{◌≡◌, ◌∙◌, ℕ, ◌+◌, ◌-◌, ◌≤◌, true≢false, List, [], ◌∷◌, get_or, length, inl, inr, sym, arith}
use Rattle.std.proofs.lemmas.Bool.{cases_lt}
use Rattle.std.specs.List.{All}
use Rattle.rsb_integer.proofs.lemmas.Runs.{canonical-maximal}
use Rattle.range_set_blaze.specs.Runs.{members, Interval, IsCanonicalFrom, IsCanonicalIn, IsMaximalRun}
use Rattle.range_set_blaze.proofs.MembersLemmas.{covers-bounds, covers-inside, members-from, members-in}
use Rattle.ip_sets.specs.Blocks.{AscendsFrom}
use Rattle.ip_sets.proofs.lemmas.aligned.Fewest.{HasStart, length-starts, starts-length}

-- A canonical list ascends.
canonical-ascends : (low lower : ℕ) (runs : List Interval) → lower ≤ low → IsCanonicalFrom low runs
    → AscendsFrom lower runs
canonical-ascends low lower [] less canonical = tt
canonical-ascends low lower (run ∷ runs) less canonical = (
  omega (arith, less, canonical.starts),
  canonical.in_order,
  canonical-ascends (run.last + 2) (run.last + 1) runs (omega arith) canonical.rest,
)

module _ (n : ℕ) (set others : List Interval)
    (same : (rank : ℕ) → members set rank ≡ members others rank) where
  -- One of the others starts where a run does.
  run-start : (run : Interval) → IsMaximalRun n (members set) run → HasStart others run
  run-start run is =
      let ordered = is.in_order in
      let here = is.whole run.first (covers-inside run run.first (omega arith) ordered) in
      let found = members-in others run.first (sym (same run.first) ∙ here) in
      let bounds = covers-bounds found.0 run.first found.2 in
      let starts : run.first ≤ found.0.first = elim (cases_lt found.0.first run.first) [
        | inl before ↦
            let inside = covers-inside found.0 (run.first - 1) (omega (arith, before))
            (omega (arith, bounds.1)) in
            let selected = same (run.first - 1)
            ∙ members-from others found.0 (run.first - 1) found.1 inside in
            absurd (true≢false (sym selected ∙ is.begins_here (omega (arith, before))))
        | inr from ↦ from
      ] in
      (found.0, found.1, starts, omega (arith, bounds.0, ordered))

  -- There are at most as many runs as others.
  pub few-runs : IsCanonicalIn n set → length set ≤ length others
  few-runs canonical =
      let maximal = canonical-maximal n 0 set canonical.apart canonical.within in
      let starts : All (HasStart others) set = λ place default within.
      run-start (get_or set place default) (maximal place default within) in
      let most = length-starts 0 set others (canonical-ascends 0 0 set (omega arith) canonical.apart)
      starts in
      let count = starts-length 0 others in
      omega (arith, most, count)
