-- What a set that is stored as its runs feeds a hasher.
use Rattle.std.proofs.Common.{◌≡◌, ℕ, Bool, zero, suc, true, false, not, cond, ◌+◌, ◌-◌, ◌<◌, ◌≤◌, List, [], ◌∷◌, ◌++◌, append_assoc, refl, sym, ap, ◌∙◌, inl, inr, arith}
use Rattle.std.proofs.lemmas.Bool.{cases_lt}
use Rattle.std.proofs.lemmas.Bool.Decides.{nat_tests}
use Rattle.std.proofs.lemmas.List.{append-nil}
use Rattle.std.proofs.lemmas.List.Elements.{All-tail}
use Rattle.std.specs.Hash.{HashWrites}
use Rattle.std.specs.Prelude.{flat_map, All}
use Rattle.rsb_integer.specs.Runs.{Interval, members, AllEndBelow, IsCanonicalIn, IsMaximalRun}
use Rattle.rsb_integer.specs.Selection.{Selection}
use Rattle.rsb_integer.proofs.lemmas.Members.{covers-inside, members-end}
use Rattle.range_set_blaze.specs.Hash.{selected_before, selected_below, bounds_from, ends_of_runs, run_bounds}
use Rattle.rsb_storage.specs.Storage.{entry_run, runs_of}
use Rattle.range_set_blaze.proofs.lemmas.order.AlongRuns.{made-canonical}

module _ (n : ℕ) (runs : List Interval) (run : Interval)
    (maximal : IsMaximalRun n (members runs) run) (stops : members runs (suc run.last) ≡ false)
  where
    -- The ranks of the run are members.
    here : (rank : ℕ) → run.first ≤ rank → rank ≤ run.last → members runs rank ≡ true
    here rank from to = maximal.whole rank (covers-inside run rank from to)

    -- No member is right before the first rank of the run.
    begins : (rank : ℕ) → rank ≡ run.first → selected_before (members runs) rank ≡ false
    begins zero is = refl
    begins (suc rank) is =
        let at : run.first - 1 ≡ rank = omega arith in
        ap (members runs) (sym at) ∙ maximal.begins_here (omega arith)

    -- From a rank of the run on, the bounds are that rank if the run begins there, the last rank,
    -- and later ones.
    bounds_from-run : (count low : ℕ) (begun : Bool) → low + count ≡ run.last → run.first ≤ low
        → selected_before (members runs) low ≡ begun
        → bounds_from (members runs) low (n - low) ≡ cond (not begun) (low ∷ []) []
        ++ run.last ∷ bounds_from (members runs) (suc run.last) (n - suc run.last)
    unfolding bounds_from
    bounds_from-run zero low begun ends from is =
        let below = maximal.in_type in
        let more : n - low ≡ suc (n - suc run.last) = omega arith in
        let at : low ≡ run.last = omega arith in
        ap (bounds_from (members runs) low) more
        ∙ rw (is, at, here run.last (omega arith) (omega arith), stops)
        (append_assoc (cond (not begun) (run.last ∷ []) []) (run.last ∷ []) _)
    bounds_from-run (suc count) low begun ends from is =
        let below = maximal.in_type in
        let more : n - low ≡ suc (n - suc low) = omega arith in
        ap (bounds_from (members runs) low) more
        ∙ rw (
          is,
          here low from (omega arith),
          here (suc low) (omega arith) (omega arith),
          append-nil (cond (not begun) (low ∷ []) []),
          bounds_from-run count (suc low) true (omega arith) (omega arith) (here low from (omega arith)),
        )
        refl

-- Every member of a list that ends below n is below n.
selected_below-members : (n : ℕ) (runs : List Interval) → AllEndBelow n runs → (rank : ℕ)
    → selected_below n (members runs) rank ≡ members runs rank
selected_below-members n runs within rank = elim (cases_lt rank n) [
  | inl less ↦ grind (arith, nat_tests)
  | inr most ↦ let none = members-end n runs rank within most in grind (arith, nat_tests, none)
]

-- For a canonical list in a type of n values, the bounds are the first and the last ranks of its
-- runs.
pub run_bounds-canonical : (n : ℕ) (runs : List Interval) → IsCanonicalIn n runs
    → run_bounds n (members runs) ≡ ends_of_runs runs
unfolding bounds_from
run_bounds-canonical n runs canonical =
    ap (λ selected. bounds_from selected 0 n)
    (λ i rank. selected_below-members n runs canonical.within rank i)
    ∙ made-canonical (bounds_from (members runs)) n runs (λ run. run.first ∷ run.last ∷ [])
    canonical (λ low. refl) (λ rank left lacks. rw lacks refl) (λ run maximal stops.
    let ordered = maximal.in_order in
    bounds_from-run n runs run maximal stops (run.last - run.first) run.first false (omega arith)
    (omega arith) (begins n runs run maximal stops run.first refl))

module _ {T : Type 0} (rank : T → ℕ) (n : ℕ) (value_at : ℕ → T)
    (placed : (x : T) → rank x < n → value_at (rank x) ≡ x) (fed : T → HashWrites) where
  -- The start and the end of each run feed what the values at their ranks feed.
  pub entries-fed : (selected : Selection) (entries : List (T × T))
      → All (IsMaximalRun n selected) (runs_of rank entries)
      → flat_map (λ entry. fed entry.0 ++ fed entry.1) entries
      ≡ flat_map (λ place. fed (value_at place)) (ends_of_runs (runs_of rank entries))
  entries-fed selected [] maximal = refl
  entries-fed selected (entry ∷ entries) maximal =
      let run = entry_run rank entry in
      let here = maximal 0 run (omega arith) in
      let ordered = here.in_order in
      let below = here.in_type in
      let start = sym (ap fed (placed entry.0 (omega arith))) in
      let end = sym (ap fed (placed entry.1 below)) in
      let rest = entries-fed selected entries
      (All-tail (IsMaximalRun n selected) run (runs_of rank entries) maximal) in
      (λ i. (start i ++ end i) ++ rest i)
      ∙ append_assoc (fed (value_at (rank entry.0))) (fed (value_at (rank entry.1)))
      (flat_map (λ place. fed (value_at place)) (ends_of_runs (runs_of rank entries)))
