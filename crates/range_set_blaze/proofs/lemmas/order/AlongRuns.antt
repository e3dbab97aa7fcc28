-- A list that is built rank by rank is also built run by run, if a canonical list has the ranks.
use Rattle.std.proofs.Common.{◌≡◌, ℕ, zero, suc, false, ◌+◌, ◌-◌, ◌<◌, ◌≤◌, List, [], ◌∷◌, ◌++◌, ◌∙◌, refl, ap, inr, arith}
use Rattle.std.proofs.lemmas.List.Elements.{All-tail}
use Rattle.std.specs.Prelude.{flat_map, All}
use Rattle.rsb_integer.specs.Runs.{Interval, members, IsCanonicalFrom, IsCanonicalIn, IsMaximalRun}
use Rattle.rsb_integer.proofs.lemmas.Canonical.{canonical-lower}
use Rattle.rsb_integer.proofs.lemmas.Members.{members-below, members-tail}
use Rattle.rsb_integer.proofs.lemmas.Runs.{canonical-maximal}

-- `made low more` is what is built from `more` ranks, starting at `low`. Ranks outside the
-- canonical list `whole` add nothing to it, and each run of that list adds `of run`.
module _ (made : ℕ → ℕ → List ℕ) (n : ℕ) (whole : List Interval) (of : Interval → List ℕ)
    (canonical : IsCanonicalIn n whole) (ended : (low : ℕ) → made low 0 ≡ [])
    (outside : (rank left : ℕ) → members whole rank ≡ false
    → made rank (suc left) ≡ made (suc rank) left)
    (run-made : (run : Interval) → IsMaximalRun n (members whole) run
    → members whole (suc run.last) ≡ false
    → made run.first (n - run.first) ≡ of run ++ made (suc run.last) (n - suc run.last)) where
  -- A gap adds nothing.
  made-passed : (low more gap high rest : ℕ) → low + gap ≡ high → more ≡ gap + rest
      → ((rank : ℕ) → low ≤ rank → rank < high → members whole rank ≡ false)
      → made low more ≡ made high rest
  made-passed low more zero high rest ends all lacks =
      let at : low ≡ high = omega arith in
      let left : more ≡ rest = omega arith in
      λ i. made (at i) (left i)
  made-passed low zero (suc gap) high rest ends all lacks = absurd (omega arith)
  made-passed low (suc more) (suc gap) high rest ends all lacks =
      outside low more (lacks low (omega arith) (omega arith))
      ∙ made-passed (suc low) more gap high rest (omega arith) (omega arith)
      (λ rank past. lacks rank (omega arith))

  -- From `low` on, the runs that are left add their lists.
  made-from : (low more : ℕ) (runs : List Interval) → low + more ≡ n → IsCanonicalFrom low runs
      → All (IsMaximalRun n (members whole)) runs
      → ((rank : ℕ) → low ≤ rank → members whole rank ≡ members runs rank)
      → made low more ≡ flat_map of runs
  made-from low more [] all from maximal same =
      made-passed low more more n 0 all (omega arith) (λ rank past to. same rank past) ∙ ended n
  made-from low more (run ∷ runs) all from maximal same =
      let starts = from.starts in
      let here = maximal 0 run (omega arith) in
      let below = here.in_type in
      let ordered = here.in_order in
      let later : (rank : ℕ) → run.last < rank → members whole rank ≡ members runs rank =
      λ rank past. same rank (omega arith) ∙ members-tail run runs rank (inr past) in
      made-passed low more (run.first - low) run.first (n - run.first) (omega arith) (omega arith)
      (λ rank past to. same rank past
      ∙ members-below run.first (run ∷ runs) rank
      (record { starts = omega arith; in_order = ordered; rest = from.rest }) to)
      ∙ run-made run here (later (suc run.last) (omega arith)
      ∙ members-below (run.last + 2) runs (suc run.last) from.rest (omega arith))
      ∙ ap (λ rest. of run ++ rest)
      (made-from (suc run.last) (n - suc run.last) runs (omega arith)
      (canonical-lower (run.last + 2) (suc run.last) runs (omega arith) from.rest)
      (All-tail (IsMaximalRun n (members whole)) run runs maximal)
      (λ rank past. later rank (omega arith)))

  -- From 0 on, all runs of the list add theirs.
  pub made-canonical : made 0 n ≡ flat_map of whole
  made-canonical =
      made-from 0 n whole (omega arith) canonical.apart
      (canonical-maximal n 0 whole canonical.apart canonical.within) (λ rank past. refl)
