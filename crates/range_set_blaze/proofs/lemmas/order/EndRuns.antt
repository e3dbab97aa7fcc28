-- The least and the greatest member of a set that is stored as its runs, and whether it has any.
use Rattle.std.proofs.Common.{◌≡◌, ◌↔◌, ℕ, zero, suc, ◌+◌, ◌-◌, ◌<◌, ◌≤◌, true, List, [], ◌∷◌, length, get_or, slice_get, Some, refl, sym, ◌∙◌, inl, inr, subst, arith}
use Rattle.std.proofs.lemmas.Bool.{cases_lt}
use Rattle.std.proofs.lemmas.Option.{get_or_from_slice_get, slice_get_within}
use Rattle.std.proofs.lemmas.List.Elements.{All-cons, All-nil}
use Rattle.rsb_integer.specs.Runs.{Interval, members, AllEndBelow, IsCanonical, IsCanonicalFrom, IsCanonicalIn}
use Rattle.rsb_integer.specs.Selection.{Selection, count, IsUniversal, IsEmpty}
use Rattle.rsb_integer.proofs.lemmas.Canonical.{canonical-none}
use Rattle.rsb_integer.proofs.lemmas.Count.{count-all, count-less, count-none, count-within}
use Rattle.rsb_integer.proofs.lemmas.List.{not_both, true_or_false}
use Rattle.rsb_integer.proofs.lemmas.Members.{covers-inside, members-below, members-end, members-head}
use Rattle.rsb_integer.proofs.lemmas.Runs.{canonical-maximal}
use Rattle.rsb_storage.specs.Storage.{IsKept}
use Rattle.rsb_storage.specs.Set.{IsGreatest, IsLeast}
use Rattle.rsb_storage.specs.Starts.{StartsWith}

-- The last run of a canonical list ends at `low` or later, and no run ends after it.
pub ends-last : (low i : ℕ) (runs : List Interval) (run : Interval) → IsCanonicalFrom low runs
    → i + 1 ≡ length runs
    → (low ≤ (get_or runs i run).last) × AllEndBelow ((get_or runs i run).last + 1) runs
ends-last low i [] run canonical last = absurd (omega (arith, last))
ends-last low zero (first ∷ []) run canonical last =
    let starts = canonical.starts in
    let ordered = canonical.in_order in (
      omega arith,
      All-cons (λ (each : Interval). each.last < first.last + 1) first [] (omega arith)
          (All-nil (λ (each : Interval). each.last < first.last + 1)),
    )
ends-last low zero (first ∷ second ∷ runs) run canonical last = absurd (omega (arith, last))
ends-last low (suc i) (first ∷ runs) run canonical last =
    let rest = ends-last (first.last + 2) i runs run canonical.rest (omega (arith, last)) in
    let starts = canonical.starts in
    let ordered = canonical.in_order in
    let past = rest.0 in (
      omega arith,
      All-cons (λ (each : Interval). each.last < (get_or runs i run).last + 1) first runs
          (omega arith) rest.1,
    )

-- No runs and the length 0 represent the empty set.
pub kept-nil : (n kept : ℕ) → kept ≡ 0 → IsKept n [] kept
kept-nil n kept none = record {
  canonical = canonical-none n;
  length = none ∙ sym (count-none n (members []) (λ point below. refl));
}

-- ---- the ends of a set

module _ (n : ℕ) (runs : List Interval) (run : Interval) (canonical : IsCanonicalIn n runs) where
  -- The first run starts with the least member.
  pub first-least : StartsWith runs run → IsLeast n (members runs) run.first
  first-least starts =
      let all = subst (IsCanonicalIn n) starts.parts canonical in
      let maximal = canonical-maximal n 0 (run ∷ starts.rest) all.apart all.within 0 run (omega arith) in
      let ordered = maximal.in_order in
      let below = maximal.in_type in
      rw starts.parts (record {
        in_type = omega arith;
        here = maximal.whole run.first (covers-inside _ _ (omega arith) ordered);
        least = λ other member. elim (cases_lt other run.first) [
          | inl before ↦
              absurd (not_both _ member
              (members-below run.first (run ∷ starts.rest) other
              (record { starts = omega arith; in_order = ordered; rest = all.apart.rest }) before))
          | inr from ↦ from
        ];
      })

  -- The last run ends with the greatest member.
  pub last-greatest : slice_get runs (length runs - 1) ≡ Some run
      → IsGreatest n (members runs) run.last
  last-greatest found =
      let i = length runs - 1 in
      let some = slice_get_within runs i run found in
      let maximal = canonical-maximal n 0 runs canonical.apart canonical.within i run some in
      let ends = ends-last 0 i runs run canonical.apart (omega (arith, some)) in
      let ordered = maximal.in_order in
      subst (λ (each : Interval). IsGreatest n (members runs) each.last)
      (get_or_from_slice_get runs i run run found) (record {
        in_type = maximal.in_type;
        here = maximal.whole (get_or runs i run).last (covers-inside _ _ ordered (omega arith));
        greatest = λ other member. elim (cases_lt (get_or runs i run).last other) [
          | inl past ↦ absurd (not_both _ member (members-end _ runs other ends.1 (omega arith)))
          | inr to ↦ to
        ];
      })

-- A set has no runs exactly if it has no members.
pub nothing-kept : (runs : List Interval) → IsCanonical runs → (runs ≡ []) ↔ IsEmpty (members runs)
nothing-kept [] canonical = ((λ none point. refl), (λ nothing. refl))
nothing-kept (run ∷ runs) canonical =
    let here = members-head run runs run.first (omega arith) canonical.in_order in
    ((λ none. absurd (cc)), (λ nothing. absurd (not_both _ here (nothing _))))

-- A set has n members below n exactly if it has each rank below n.
pub count-everything : (n : ℕ) (selected : Selection)
    → (count n selected ≡ n) ↔ IsUniversal n selected
count-everything n selected = (
  (λ all rank below. elim (true_or_false (selected rank)) [
    | inl here ↦ here
    | inr lacks ↦
        let less = count-less n selected (λ other. true) (λ other member. refl) rank below refl lacks
        in
        absurd (omega (arith, less, count-within n (λ other. true), all))
  ]),
  count-all n selected,
)
