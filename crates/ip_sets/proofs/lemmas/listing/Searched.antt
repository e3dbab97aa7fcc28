-- The runs of a set that end before a place come first, and the next one decides about the place.
use Rattle.std.proofs.Common.{◌≡◌, ◌∙◌, ℕ, zero, suc, ◌+◌, ◌<◌, ◌≤◌, Bool, true, false, ◌||◌, nat_le, nat_lt, List, [], ◌∷◌, get_or, length, refl, ap, inr, arith}
use Rattle.std.proofs.lemmas.Bool.Decides.{nat_tests}
use Rattle.std.specs.List.Sorted.{IsPartitionedBy, IsPartitionPoint}
use Rattle.range_set_blaze.specs.Runs.{Interval, IsCanonicalFrom, covers, members}
use Rattle.range_set_blaze.proofs.MembersLemmas.{members-below, members-cons, members-tail}
use Rattle.ip_sets.specs.Pairs.{span_of, spans_of}

-- A run that does not end before a place has it if it starts no later.
covers-unless_past : (run : Interval) (place : ℕ) → place ≤ run.last
    → (covers run place || false) ≡ nat_le run.first place
covers-unless_past run place within = grind (arith, nat_tests)

module _ {T : Type 0} (rank : T → ℕ) (place : ℕ) where
  -- Whether a run ends before the place.
  abbrev pub ends_before : T × T → Bool
  ends_before pair = nat_lt (rank pair.1) place

  -- No run ends before the place from which the runs start.
  ends-from : (low : ℕ) (pairs : List (T × T)) (at : ℕ) (default : T × T)
      → IsCanonicalFrom low (spans_of rank pairs) → at < length pairs
      → low ≤ rank (get_or pairs at default).1
  ends-from low [] at default canonical within = absurd (omega (arith, within))
  ends-from low (pair ∷ pairs) zero default canonical within =
      omega (arith, canonical.starts, canonical.in_order)
  ends-from low (pair ∷ pairs) (suc at) default canonical within =
      let later = ends-from (rank pair.1 + 2) pairs at default canonical.rest
      (omega (arith, within)) in
      omega (arith, canonical.starts, canonical.in_order, later)

  -- Runs that end before the place come before all others.
  pub ends-partitioned : (low : ℕ) (pairs : List (T × T)) → IsCanonicalFrom low (spans_of rank pairs)
      → IsPartitionedBy ends_before pairs
  ends-partitioned low [] canonical i j default order within ends =
      absurd (omega (arith, within))
  ends-partitioned low (pair ∷ pairs) canonical zero zero default order within ends = ends
  ends-partitioned low (pair ∷ pairs) canonical zero (suc j) default order within ends =
      let later = ends-from (rank pair.1 + 2) pairs j default canonical.rest
      (omega (arith, within)) in
      grind (arith, nat_tests, later, ends)
  ends-partitioned low (pair ∷ pairs) canonical (suc i) zero default order within ends =
      absurd (omega (arith, order))
  ends-partitioned low (pair ∷ pairs) canonical (suc i) (suc j) default order within ends =
      ends-partitioned (rank pair.1 + 2) pairs canonical.rest i j default (omega (arith, order))
      (omega (arith, within)) ends

  -- Whether the runs that end before the place are those before position `at`.
  abbrev pub EndsBefore : List (T × T) → ℕ → Type 0
  EndsBefore pairs at =
      IsPartitionPoint (λ pair. ends_before pair ≡ true) (λ pair. ends_before pair ≡ false) pairs at

  -- The same without the first run.
  ends_before-tail : (pair : T × T) (pairs : List (T × T)) (at : ℕ)
      → EndsBefore (pair ∷ pairs) (suc at) → EndsBefore pairs at
  ends_before-tail pair pairs at point = (
    (λ k default low below. point.0 (suc k) default (omega arith) (omega (arith, below))),
    (λ k default low below. point.1 (suc k) default (omega (arith, low)) (omega (arith, below))),
  )

  -- The first run ends before the place.
  ends_before-first : (pair : T × T) (pairs : List (T × T)) (at : ℕ)
      → EndsBefore (pair ∷ pairs) (suc at) → rank pair.1 < place
  ends_before-first pair pairs at point =
      let ends = point.0 0 pair (omega arith) (omega arith) in
      grind (arith, nat_tests, ends)

  -- If a run comes next, the place is a member if and only if that run starts no later.
  pub next-decides : (low : ℕ) (pairs : List (T × T)) (at : ℕ) (default : T × T)
      → IsCanonicalFrom low (spans_of rank pairs) → EndsBefore pairs at → at < length pairs
      → members (spans_of rank pairs) place ≡ nat_le (rank (get_or pairs at default).0) place
  next-decides low [] at default canonical point within = absurd (omega (arith, within))
  next-decides low (pair ∷ pairs) zero default canonical point within =
      let ends = point.1 0 pair (omega arith) (omega arith) in
      let reached : place ≤ rank pair.1 = grind (arith, nat_tests, ends) in
      members-cons (span_of rank pair) (spans_of rank pairs) place
      ∙ ap (λ has. covers (span_of rank pair) place || has)
      (members-below (rank pair.1 + 2) (spans_of rank pairs) place canonical.rest
      (omega (arith, reached)))
      ∙ covers-unless_past (span_of rank pair) place reached
  next-decides low (pair ∷ pairs) (suc at) default canonical point within =
      members-tail (span_of rank pair) (spans_of rank pairs) place
      (inr (ends_before-first pair pairs at point))
      ∙ next-decides (rank pair.1 + 2) pairs at default canonical.rest
      (ends_before-tail pair pairs at point) (omega (arith, within))

  -- If no run comes next, the place is no member.
  pub none-decides : (low : ℕ) (pairs : List (T × T)) (at : ℕ)
      → IsCanonicalFrom low (spans_of rank pairs) → EndsBefore pairs at → length pairs ≤ at
      → members (spans_of rank pairs) place ≡ false
  none-decides low [] at canonical point past = refl
  none-decides low (pair ∷ pairs) zero canonical point past = absurd (omega (arith, past))
  none-decides low (pair ∷ pairs) (suc at) canonical point past =
      members-tail (span_of rank pair) (spans_of rank pairs) place
      (inr (ends_before-first pair pairs at point))
      ∙ none-decides (rank pair.1 + 2) pairs at canonical.rest
      (ends_before-tail pair pairs at point) (omega (arith, past))
