-- The ranks in an odd number of the ranges of two streams, and the symmetric difference of both.
use Rattle.std.proofs.Common.{◌≡◌, ℕ, Bool, true, false, cond, not, ◌+◌, ◌<◌, ◌≤◌, List, [], ◌∷◌, refl, sym, ap, ◌∙◌, inl, inr, arith}
use Rattle.rsb_integer.specs.Runs.{Interval, IsCanonicalFrom, cover, covers, members}
use Rattle.rsb_integer.specs.Selection.{exclusive_or, symmetric_difference}
use Rattle.rsb_integer.proofs.lemmas.Members.{covers-cases, covers-outside, members-below, members-head, members-tail}
use Rattle.rsb_integer.proofs.lemmas.Runs.{runs-along}
use Rattle.rsb_streams.specs.OddPieces.{oddly_covered, ArePieces, IsTwofold, IsTwoDeep}
use Rattle.rsb_streams.specs.laws.Stream.{settled_le}
use Rattle.rsb_streams.specs.Stream.{Outcomes, ◌⊆◌, HasSortedStarts, IsMergeOf, SomeOutcomes, joined_runs, merges, runs_by_two}

-- ---- a canonical list

-- No interval of a canonical list has a rank below the start of the list.
cover-below : (low : ℕ) (runs : List Interval) (rank : ℕ) → IsCanonicalFrom low runs → rank < low
    → cover runs rank ≡ 0
cover-below low [] rank canonical below = refl
cover-below low (run ∷ runs) rank canonical below =
    let starts = canonical.starts in
    let ordered = canonical.in_order in
    let first : ◌≡◌ {A = ℕ} (cond (covers run rank) 1 0) 0 =
    ap (λ test. cond test 1 0) (covers-outside run rank (inl (omega arith))) in
    let rest = cover-below (run.last + 2) runs rank canonical.rest (omega arith) in
    omega (arith, first, rest)

-- No rank is in more than one interval of a canonical list.
canonical-cover : (low : ℕ) (runs : List Interval) (rank : ℕ) → IsCanonicalFrom low runs
    → cover runs rank ≤ 1
canonical-cover low [] rank canonical = omega arith
canonical-cover low (run ∷ runs) rank canonical = elim (covers-cases run rank) [
  | inl inside ↦
      let last = inside.1 in
      let first : ◌≡◌ {A = ℕ} (cond (covers run rank) 1 0) 1 =
      ap (λ test. cond test 1 0) inside.2 in
      let rest = cover-below (run.last + 2) runs rank canonical.rest (omega arith) in
      omega (arith, first, rest)
  | inr outside ↦
      let first : ◌≡◌ {A = ℕ} (cond (covers run rank) 1 0) 0 =
      ap (λ test. cond test 1 0) outside.1 in
      let rest = canonical-cover (run.last + 2) runs rank canonical.rest in
      omega (arith, first, rest)
]

-- So its members are the ranks in an odd number of its intervals.
canonical-odd : (low : ℕ) (runs : List Interval) (rank : ℕ) → IsCanonicalFrom low runs
    → oddly_covered runs rank ≡ members runs rank
canonical-odd low [] rank canonical = refl
canonical-odd low (run ∷ runs) rank canonical = elim (covers-cases run rank) [
  | inl inside ↦
      let last = inside.1 in
      ap (λ test. exclusive_or test (oddly_covered runs rank)) inside.2
      ∙ ap not (canonical-odd (run.last + 2) runs rank canonical.rest
      ∙ members-below (run.last + 2) runs rank canonical.rest (omega arith))
      ∙ sym (members-head run runs rank inside.0 inside.1)
  | inr outside ↦
      ap (λ test. exclusive_or test (oddly_covered runs rank)) outside.1
      ∙ canonical-odd (run.last + 2) runs rank canonical.rest
      ∙ sym (members-tail run runs rank outside.0)
]

-- ---- a merge

-- A rank is in a merge as often as in both lists together.
cover-merge : (left right runs : List Interval) (rank : ℕ) → IsMergeOf left right runs
    → cover runs rank ≡ cover left rank + cover right rank
cover-merge left right [] rank merged = rw (merged.0, merged.1) refl
cover-merge left right (run ∷ runs) rank merged = elim merged [
  | inl from_left ↦
      let rest = cover-merge from_left.0 right runs rank from_left.2 in
      rw from_left.1 (omega (arith, rest))
  | inr from_right ↦
      let rest = cover-merge left from_right.0 runs rank from_right.2 in
      rw from_right.1 (omega (arith, rest))
]

-- Exclusive or is associative.
pub xor-assoc : (a b c : Bool)
    → exclusive_or a (exclusive_or b c) ≡ exclusive_or (exclusive_or a b) c
xor-assoc true true true = refl
xor-assoc true true false = refl
xor-assoc true false c = refl
xor-assoc false b c = refl

-- The first two of three operands of exclusive or can change places.
xor-swap : (a b c : Bool) → exclusive_or a (exclusive_or b c) ≡ exclusive_or b (exclusive_or a c)
xor-swap true true c = refl
xor-swap true false c = refl
xor-swap false true c = refl
xor-swap false false c = refl

-- A rank is in an odd number of a merge's intervals if it is in an odd number of those of exactly
-- one list.
odd-merge : (left right runs : List Interval) (rank : ℕ) → IsMergeOf left right runs
    → oddly_covered runs rank ≡ exclusive_or (oddly_covered left rank) (oddly_covered right rank)
odd-merge left right [] rank merged = rw (merged.0, merged.1) refl
odd-merge left right (run ∷ runs) rank merged = elim merged [
  | inl from_left ↦
      let rest = from_left.0 in
      rw from_left.1 (ap (λ test. exclusive_or (covers run rank) test)
      (odd-merge rest right runs rank from_left.2)
      ∙ xor-assoc (covers run rank) (oddly_covered rest rank) (oddly_covered right rank))
  | inr from_right ↦
      let rest = from_right.0 in
      rw from_right.1 (ap (λ test. exclusive_or (covers run rank) test)
      (odd-merge left rest runs rank from_right.2)
      ∙ xor-swap (covers run rank) (oddly_covered left rank) (oddly_covered rest rank))
]

-- ---- a merge of two canonical lists

module _ (left right runs : List Interval) (first : IsCanonicalFrom 0 left)
    (second : IsCanonicalFrom 0 right) (merged : IsMergeOf left right runs) where
  -- No rank is in more than two ranges of their merge.
  pub merge-deep : IsTwoDeep runs
  merge-deep rank =
      let one = canonical-cover 0 left rank first in
      let other = canonical-cover 0 right rank second in
      let both = cover-merge left right runs rank merged in
      omega (arith, one, other, both)

  -- A rank is in an odd number of the ranges if it is a member of exactly one list.
  pub merge-odd : (rank : ℕ)
      → oddly_covered runs rank ≡ symmetric_difference (members left) (members right) rank
  merge-odd rank =
      odd-merge left right runs rank merged
      ∙ ap (λ test. exclusive_or test (oddly_covered right rank)) (canonical-odd 0 left rank first)
      ∙ ap (λ test. exclusive_or (members left rank) test) (canonical-odd 0 right rank second)

-- The joined pieces of a merge are the runs of the symmetric difference.
pub symmetric-of_merge : (n : ℕ) (P Q Pieces : Outcomes) → P ⊆ IsCanonicalFrom 0
    → Q ⊆ IsCanonicalFrom 0
    → ((pieces : List Interval) → Pieces pieces → SomeOutcomes P Q (λ left right.
    (runs : List Interval) × IsMergeOf left right runs × ArePieces n (oddly_covered runs) pieces))
    → joined_runs n Pieces ⊆ runs_by_two n symmetric_difference P Q
symmetric-of_merge n P Q Pieces first second comes runs may = λ nothing. may (λ pieces at all.
    comes pieces at (λ left right might also merge.
    nothing left right might also
    (runs-along n (members pieces) (symmetric_difference (members left) (members right)) runs
    (λ rank within. merge.2.same rank within
    ∙ merge-odd left right merge.0 (first left might) (second right also) merge.1 rank) all)))

-- If two streams are canonical, each merge of what they give satisfies `IsTwofold`.
pub merges-twofold : (n : ℕ) (P Q : Outcomes) → P ⊆ IsCanonicalFrom 0 → Q ⊆ IsCanonicalFrom 0
    → (runs : List Interval) → merges n P Q runs → HasSortedStarts n runs → IsTwofold n runs
merges-twofold n P Q first second runs may sorted = record {
  sorted = sorted;
  deep = λ rank. settled_le (cover runs rank) 2 (λ fails. may (λ left right might also merge.
      fails (merge-deep left right runs (first left might) (second right also) merge.1 rank)));
}
