-- A sublist of intervals satisfies the laws that the list satisfies.
use Rattle.std.proofs.Common.{ℕ, zero, suc, ◌+◌, ◌<◌, List, [], ◌∷◌, ◌++◌, take, drop, refl, inl, inr, arith}
use Rattle.std.proofs.lemmas.List.Elements.{All-cons, All-head, All-nil, All-tail}
use Rattle.rsb_integer.specs.Runs.{Interval, AllEndBelow, IsCanonicalFrom, IsCanonicalIn}
use Rattle.rsb_integer.proofs.lemmas.Canonical.{canonical-lower}
use Rattle.rsb_streams.specs.laws.Stream.{sorted-lower}
use Rattle.rsb_streams.specs.Stream.{HasSortedStarts, HasSortedStartsFrom}
use Rattle.rsb_streams.specs.Sublists.{IsSublist}

module _ {X : Type 0} where
  -- The empty list is a sublist of every list.
  pub sublist-none : (all : List X) → IsSublist [] all
  sublist-none [] = refl
  sublist-none (first ∷ others) = inl (sublist-none others)

  -- Every list is a sublist of itself.
  pub sublist-all : (all : List X) → IsSublist all all
  sublist-all [] = refl
  sublist-all (first ∷ others) = inr (others, refl, sublist-all others)

  -- A sublist of a list is a sublist of that list with others before it.
  pub sublist-after : (others items all : List X) → IsSublist items all
      → IsSublist items (others ++ all)
  sublist-after [] items all sub = sub
  sublist-after (first ∷ others) items all sub = inl (sublist-after others items all sub)

  -- A prefix of a list is a sublist of it.
  pub sublist-front : (items rest : List X) → IsSublist items (items ++ rest)
  sublist-front [] rest = sublist-none rest
  sublist-front (first ∷ items) rest = inr (items, refl, sublist-front items rest)

  -- The first items of a list, up to the given number, are a sublist of it.
  pub sublist-take : (count : ℕ) (all : List X) → IsSublist (take count all) all
  sublist-take zero all = sublist-none all
  sublist-take (suc count) [] = refl
  sublist-take (suc count) (first ∷ others) =
      inr (take count others, refl, sublist-take count others)

  -- The items of a list after the given number of skipped ones are a sublist of it.
  pub sublist-drop : (count : ℕ) (all : List X) → IsSublist (drop count all) all
  sublist-drop zero all = sublist-all all
  sublist-drop (suc count) [] = refl
  sublist-drop (suc count) (first ∷ others) = inl (sublist-drop count others)

-- A sublist of a list sorted by start is sorted by start.
sublist-sorted_from : (n low : ℕ) (kept all : List Interval) → HasSortedStartsFrom n low all
    → IsSublist kept all → HasSortedStartsFrom n low kept
sublist-sorted_from n low kept [] sorted sub = rw sub tt
sublist-sorted_from n low kept (run ∷ all) sorted sub = elim sub [
  | inl without ↦ sorted-lower n run.first low kept sorted.starts
      (sublist-sorted_from n run.first kept all sorted.rest without)
  | inr taken ↦ rw taken.1 (record {
    starts = sorted.starts;
    in_order = sorted.in_order;
    in_type = sorted.in_type;
    rest = sublist-sorted_from n run.first taken.0 all sorted.rest taken.2;
  })
]

pub sublist-sorted : (n : ℕ) (kept all : List Interval) → HasSortedStarts n all
    → IsSublist kept all → HasSortedStarts n kept
sublist-sorted n = sublist-sorted_from n 0

-- A sublist of a canonical list is canonical.
sublist-canonical_from : (low : ℕ) (kept all : List Interval) → IsCanonicalFrom low all
    → IsSublist kept all → IsCanonicalFrom low kept
sublist-canonical_from low kept [] canonical sub = rw sub tt
sublist-canonical_from low kept (run ∷ all) canonical sub = elim sub [
  | inl without ↦
      let starts = canonical.starts in
      let ordered = canonical.in_order in
      canonical-lower (run.last + 2) low kept (omega arith)
      (sublist-canonical_from (run.last + 2) kept all canonical.rest without)
  | inr taken ↦ rw taken.1 (record {
    starts = canonical.starts;
    in_order = canonical.in_order;
    rest = sublist-canonical_from (run.last + 2) taken.0 all canonical.rest taken.2;
  })
]

-- If all intervals of a list end below n, so do those of a sublist.
sublist-below : (n : ℕ) (kept all : List Interval) → AllEndBelow n all → IsSublist kept all
    → AllEndBelow n kept
sublist-below n kept [] below sub = rw sub (All-nil (λ (run : Interval). run.last < n))
sublist-below n kept (run ∷ all) below sub =
    let tail = All-tail (λ (each : Interval). each.last < n) run all below in
    elim sub [
      | inl without ↦ sublist-below n kept all tail without
      | inr taken ↦ rw taken.1
          (All-cons (λ (each : Interval). each.last < n) run taken.0
          (All-head (λ (each : Interval). each.last < n) run all below)
          (sublist-below n taken.0 all tail taken.2))
    ]

pub sublist-canonical : (n : ℕ) (kept all : List Interval) → IsCanonicalIn n all
    → IsSublist kept all → IsCanonicalIn n kept
sublist-canonical n kept all canonical sub = record {
  apart = sublist-canonical_from 0 kept all canonical.apart sub;
  within = sublist-below n kept all canonical.within sub;
}
