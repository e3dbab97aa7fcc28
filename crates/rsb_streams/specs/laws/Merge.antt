-- The law of a merge: it is sorted by start.
use Rattle.std.proofs.Common.{ℕ, zero, suc, ◌+◌, ◌≤◌, List, [], ◌∷◌, length, refl, inl, inr, arith}
use Rattle.std.proofs.lemmas.Bool.{cases_lt}
use Rattle.std.specs.Iterator.{Count, IsFinite, count_add}
use Rattle.rsb_integer.specs.Runs.{Interval}
use Rattle.rsb_integer.specs.declared.integer.Integer.{Ghosts as Elements}
use Rattle.rsb_integer.proofs.lemmas.List.{true_or_false}
use Rattle.rsb_streams.specs.Merge.{merge}
use Rattle.rsb_streams.specs.laws.Stream.{settled_sorted}
use Rattle.rsb_streams.specs.PutBack.{put_back}
use Rattle.rsb_streams.specs.laws.PutBack.{put_back-sorted}
use Rattle.rsb_streams.specs.Rows.{IsSorted}
use Rattle.rsb_streams.specs.Stream.{Outcomes, merges, HasSortedStarts, HasSortedStartsFrom, IsMergeOf, Keeps}
use Rattle.rsb_streams.specs.declared.draw.Draw.{Ghosts as Stream}

-- ---- lists sorted by start

-- If two lists start at `low` or later, so does their merge.
pub merge-starts : (n low : ℕ) (left right runs : List Interval) → HasSortedStartsFrom n low left
    → HasSortedStartsFrom n low right → HasSortedStarts n runs → IsMergeOf left right runs
    → HasSortedStartsFrom n low runs
merge-starts n low left right [] first second sorted merged = tt
merge-starts n low left right (run ∷ runs) first second sorted merged =
    let starts : low ≤ run.first = elim merged [
      | inl from_left ↦ let head = rw from_left.1 at first in head.starts
      | inr from_right ↦ let head = rw from_right.1 at second in head.starts
    ] in
    record {
      starts = starts;
      in_order = sorted.in_order;
      in_type = sorted.in_type;
      rest = sorted.rest;
    }

-- A list that is sorted by start may be replaced after its first interval.
pub merged-from : (n low : ℕ) (run : Interval) (runs others : List Interval)
    → HasSortedStartsFrom n low (run ∷ others) → HasSortedStartsFrom n run.first runs
    → HasSortedStartsFrom n low (run ∷ runs)
merged-from n low run runs others sorted rest = record {
  starts = sorted.starts;
  in_order = sorted.in_order;
  in_type = sorted.in_type;
  rest = rest;
}

-- A list sorted by start may be seen from each rank up to its first one.
pub sorted-raise : (n low lower : ℕ) (run : Interval) (runs : List Interval) → lower ≤ run.first
    → HasSortedStartsFrom n low (run ∷ runs) → HasSortedStartsFrom n lower (run ∷ runs)
sorted-raise n low lower run runs starts sorted = record {
  starts = starts;
  in_order = sorted.in_order;
  in_type = sorted.in_type;
  rest = sorted.rest;
}

-- Two lists sorted by start have a merge. `size` is at least the sum of their lengths.
merge-from : (n size low : ℕ) (left right : List Interval) → length left + length right ≤ size
    → HasSortedStartsFrom n low left → HasSortedStartsFrom n low right
    → (runs : List Interval) × HasSortedStartsFrom n low runs × IsMergeOf left right runs
merge-from n size low [] [] within first second = ([], tt, (refl, refl))
merge-from n zero low (run ∷ left) right within first second = absurd (omega arith)
merge-from n zero low [] (run ∷ right) within first second = absurd (omega arith)
merge-from n (suc size) low (run ∷ left) [] within first second =
    let rest = merge-from n size run.first left [] (omega arith) first.rest tt in
    (run ∷ rest.0, merged-from n low run rest.0 left first rest.1, inl (left, refl, rest.2))
merge-from n (suc size) low [] (run ∷ right) within first second =
    let rest = merge-from n size run.first [] right (omega arith) tt second.rest in
    (run ∷ rest.0, merged-from n low run rest.0 right second rest.1, inr (right, refl, rest.2))
merge-from n (suc size) low (run ∷ left) (other ∷ right) within first second = elim
    (cases_lt run.first other.first) [
      | inl less ↦
          let later : HasSortedStartsFrom n run.first (other ∷ right) =
          sorted-raise n low run.first other right (omega arith) second in
          let rest = merge-from n size run.first left (other ∷ right) (omega arith) first.rest later in
          (run ∷ rest.0, merged-from n low run rest.0 left first rest.1, inl (left, refl, rest.2))
      | inr most ↦
          let later : HasSortedStartsFrom n other.first (run ∷ left)
          = sorted-raise n low other.first run left most first in
          let rest = merge-from n size other.first (run ∷ left) right (omega arith) later second.rest in
          (other ∷ rest.0, merged-from n low other rest.0 right second rest.1, inr (right, refl, rest.2))
    ]

-- Two lists sorted by start have a merge.
pub merge-exists : (n : ℕ) (left right : List Interval) → HasSortedStarts n left
    → HasSortedStarts n right
    → (runs : List Interval) × HasSortedStarts n runs × IsMergeOf left right runs
merge-exists n left right first second =
    merge-from n (length left + length right) 0 left right (omega arith) first second

-- The sum of two finite counts is finite.
pub both-finite : (left right : Count) → IsFinite left → IsFinite right
    → IsFinite (count_add left right)
both-finite left right first second = elim (true_or_false left.bounded) [
  | inl bounded ↦ rw bounded second
  | inr endless ↦ absurd (rw endless at first)
]

-- If two streams are sorted by start, their merge may give something, it is sorted by start, and it
-- ends.
pub merges-keeps : (n : ℕ) (P Q : Outcomes) (left right : Count) → Keeps (HasSortedStarts n) P left
    → Keeps (HasSortedStarts n) Q right
    → Keeps (HasSortedStarts n) (merges n P Q) (count_add left right)
merges-keeps n P Q left right first second = record {
  some = λ never. first.some (λ xs may. second.some (λ ys might.
      let runs = merge-exists n xs ys (first.all xs may) (second.all ys might) in
      never runs.0 (λ nothing. nothing xs ys may might (runs.1, runs.2))));
  all = λ runs may. settled_sorted n 0 runs (λ fails. may (λ xs ys at also all. fails all.0));
  ends = both-finite left right first.ends second.ends;
}

-- The merge of two streams sorted by start is sorted by start.
pub merge-sorted : {T N L R : Type 0} (integer : Elements T N) (left : Stream L T N)
    (right : Stream R T N) → IsSorted integer left → IsSorted integer right
    → IsSorted integer (merge integer left right)
merge-sorted integer left right left_sorted right_sorted s ready =
    let lefts = put_back integer left in
    let rights = put_back integer right in
    merges-keeps integer.value_count (lefts.may_give s.left) (rights.may_give s.right)
    (lefts.draws_left s.left) (rights.draws_left s.right)
    (put_back-sorted integer left left_sorted s.left ready.left)
    (put_back-sorted integer right right_sorted s.right ready.right)
