-- Ranges that were sorted by their starts, and the runs of their union.
use Rattle.std.proofs.Common.{◌≡◌, ℕ, suc, ◌+◌, ◌<◌, ◌≤◌, false, cond, nat_lt, List, [], ◌∷◌, get_or, refl, sym, ap, ◌∙◌, subst, arith}
use Rattle.std.proofs.lemmas.List.Elements.{All-head, All-tail}
use Rattle.std.proofs.lemmas.List.Sorted.{sum_by-IsPermutation}
use Rattle.std.proofs.lemmas.List.Sums.{sum_by-cons}
use Rattle.std.specs.List.{All, sum_by}
use Rattle.std.specs.List.Sorted.{IsPermutation, IsSortedByKey}
use Rattle.std.specs.Ordering.{is_lt, nat_cmp}
use Rattle.std.specs.Range.{range_inclusive_start}
use Rattle.std.specs.declared.cmp.Ordering.{Ordering}
use Rattle.std.specs.declared.ops.RangeInclusive.{RangeInclusive}
use Rattle.rsb_integer.specs.Rank.{interval_of, intervals_of}
use Rattle.rsb_integer.specs.Runs.{Interval, covers, cover, members, AreRuns}
use Rattle.rsb_integer.proofs.lemmas.Runs.{runs-canonical, runs-from_canonical}
use Rattle.rsb_streams.specs.laws.Stream.{settled_canonical_in}
use Rattle.rsb_streams.specs.Stream.{joined_runs, just, HasSortedStarts, HasSortedStartsFrom}
use Rattle.rsb_streams.specs.UnsortedDisjoint.{IsProper}
use Rattle.rsb_streams.proofs.lemmas.calling.Results.{members-runs_by}
use Rattle.rsb_streams.proofs.lemmas.checking.Comparisons.{is_lt-nat}
use Rattle.rsb_streams.proofs.lemmas.sources.Known.{range-start}
use borrow.Author.Tests.{ltb-false}

-- Runs that may be those of a known list are its runs.
pub runs-joined : (n : ℕ) (given runs : List Interval) → joined_runs n (just given) runs
    → AreRuns n (members given) runs
runs-joined n given runs may =
    let canonical = settled_canonical_in n runs (λ fails. may (λ other is all.
    fails (runs-canonical n (members other) runs all))) in
    runs-from_canonical n (members given) runs canonical.apart canonical.within
    (members-runs_by n (λ selected. selected) given runs may)

-- ---- another order

-- The cover of a rank is a sum over the list.
cover-sum : (runs : List Interval) (place : ℕ)
    → cover runs place ≡ sum_by (λ (run : Interval). cond (covers run place) 1 0) runs
cover-sum [] place = refl
cover-sum (run ∷ runs) place =
    ap (λ others. cond (covers run place) 1 0 + others) (cover-sum runs place)
    ∙ sym (sum_by-cons (λ (each : Interval). cond (covers each place) 1 0) run runs)

-- Intervals in another order have the same members.
pub members-permutation : (runs others : List Interval) (place : ℕ) → IsPermutation runs others
    → members others place ≡ members runs place
members-permutation runs others place moved =
    ap (nat_lt 0) (cover-sum others place
    ∙ sum_by-IsPermutation (λ (run : Interval). cond (covers run place) 1 0) runs others moved
    ∙ sym (cover-sum runs place))

-- ---- sorted by their starts

module _ {T : Type 0} (rank : T → ℕ) (n : ℕ) where
  -- Whether a range is non-empty and within the type.
  abbrev Proper : RangeInclusive T → Type 0
  Proper = IsProper rank n

  -- Whether values are ordered as their ranks are.
  abbrev pub IsInOrder : (T → T → Ordering) → Type 0
  IsInOrder cmp = (x y : T) → rank x < n → rank y < n → cmp x y ≡ nat_cmp (rank x) (rank y)

  module _ (cmp : T → T → Ordering) (in_order : IsInOrder cmp) where
    -- Whether the ranges are sorted by start.
    abbrev pub StartsAscend : List (RangeInclusive T) → Type 0
    StartsAscend ranges = IsSortedByKey range_inclusive_start cmp ranges

    -- If the start of `next` is not less than that of `range`, `next` starts no earlier.
    starts-after : (range next : RangeInclusive T) → Proper range → Proper next
        → is_lt (cmp (range_inclusive_start next) (range_inclusive_start range)) ≡ false
        → (interval_of rank range).first ≤ (interval_of rank next).first
    starts-after range next proper follows not_less =
        let start = range-start rank range proper.in_order in
        let next_start = range-start rank next follows.in_order in
        let ordered = in_order (range_inclusive_start next) (range_inclusive_start range)
        (omega (arith, next_start, follows.in_order, follows.in_type))
        (omega (arith, start, proper.in_order, proper.in_type)) in
        let most = ltb-false (rank (range_inclusive_start next)) (rank (range_inclusive_start range))
        (sym (is_lt-nat (rank (range_inclusive_start next)) (rank (range_inclusive_start range)))
        ∙ sym (ap is_lt ordered) ∙ not_less) in
        omega (arith, most, start, next_start)

    -- The ranges after the first are sorted by start too.
    ascend-tail : (range : RangeInclusive T) (ranges : List (RangeInclusive T))
        → StartsAscend (range ∷ ranges) → StartsAscend ranges
    ascend-tail range ranges ascend k default low within =
        let same : suc k + 1 ≡ suc (k + 1) = omega arith in
        subst (λ place. is_lt (cmp (range_inclusive_start (get_or (range ∷ ranges) place default))
        (range_inclusive_start (get_or ranges k default))) ≡ false) same
        (ascend (suc k) default (omega arith) (omega arith))

    -- If the first range starts at `low` or later, ranges sorted by start are a sorted list from
    -- `low` onwards.
    sorted-from : (low : ℕ) (ranges : List (RangeInclusive T)) → All Proper ranges
        → StartsAscend ranges
        → ((range : RangeInclusive T) (others : List (RangeInclusive T)) → ranges ≡ range ∷ others
        → low ≤ (interval_of rank range).first)
        → HasSortedStartsFrom n low (intervals_of rank ranges)
    sorted-from low [] proper ascend from = tt
    sorted-from low (range ∷ ranges) proper ascend from =
        let here = All-head Proper range ranges proper in
        let rest = All-tail Proper range ranges proper in
        record {
          starts = from range ranges refl;
          in_order = here.in_order;
          in_type = here.in_type;
          rest = sorted-from (interval_of rank range).first ranges rest
              (ascend-tail range ranges ascend)
              (λ next others is.
              let follows = subst (All Proper) is rest in
              let later = subst (λ each. StartsAscend (range ∷ each)) is ascend in
              starts-after range next here (All-head Proper next others follows)
              (later 0 range (omega arith) (omega arith)));
        }

    -- Proper ranges sorted by start are a list sorted by start.
    pub sorted-starts : (ranges : List (RangeInclusive T)) → All Proper ranges
        → StartsAscend ranges → HasSortedStarts n (intervals_of rank ranges)
    sorted-starts ranges proper ascend =
        sorted-from 0 ranges proper ascend (λ range others is. omega arith)
