-- Ranges that are collected and sorted, and the members of those that came.
use Rattle.std.proofs.Common.{◌≡◌, ℕ, ◌<◌, ◌≤◌, false, List, subst, sym, ◌∙◌}
use Rattle.std.proofs.lemmas.List.Elements.{All-map, All-weaker}
use Rattle.std.proofs.lemmas.List.Sorted.{All-permutation, IsPermutation-map}
use Rattle.std.specs.List.{All}
use Rattle.std.specs.List.Sorted.{IsPermutation}
use Rattle.std.specs.Prelude.{Option, None}
use Rattle.std.specs.Iterator.{Drains, Yields}
use Rattle.std.specs.declared.cmp.Ordering.{Ordering}
use Rattle.std.specs.declared.ops.RangeInclusive.{RangeInclusive}
use Rattle.rsb_integer.specs.Rank.{interval_of, intervals_of}
use Rattle.rsb_integer.specs.Runs.{Interval, members, AreRuns}
use Rattle.rsb_integer.specs.Selection.{Selection}
use Rattle.rsb_integer.proofs.lemmas.Members.{members-end}
use Rattle.rsb_integer.proofs.lemmas.Runs.{runs-along}
use Rattle.rsb_streams.specs.UnsortedDisjoint.{non_empty, AreSpans, GivesSpans, IsProper, UnsortedSteps}
use Rattle.rsb_streams.specs.declared.unsorted_disjoint.UnsortedDisjoint.{UnsortedDisjoint}
use Rattle.rsb_streams.specs.Stream.{joined_runs, just, HasSortedStarts}
use Rattle.rsb_streams.proofs.lemmas.sorting.Sorted.{runs-joined, members-permutation, sorted-starts, IsInOrder, StartsAscend}
use Rattle.rsb_streams.proofs.lemmas.unsorted.Spans.{spans-members}
use Rattle.rsb_streams.proofs.lemmas.unsorted.Drained.{answers-proper}

module _ {T : Type 0} (rank : T → ℕ) (n : ℕ) where
  -- The members of a list of ranges.
  abbrev of : List (RangeInclusive T) → Selection
  of ranges = members (intervals_of rank ranges)

  -- Whether the kept ranges are proper and have the members of the items.
  pub record Collects (items kept : List (RangeInclusive T)) : Type 0 where
    pub proper : All (IsProper rank n) kept
    pub same : (place : ℕ) → of kept place ≡ of items place

  -- Proper ranges that are the spans of the items satisfy `Collects`.
  pub collects-spans : (items kept : List (RangeInclusive T)) → All (IsProper rank n) kept
      → AreSpans (non_empty (intervals_of rank items)) (intervals_of rank kept)
      → Collects items kept
  collects-spans items kept proper are = record {
    proper = proper;
    same = λ place. spans-members (intervals_of rank items) (intervals_of rank kept) place are;
  }

  -- The kept ranges are within the type, so the items have no member past it.
  pub collects-end : (items kept : List (RangeInclusive T)) → Collects items kept → (place : ℕ)
      → n ≤ place → of items place ≡ false
  collects-end items kept collects place past =
      sym (collects.same place)
      ∙ members-end n (intervals_of rank kept) place
      (All-map (λ (run : Interval). run.last < n) (interval_of rank) kept
      (All-weaker (IsProper rank n) (λ range. (interval_of rank range).last < n)
      (λ range proper. proper.in_type) kept collects.proper)) past

  module _ {I : Type 0} (input : I → Option (RangeInclusive T) → I → Type 0) (iter : I) where
    -- Whether the iterator drains to some items, and `kept` has their members.
    pub record Gathered (kept : List (RangeInclusive T)) : Type 0 where
      pub items : List (RangeInclusive T)
      pub drains : Drains input iter items
      pub collects : Collects items kept

    -- So it does if the stream over the iterator drains to `kept`.
    pub gathered : (stream s t : UnsortedDisjoint T I) (answers kept : List (RangeInclusive T))
        → GivesSpans rank input iter (UnsortedSteps rank n input) stream → s ≡ stream
        → Yields (UnsortedSteps rank n input) s answers t
        → ((u : UnsortedDisjoint T I) × UnsortedSteps rank n input t None u) → kept ≡ answers
        → Gathered kept
    gathered stream s t answers kept gives same all end is =
        let given = gives answers (
          end.0,
          (
            t,
            subst (λ each.
                Yields (UnsortedSteps rank n input) each answers t) same all,
            end.1,
          ),
        ) in
        record {
          items = given.0;
          drains = given.1;
          collects = subst (Collects given.0) (sym is) (collects-spans given.0 answers
              (answers-proper rank n input answers s t all) given.2);
        }

  -- ---- what is kept, in another order

  module _ (items kept sorted : List (RangeInclusive T)) (collects : Collects items kept)
      (moved : IsPermutation kept sorted) where
    -- If the sorted ranges ascend by their starts, their intervals are sorted by start.
    pub collects-sorted : (cmp : T → T → Ordering) (in_order : IsInOrder rank n cmp)
        → StartsAscend rank n cmp in_order sorted → HasSortedStarts n (intervals_of rank sorted)
    collects-sorted cmp in_order ascend =
        sorted-starts rank n cmp in_order sorted
        (All-permutation (IsProper rank n) kept sorted moved collects.proper) ascend

    -- The union of the sorted ranges has the runs of the items.
    pub runs-sorted : (runs : List Interval) → joined_runs n (just (intervals_of rank sorted)) runs
        → AreRuns n (of items) runs
    runs-sorted runs may =
        runs-along n (of sorted) (of items) runs
        (λ place below.
        members-permutation (intervals_of rank kept) (intervals_of rank sorted) place
        (IsPermutation-map (interval_of rank) kept sorted moved)
        ∙ collects.same place)
        (runs-joined n (intervals_of rank sorted) runs may)
