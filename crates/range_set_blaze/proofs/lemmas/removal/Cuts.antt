-- Consecutive ranks that are removed from the run that has them.
use Rattle.std.proofs.Common.{◌≡◌, ℕ, true, false, not, ◌==◌, nat_lt, ◌&&◌, ◌||◌, ◌+◌, ◌<◌, ◌≤◌, List, refl, sym, ap, ◌∙◌, inl, inr, arith, subst}
use Rattle.std.specs.List.{Contains}
use Rattle.std.proofs.lemmas.Bool.Decides.{nat_tests}
use Rattle.rsb_integer.specs.Runs.{Interval, covers, from_to, members, IsCanonicalIn}
use Rattle.rsb_integer.specs.Selection.{count}
use Rattle.rsb_integer.proofs.lemmas.List.{true_or_false, not_both}
use Rattle.rsb_integer.proofs.lemmas.Members.{covers-bounds, covers-inside}
use Rattle.range_set_blaze.specs.Removal.{IsCutAbove, IsRemoved}
use Rattle.rsb_storage.specs.Starts.{with_run, without_start, LeavesApart, IsJoined}
use Rattle.rsb_storage.specs.Set.{only, Removes}
use Rattle.rsb_storage.proofs.lemmas.runs.Apart.{contained-maximal, with_run-joined, without_start-joined}
use Rattle.rsb_storage.proofs.lemmas.runs.Starts.{starting-with_run, with_run-without_start, Contains-with_run}

module _ (n : ℕ) (runs : List Interval) (canonical : IsCanonicalIn n runs) (run : Interval)
    (among : Contains runs run) (point : ℕ) (from : run.first ≤ point) (to : point ≤ run.last) where
  -- Without the run, the list differs only by it.
  joins : IsJoined n (without_start run.first runs) run runs
  joins = without_start-joined n runs canonical run among

  -- If the run ends at the point or before it, no part of the run is above, and the list is as
  -- `IsCutAbove` states.
  pub cut-last : run.last ≤ point → IsCutAbove n runs run point runs
  cut-last ends = record {
    there = (run, among, refl);
    canonical = joins.fewer_canonical;
    has = λ rank. elim (true_or_false (covers run rank)) [
      | inl here ↦
          let bounds = covers-bounds run rank here in
          let not_above : nat_lt point rank ≡ false = grind (arith, nat_tests, bounds.1, ends) in
          grind (arith, not_above)
      | inr lacks ↦ grind (arith, lacks)
    ];
    counted = omega (arith, ends, to);
  }

  -- Otherwise the list is as `IsCutAbove` states once the part above the point is inserted.
  pub cut-above : (above : Interval) → above.first ≡ point + 1 → above.last ≡ run.last
      → point < run.last → IsCutAbove n runs run point (with_run above runs)
  cut-above above starts ends less =
      let maximal = contained-maximal n runs canonical run among in
      let test : not (above.first == run.first) ≡ true = grind (arith, nat_tests, starts, from) in
      let moved = starting-with_run (λ start. not (start == run.first)) above runs test in
      let put = with_run-joined n (without_start run.first runs) joins.fewer_canonical above
      (omega (arith, starts, ends, less)) (omega (arith, ends, maximal.in_type))
      (λ rank low high. joins.free rank (omega (arith, low, starts, from))
      (omega (arith, high, ends))) in
      let number = put.counted in
      record {
        there = (
          run,
          Contains-with_run above runs run among
              (λ same. omega (arith, same, starts, from)),
          refl,
        );
        canonical = subst (IsCanonicalIn n) (sym moved) put.more_canonical;
        has = λ rank.
            ap (λ (items : List Interval). members items rank) moved ∙ put.has rank
            ∙ ap (λ test. members (without_start run.first runs) rank || test)
            (grind (arith, nat_tests, starts, ends, from));
        counted =
            ap (λ (items : List Interval). count n (members items) + point) moved
            ∙ omega (arith, number, starts, ends, less);
      }

  -- Only the piece is removed once the part below it takes the place of the run. If there is no
  -- such part, the run itself is removed.
  module _ (first : ℕ) (starts : run.first ≤ first) (order : first ≤ point) (now : List Interval)
      (above : IsCutAbove n runs run point now) where
    -- If the new list has the members of the rest and the ranks of the run below `first`, it lacks
    -- exactly the piece.
    cut-removes : (new : List Interval) → ((rank : ℕ) → members new rank
        ≡ (members (without_start run.first now) rank || (covers run rank && nat_lt rank first)))
        → Removes runs new (covers (from_to first point))
    cut-removes new is rank =
        let all = joins.has rank in
        let rest = above.has rank in
        is rank
        ∙ elim (true_or_false (covers run rank)) [
          | inl here ↦
              let bounds = covers-bounds run rank here in
              let none = joins.free rank (omega (arith, bounds.0)) (omega (arith, bounds.1)) in
              grind (arith, nat_tests, all, rest, none, here, order)
          | inr lacks ↦ elim (true_or_false (covers (from_to first point) rank)) [
            | inl within ↦
                let bounds = covers-bounds (from_to first point) rank within in
                let here = covers-inside run rank (omega (arith, bounds.0, starts))
                (omega (arith, bounds.1, to)) in
                absurd (not_both (covers run rank) here lacks)
            | inr differs ↦ grind (arith, all, rest, lacks, differs)
          ]
        ]

    -- The part below the piece takes the place of the run.
    pub cut-low : (low : Interval) → low.first ≡ run.first → low.last + 1 ≡ first
        → run.first < first → IsRemoved n runs (with_run low now) (from_to first point)
    cut-low low begins ends less =
        let maximal = contained-maximal n runs canonical run among in
        let placed = sym (with_run-without_start low now)
        ∙ ap (λ start. with_run low (without_start start now)) begins in
        let free : LeavesApart (without_start run.first now) low.first low.last =
        λ rank lower upper. above.has rank
        ∙ (let none = joins.free rank (omega (arith, lower, begins))
        (omega (arith, upper, ends, order, to)) in
        let not_above : nat_lt point rank ≡ false = grind (arith, nat_tests, upper, ends, order) in
        grind (arith, none, not_above)) in
        let put = with_run-joined n (without_start run.first now) above.canonical low
        (omega (arith, begins, ends, less))
        (omega (arith, ends, order, to, maximal.in_type)) free in
        let number = put.counted in
        let rest = above.counted in
        let all = joins.counted in
        let old_number = ap (λ (items : List Interval). count n (members items)) placed in
        record {
          canonical = subst (IsCanonicalIn n) (sym placed) put.more_canonical;
          removes = cut-removes (with_run low now) (λ rank.
              ap (λ (items : List Interval). members items rank) placed ∙ put.has rank
              ∙ ap (λ test. members (without_start run.first now) rank || test)
              (grind (arith, nat_tests, begins, ends, order, to)));
          counted = omega (arith, number, rest, all, old_number, begins, ends, less, order, to);
        }

    -- If there is no such part, the run is removed.
    pub cut-none : first ≤ run.first → IsRemoved n runs (without_start run.first now)
        (from_to first point)
    cut-none less =
        let rest = above.counted in
        let all = joins.counted in
        record {
          canonical = above.canonical;
          removes = cut-removes (without_start run.first now) (λ rank.
              elim (true_or_false (covers run rank)) [
                | inl here ↦
                    let bounds = covers-bounds run rank here in
                    let not_below : nat_lt rank first ≡ false
                    = grind (arith, nat_tests, bounds.0, less) in
                    grind (arith, not_below)
                | inr lacks ↦ grind (arith, lacks)
              ]);
          counted = omega (arith, rest, all, starts, order, to, less);
        }

-- Removing a piece whose ends are one rank removes only that rank.
pub removes-only : (old new : List Interval) (first last point : ℕ) → first ≡ point → last ≡ point
    → Removes old new (covers (from_to first last)) → Removes old new (only point)
removes-only old new first last point starts ends removes rank =
    let same : covers (from_to first last) rank ≡ only point rank = grind (arith, nat_tests) in
    removes rank ∙ ap (λ test. members old rank && not test) same
