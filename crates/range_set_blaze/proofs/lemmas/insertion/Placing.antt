-- A joined run is inserted over the runs that it covers.
use Rattle.std.proofs.Common.{◌≡◌, ℕ, true, false, not, ◌==◌, ◌||◌, ◌+◌, ◌<◌, ◌≤◌, List, refl, sym, ap, ◌∙◌, inl, inr, arith, subst, Option, Some, None, IfSome, IsSome, MatchOption}
use Rattle.std.specs.List.{Contains}
use Rattle.std.proofs.Math.Bool.{and-true}
use Rattle.std.proofs.lemmas.Bool.Decides.{nat_tests}
use Rattle.rsb_integer.specs.Runs.{Interval, covers, length_of, members, IsCanonicalIn}
use Rattle.rsb_integer.specs.Selection.{count}
use Rattle.rsb_integer.proofs.lemmas.List.{true_or_false, not_both}
use Rattle.rsb_integer.proofs.lemmas.Members.{covers-bounds, covers-inside}
use Rattle.range_set_blaze.specs.Joining.{IsInside, IsJoining, IsOver, KnowsInside}
use Rattle.rsb_storage.specs.Storage.{run_of}
use Rattle.rsb_storage.specs.Starts.{with_run, without_start}
use Rattle.range_set_blaze.specs.declared.set.insert.Joining.{Joining}
use Rattle.rsb_storage.specs.declared.run.Run.{Run}
use Rattle.rsb_storage.proofs.lemmas.runs.Apart.{contained-maximal, contained-one, starting-lacks, starting-members, with_run-members, without_start-joined}
use Rattle.rsb_storage.proofs.lemmas.runs.Starts.{canonical-rises, starting-all, starting-canonical_in, starting-contains, with_run-contains, with_run-without_start, Contains-with_run}

module _ {T : Type 0} (rank : T → ℕ) (n : ℕ) (runs : List Interval)
    (canonical : IsCanonicalIn n runs) where
  module _ (joining : Joining T) (is : IsJoining rank n runs joining) where
    -- Without the run that starts where the joined run does, the runs have the same members outside
    -- the joined run.
    first-members : (point : ℕ) → covers (run_of rank joining.joined) point ≡ false
        → members (without_start (rank joining.joined.start) runs) point ≡ members runs point
    first-members point outside =
        starting-members (λ start. not (start == rank joining.joined.start)) runs point true
        (λ run found here. by joining.first is.first run found here)
        ∙ and-true (members runs point)
      where
        by : (first : Option (Run T)) → MatchOption first
            ((run : Interval) → Contains runs run → run.first ≡ rank joining.joined.start → ⊥)
            (λ first. Contains runs (run_of rank first)
            × (rank first.start ≡ rank joining.joined.start)
            × (rank first.end ≤ rank joining.joined.end))
            → (run : Interval) → Contains runs run → covers run point ≡ true
            → not (run.first == rank joining.joined.start) ≡ true
        by None none run found here = elim (true_or_false (run.first == rank joining.joined.start)) [
          | inl same ↦ absurd (none run found (grind (arith, nat_tests, same)))
          | inr differs ↦ rw differs refl
        ]
        by (Some first) first_is run found here =
            elim (true_or_false (run.first == rank joining.joined.start)) [
              | inl same ↦
                  let meets : run.first ≡ rank joining.joined.start = grind (arith, nat_tests, same) in
                  let own = (contained-maximal n runs canonical run found).in_order in
                  let start = first_is.1 in
                  let other = (contained-maximal n runs canonical (run_of rank first)
                  first_is.0).in_order in
                  let one = contained-one n runs canonical run (run_of rank first) run.first found
                  first_is.0 (covers-inside run run.first (omega arith) own)
                  (covers-inside (run_of rank first) run.first (omega (arith, meets, start))
                  (omega (arith, meets, start, other))) in
                  let last = ap (λ (each : Interval). each.last) one in
                  let bounds = covers-bounds run point here in
                  absurd (not_both (covers (run_of rank joining.joined) point)
                  (covers-inside (run_of rank joining.joined) point (omega (arith, meets, bounds.0))
                  (omega (arith, last, bounds.1, first_is.2))) outside)
              | inr differs ↦ rw differs refl
            ]

    -- If there is a first run, a run of the list starts where the joined run does.
    pub first-there : IsSome joining.first
        → (run : Interval) × Contains runs run × (run.first ≡ rank joining.joined.start)
    first-there some = by joining.first is.first some
      where
        by : (first : Option (Run T)) → MatchOption first
            ((run : Interval) → Contains runs run → run.first ≡ rank joining.joined.start → ⊥)
            (λ first. Contains runs (run_of rank first)
            × (rank first.start ≡ rank joining.joined.start)
            × (rank first.end ≤ rank joining.joined.end)) → IsSome first
            → (run : Interval) × Contains runs run × (run.first ≡ rank joining.joined.start)
        by None none some = absurd (cc)
        by (Some first) found some = (run_of rank first, found.0, found.1)

    -- The first run is non-empty, and its members are among those that are counted.
    pub first-some : IfSome joining.first (λ first. rank first.start ≤ rank first.end)
    first-some = by joining.first is.first
      where
        by : (first : Option (Run T)) → MatchOption first
            ((run : Interval) → Contains runs run → run.first ≡ rank joining.joined.start → ⊥)
            (λ first. Contains runs (run_of rank first)
            × (rank first.start ≡ rank joining.joined.start)
            × (rank first.end ≤ rank joining.joined.end))
            → IfSome first (λ first. rank first.start ≤ rank first.end)
        by None none = tt
        by (Some first) found =
            (contained-maximal n runs canonical (run_of rank first) found.0).in_order

    pub first-within : (total : ℕ) → total ≡ count n (members runs)
        → IfSome joining.first (λ first. length_of (run_of rank first) ≤ total)
    first-within total counted = by joining.first is.first
      where
        by : (first : Option (Run T)) → MatchOption first
            ((run : Interval) → Contains runs run → run.first ≡ rank joining.joined.start → ⊥)
            (λ first. Contains runs (run_of rank first)
            × (rank first.start ≡ rank joining.joined.start)
            × (rank first.end ≤ rank joining.joined.end))
            → IfSome first (λ first. length_of (run_of rank first) ≤ total)
        by None none = tt
        by (Some first) found =
            let number = (without_start-joined n runs canonical (run_of rank first) found.0).counted in
            omega (arith, number, counted)

    -- Subtracting the length of the first run gives the number of members of the others.
    pub first-counted : (total others : ℕ) → total ≡ count n (members runs)
        → MatchOption joining.first (others ≡ total)
        (λ first. others + length_of (run_of rank first) ≡ total)
        → others ≡ count n (members (without_start (rank joining.joined.start) runs))
    first-counted total others counted left = by joining.first is.first left
      where
        by : (first : Option (Run T)) → MatchOption first
            ((run : Interval) → Contains runs run → run.first ≡ rank joining.joined.start → ⊥)
            (λ first. Contains runs (run_of rank first)
            × (rank first.start ≡ rank joining.joined.start)
            × (rank first.end ≤ rank joining.joined.end))
            → MatchOption first (others ≡ total)
            (λ first. others + length_of (run_of rank first) ≡ total)
            → others ≡ count n (members (without_start (rank joining.joined.start) runs))
        by None none left =
            left ∙ counted
            ∙ ap (λ (items : List Interval). count n (members items))
            (sym (starting-all (λ start. not (start == rank joining.joined.start)) runs
            (λ run found. elim (true_or_false (run.first == rank joining.joined.start)) [
              | inl same ↦ absurd (none run found (grind (arith, nat_tests, same)))
              | inr differs ↦ rw differs refl
            ])))
        by (Some first) found left =
            let number = (without_start-joined n runs canonical (run_of rank first) found.0).counted in
            subst (λ start. others ≡ count n (members (without_start start runs))) found.1
            (omega (arith, number, left, counted))

    -- The joined run is over the others, as `IsOver` states.
    pub joining-over : (others : ℕ)
        → others ≡ count n (members (without_start (rank joining.joined.start) runs))
        → IsOver n (with_run (run_of rank joining.joined) runs) (run_of rank joining.joined) others
    joining-over others counted =
        record {
          rest = without_start (rank joining.joined.start) runs;
          parts = sym (with_run-without_start (run_of rank joining.joined) runs);
          canonical = starting-canonical_in (λ start. not (start == rank joining.joined.start)) n runs
              canonical;
          elsewhere = λ run found same.
              let other = (starting-contains (λ start. not (start == rank joining.joined.start)) runs
              run found).1 in
              grind (arith, nat_tests, other, same);
          ordered = is.ordered;
          in_type = is.in_type;
          begins = λ point before.
              starting-lacks (λ start. not (start == rank joining.joined.start)) runs point
              (is.begins point before);
          ends = starting-lacks (λ start. not (start == rank joining.joined.start)) runs
              (rank joining.joined.end + 1) is.ends;
          counted = counted;
        }

    -- With the joined run, the members are those of the runs and its own ranks.
    pub joining-members : (point : ℕ)
        → members (with_run (run_of rank joining.joined) runs) point
        ≡ (members runs point || covers (run_of rank joining.joined) point)
    joining-members point =
        let rises = canonical-rises n 0 (without_start (rank joining.joined.start) runs) in
        let left = starting-canonical_in (λ start. not (start == rank joining.joined.start)) n runs
        canonical in
        ap (λ (items : List Interval). members items point)
        (sym (with_run-without_start (run_of rank joining.joined) runs))
        ∙ with_run-members n 0 (run_of rank joining.joined)
        (without_start (rank joining.joined.start) runs) point (rises left.apart left.within)
        (λ run found same.
        let other = (starting-contains (λ start. not (start == rank joining.joined.start)) runs
        run found).1 in grind (arith, nat_tests, other, same))
        ∙ elim (true_or_false (covers (run_of rank joining.joined) point)) [
          | inl here ↦
              let some = members (without_start (rank joining.joined.start) runs) point in
              grind (arith, here)
          | inr outside ↦
              ap (λ test. test || covers (run_of rank joining.joined) point)
              (first-members point outside)
        ]

    -- After the insertion, `KnowsInside` still holds.
    pub joining-inside : KnowsInside rank (with_run (run_of rank joining.joined) runs)
        (run_of rank joining.joined) joining.last joining.before
    joining-inside = by joining.last joining.before is.inside
      where
        -- The same runs start inside the joined one as before.
        old : (run : Interval) → IsInside (with_run (run_of rank joining.joined) runs)
            (run_of rank joining.joined) run → IsInside runs (run_of rank joining.joined) run
        old run inside = elim (with_run-contains (run_of rank joining.joined) runs run inside.among) [
          | inl same ↦
              let later = subst (λ (each : Interval). rank joining.joined.start < each.first) (sym same)
              inside.later in absurd (omega (arith, later))
          | inr found ↦ record {
            among = found.0;
            later = inside.later;
            within = inside.within;
          }
        ]

        new : (run : Interval) → IsInside runs (run_of rank joining.joined) run
            → IsInside (with_run (run_of rank joining.joined) runs) (run_of rank joining.joined) run
        new run inside =
            let later = inside.later in
            record {
              among = Contains-with_run (run_of rank joining.joined) runs run inside.among
                  (λ same. omega (arith, same, later));
              later = inside.later;
              within = inside.within;
            }

        by : (last before : Option (Run T))
            → KnowsInside rank runs (run_of rank joining.joined) last before
            → KnowsInside rank (with_run (run_of rank joining.joined) runs)
            (run_of rank joining.joined) last before
        by None before none = λ run inside. none run (old run inside)
        by (Some last) None known = (
          new (run_of rank last) known.0,
          λ run inside. known.1 run (old run inside),
        )
        by (Some last) (Some before) known = (
          new (run_of rank last) known.0,
          (new (run_of rank before) known.1.0, known.1.1),
        )
