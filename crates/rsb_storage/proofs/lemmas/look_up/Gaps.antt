-- The run or the gap that has a rank.
use Rattle.std.proofs.Common.{◌≡◌, ℕ, true, false, not, nat_lt, ◌+◌, ◌-◌, ◌<◌, ◌≤◌, List, [], ◌∷◌, ap, arith, inl, inr, sym, subst}
use Rattle.std.specs.List.{Contains}
use Rattle.std.proofs.lemmas.Bool.{cases_lt}
use Rattle.std.proofs.lemmas.Bool.Decides.{nat_tests}
use Rattle.rsb_integer.specs.Runs.{Interval, members, IsCanonicalIn}
use Rattle.rsb_integer.specs.Selection.{complement}
use Rattle.rsb_integer.proofs.lemmas.List.{true_or_false, not_both, Contains-head}
use Rattle.rsb_integer.proofs.lemmas.Members.{covers-bounds, covers-inside, members-in}
use Rattle.rsb_storage.specs.Starts.{runs_past, StartsAscendFrom, IsGapEnd, IsLastBelow, NoneBelow, StartsWith}
use Rattle.rsb_storage.specs.Set.{IsRunAround}
use Rattle.rsb_storage.proofs.lemmas.runs.Apart.{contained-maximal, contained-members, last-gap, none-gap}
use Rattle.rsb_storage.proofs.lemmas.runs.Starts.{ascending-contains, canonical-rises, starting-ascending, starting-contains, Contains-starting, ascending-raise}

module _ (n : ℕ) (runs : List Interval) (canonical : IsCanonicalIn n runs) (point : ℕ) where
  -- A run of the list that has the rank is the run around it.
  pub contained-around : (run : Interval) → Contains runs run → run.first ≤ point → point ≤ run.last
      → IsRunAround n (members runs) point run
  contained-around run found from to = record {
    maximal = contained-maximal n runs canonical run found;
    around = covers-inside run point from to;
  }

  -- The first of the runs that start past the rank is in the list, and starts past the rank.
  pub past-first : (run : Interval) → StartsWith (runs_past point runs) run
      → Contains runs run × (point < run.first)
  past-first run first =
      let is = starting-contains (λ start. nat_lt point start) runs run
      (subst (λ (items : List Interval). Contains items run) (sym first.parts)
      (Contains-head run first.rest)) in
      (is.0, grind (arith, nat_tests, is.1))

  module _ (gap : members runs point ≡ false) where
    -- If the rank is not a member, each member past it is in a run that starts past it.
    past-members : (rank : ℕ) → point < rank → members runs rank ≡ true
        → (run : Interval) × Contains (runs_past point runs) run × (run.first ≤ rank)
    past-members rank more member =
        let found = members-in runs rank member in
        let bounds = covers-bounds found.0 rank found.2 in (
          found.0,
          elim (cases_lt point found.0.first) [
            | inl later ↦ Contains-starting (λ start. nat_lt point start) runs found.0 found.1
                (grind (arith, nat_tests, later))
            | inr starts ↦ absurd (not_both (members runs point)
                (contained-members n runs canonical found.0 point found.1 starts
                (omega (arith, more, bounds.1))) gap)
          ],
          bounds.0,
        )

    -- If no run starts past the rank, the gap ends with the type.
    pub gap-last : (last : ℕ) → point < n → runs_past point runs ≡ [] → last + 1 ≡ n
        → IsGapEnd n runs point last
    gap-last last known none ends = record {
      from = omega (arith, known, ends);
      in_type = omega (arith, ends);
      free = λ rank more less. elim (true_or_false (members runs rank)) [
        | inr lacks ↦ lacks
        | inl member ↦
            let found = past-members rank more member in
            let there = subst (λ (items : List Interval). Contains items found.0) none found.1 in
            let nothing = there.1 in absurd (omega arith)
      ];
      ends = λ within. absurd (omega (arith, within, ends));
    }

    -- Otherwise the gap ends right before the first run that does.
    pub gap-next : (run : Interval) (last : ℕ) → StartsWith (runs_past point runs) run
        → last + 1 ≡ run.first → IsGapEnd n runs point last
    gap-next run last first ends =
        let is = past-first run first in
        let later = is.1 in
        let maximal = contained-maximal n runs canonical run is.0 in
        record {
          from = omega (arith, later, ends);
          in_type = omega (arith, ends, maximal.in_order, maximal.in_type);
          free = λ rank more less. elim (true_or_false (members runs rank)) [
            | inr lacks ↦ lacks
            | inl member ↦
                let found = past-members rank more member in
                let rises = subst (StartsAscendFrom n 0) first.parts
                (starting-ascending (λ start. nat_lt point start) n 0 runs
                (canonical-rises n 0 runs canonical.apart canonical.within)) in
                let starts = ascending-contains n run.first (run ∷ first.rest) found.0
                (ascending-raise n 0 run.first run first.rest (omega arith) rises)
                (subst (λ (items : List Interval). Contains items found.0) first.parts found.1) in
                absurd (omega (arith, starts, found.2, less, ends))
          ];
          ends = λ within. contained-members n runs canonical run (last + 1) is.0
              (omega (arith, ends)) (omega (arith, ends, maximal.in_order));
        }

  -- If no rank from `start` up to the rank is a member, but the one before `start` is, the gap
  -- around the rank starts there.
  gap-around : (start end : ℕ) → start ≤ point → IsGapEnd n runs point end
      → ((rank : ℕ) → start ≤ rank → rank ≤ point → members runs rank ≡ false)
      → (0 < start → members runs (start - 1) ≡ true)
      → IsRunAround n (complement (members runs)) point (record { first = start; last = end })
  gap-around start end from ends before begins = record {
    maximal = record {
      in_order = omega (arith, from, ends.from);
      in_type = ends.in_type;
      whole = λ rank here.
          let bounds = covers-bounds (record { first = start; last = end }) rank here in
          ap not (elim (cases_lt point rank) [
            | inl more ↦ ends.free rank more bounds.1
            | inr less ↦ before rank bounds.0 less
          ]);
      begins_here = λ some. ap not (begins some);
      ends_here = λ more. ap not (ends.ends more);
    };
    around = covers-inside (record { first = start; last = end }) point from ends.from;
  }

  -- If the last run that starts at or before the rank ends below it, the gap starts right after
  -- that run.
  pub gap-found : (run : Interval) (end : ℕ) → IsLastBelow runs (point + 1) run → run.last < point
      → IsGapEnd n runs point end
      → IsRunAround n (complement (members runs)) point (record { first = run.last + 1; last = end })
  gap-found run end found less ends =
      let own = (contained-maximal n runs canonical run found.among).in_order in
      gap-around (run.last + 1) end (omega (arith, less)) ends
      (λ rank from to. last-gap n runs canonical (point + 1) run found rank (omega (arith, from))
      (omega (arith, to)))
      (λ some. contained-members n runs canonical run (run.last + 1 - 1) found.among
      (omega (arith, own)) (omega arith))

  -- If no run starts at or before the rank, the gap starts at 0.
  pub gap-first : (end : ℕ) → NoneBelow runs (point + 1) → IsGapEnd n runs point end
      → IsRunAround n (complement (members runs)) point (record { first = 0; last = end })
  gap-first end none ends =
      gap-around 0 end (omega arith) ends
      (λ rank from to. none-gap n runs canonical (point + 1) none rank (omega (arith, to)))
      (λ some. absurd (omega (arith, some)))
