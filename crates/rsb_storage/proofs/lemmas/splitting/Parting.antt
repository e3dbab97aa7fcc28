-- Runs that are split at a rank.
use Rattle.std.proofs.Common.{◌≡◌, ℕ, not, ◌==◌, nat_le, nat_lt, ◌&&◌, ◌+◌, ◌<◌, ◌≤◌, List, ◌∷◌, sym, ap, ◌∙◌, inl, inr, arith, subst}
use Rattle.std.specs.List.{sum_by, Contains}
use Rattle.std.proofs.lemmas.List.Sums.{sum_by-cons}
use Rattle.std.proofs.lemmas.Bool.{cases_lt}
use Rattle.std.proofs.lemmas.Bool.Decides.{nat_tests}
use Rattle.rsb_integer.specs.Runs.{Interval, length_of, members, IsCanonicalIn}
use Rattle.rsb_integer.specs.Selection.{intersection}
use Rattle.rsb_integer.proofs.lemmas.Count.{count-union}
use Rattle.rsb_integer.proofs.lemmas.List.{not_both}
use Rattle.rsb_integer.proofs.lemmas.Members.{covers-bounds, covers-inside}
use Rattle.rsb_storage.specs.Split.{from_on, IsParting, NoneOver}
use Rattle.rsb_storage.specs.Starts.{runs_below, starting_from, with_run, without_start, IsJoined, IsLastBelow}
use Rattle.rsb_storage.specs.Set.{IsSetOf, Removes}
use Rattle.rsb_storage.proofs.lemmas.runs.Storage.{sum_by-within}
use Rattle.rsb_storage.proofs.lemmas.runs.Apart.{contained-ends, contained-maximal, contained-members, contained-starts, starting-lacks, starting-members, with_run-joined, without_start-joined}
use Rattle.rsb_storage.proofs.lemmas.runs.Starts.{canonical-rises, starting-canonical_in, starting-starting, starting-swap, starting-with_run, starting-with_run_not, with_run-without_start, without_start-with_run, Contains-starting, Contains-with_run}

-- Canonical runs with the members below a rank, and canonical runs with the others, are the two
-- parts at that rank.
parts-parting : (n : ℕ) (old low high : List Interval) (point : ℕ) → IsCanonicalIn n low
    → IsCanonicalIn n high → Removes old low (from_on point)
    → IsSetOf high (intersection (members old) (from_on point)) → IsParting n old low high point
parts-parting n old low high point low_canonical high_canonical removes from = record {
  low_canonical = low_canonical;
  high_canonical = high_canonical;
  below = removes;
  from = from;
  counted = sym (count-union n (members old) (members low) (members high)
      (λ rank. let one = removes rank in let other = from rank in grind (arith, one, other))
      (λ rank. let one = removes rank in let other = from rank in λ here.
      grind (arith, one, other, here)));
}

module _ (n : ℕ) (runs : List Interval) (canonical : IsCanonicalIn n runs) (point : ℕ) where
  -- If the last run that starts below the rank ends below it, no run extends over the rank.
  pub last-over : (run : Interval) → IsLastBelow runs point run → run.last < point
      → NoneOver runs point
  last-over run found less other also starts reaches =
      let down = found.last other also starts in
      let own = (contained-maximal n runs canonical run found.among).in_order in
      let ends = contained-ends n runs canonical run other run.first found.among also
      (covers-inside run run.first (omega arith) own)
      (covers-inside other run.first down (omega (arith, own, less, reaches))) in
      omega (arith, ends, less, reaches)

  module _ (none : NoneOver runs point) where
    -- Then the runs that start below the rank have the members below it.
    below-members : (rank : ℕ) → members (runs_below point runs) rank
        ≡ (members runs rank && nat_lt rank point)
    below-members rank =
        starting-members (λ start. nat_lt start point) runs rank (nat_lt rank point)
        (λ run found here.
        let bounds = covers-bounds run rank here in
        elim (cases_lt run.first point) [
          | inl less ↦ elim (cases_lt rank point) [
            | inl low ↦ grind (arith, nat_tests, less, low)
            | inr high ↦ absurd (none run found less (omega (arith, high, bounds.1)))
          ]
          | inr from ↦ grind (arith, nat_tests, from, bounds.0)
        ])

    -- The other runs have the other members.
    from-members : (rank : ℕ) → members (starting_from point runs) rank
        ≡ (members runs rank && nat_le point rank)
    from-members rank =
        starting-members (λ start. nat_le point start) runs rank (nat_le point rank)
        (λ run found here.
        let bounds = covers-bounds run rank here in
        elim (cases_lt run.first point) [
          | inl less ↦ elim (cases_lt rank point) [
            | inl low ↦ grind (arith, nat_tests, less, low)
            | inr high ↦ absurd (none run found less (omega (arith, high, bounds.1)))
          ]
          | inr from ↦ grind (arith, nat_tests, from, bounds.0)
        ])

    -- So they are the two parts.
    pub over-parting : IsParting n runs (runs_below point runs) (starting_from point runs) point
    over-parting =
        parts-parting n runs (runs_below point runs) (starting_from point runs) point
        (starting-canonical_in (λ start. nat_lt start point) n runs canonical)
        (starting-canonical_in (λ start. nat_le point start) n runs canonical)
        (λ rank. let one = below-members rank in grind (arith, nat_tests, one))
        from-members

-- ---- a run extends over the rank

module _ (n : ℕ) (runs : List Interval) (canonical : IsCanonicalIn n runs) (point : ℕ)
    (run : Interval) (among : Contains runs run) (above : run.first < point)
    (within : point ≤ run.last) where
  -- Without this run, the list differs only by it.
  joins : IsJoined n (without_start run.first runs) run runs
  joins = without_start-joined n runs canonical run among

  -- None of the other runs extends over the rank.
  rest-over : NoneOver (without_start run.first runs) point
  rest-over other found starts reaches =
      not_both (members (without_start run.first runs) point)
      (contained-members n (without_start run.first runs) joins.fewer_canonical other point found
      (omega (arith, starts)) reaches)
      (joins.free point (omega (arith, above)) (omega (arith, within)))

  -- The other runs, split by their starts.
  parts : IsParting n (without_start run.first runs)
      (runs_below point (without_start run.first runs))
      (starting_from point (without_start run.first runs)) point
  parts = over-parting n (without_start run.first runs) joins.fewer_canonical point rest-over

  -- The run ends within the type.
  in_type : run.last < n
  in_type = (contained-maximal n runs canonical run among).in_type

  -- ---- the low and the high part of the run
  module _ (low high : Interval) (low_starts : low.first ≡ run.first) (low_ends : low.last + 1 ≡ point)
      (high_starts : high.first ≡ point) (high_ends : high.last ≡ run.last) where
    -- Among the runs that start below the rank, the low part takes the place of the run.
    low-is : with_run low (runs_below point (with_run high runs))
        ≡ with_run low (runs_below point (without_start run.first runs))
    low-is =
        ap (with_run low)
        (starting-with_run_not (λ start. nat_lt start point) high runs
        (grind (arith, nat_tests, high_starts))
        (λ start more. grind (arith, nat_tests, high_starts, more)))
        ∙ sym (with_run-without_start low (runs_below point runs))
        ∙ ap (λ (items : List Interval). with_run low items)
        (ap (λ start. without_start start (runs_below point runs)) low_starts
        ∙ starting-swap (λ start. not (start == run.first)) (λ start. nat_lt start point) runs)

    -- The high part is inserted among the runs that start at the rank or past it.
    high-is : starting_from point (with_run high runs)
        ≡ with_run high (starting_from point (without_start run.first runs))
    high-is =
        starting-with_run (λ start. nat_le point start) high runs
        (grind (arith, nat_tests, high_starts))
        ∙ ap (with_run high) (sym (starting-starting (λ start. nat_le point start)
        (λ start. not (start == run.first)) (λ start. nat_le point start) runs
        (λ start. grind (arith, nat_tests, above))))

    -- The low part touches none of the runs that it joins.
    low-joined : IsJoined n (runs_below point (without_start run.first runs)) low
        (with_run low (runs_below point (without_start run.first runs)))
    low-joined =
        with_run-joined n (runs_below point (without_start run.first runs)) parts.low_canonical low
        (omega (arith, low_starts, low_ends, above)) (omega (arith, low_ends, within, in_type))
        (λ rank from to. starting-lacks (λ start. nat_lt start point)
        (without_start run.first runs) rank
        (joins.free rank (omega (arith, from, low_starts)) (omega (arith, to, low_ends, within))))

    -- Nor does the high part.
    high-joined : IsJoined n (starting_from point (without_start run.first runs)) high
        (with_run high (starting_from point (without_start run.first runs)))
    high-joined =
        with_run-joined n (starting_from point (without_start run.first runs)) parts.high_canonical
        high (omega (arith, high_starts, high_ends, within)) (omega (arith, high_ends, in_type))
        (λ rank from to. starting-lacks (λ start. nat_le point start)
        (without_start run.first runs) rank
        (joins.free rank (omega (arith, from, high_starts, above)) (omega (arith, to, high_ends))))

    -- Once the high part of the run is inserted, the runs are split by their starts. Then the low
    -- part takes the place of the run.
    pub within-parting : IsParting n runs (with_run low (runs_below point (with_run high runs)))
        (starting_from point (with_run high runs)) point
    within-parting =
        parts-parting n runs (with_run low (runs_below point (with_run high runs)))
        (starting_from point (with_run high runs)) point
        (subst (IsCanonicalIn n) (sym low-is) low-joined.more_canonical)
        (subst (IsCanonicalIn n) (sym high-is) high-joined.more_canonical)
        (λ rank. ap (λ (items : List Interval). members items rank) low-is
        ∙ (let has = low-joined.has rank in
        let one = parts.below rank in
        let all = joins.has rank in
        grind (arith, nat_tests, has, one, all, low_starts, low_ends, within)))
        (λ rank. ap (λ (items : List Interval). members items rank) high-is
        ∙ (let has = high-joined.has rank in
        let one = parts.from rank in
        let all = joins.has rank in
        grind (arith, nat_tests, has, one, all, high_starts, high_ends, above)))

  -- The run is among those that start below the rank.
  pub within-there : (high : Interval) → high.first ≡ point
      → Contains (runs_below point (with_run high runs)) run
  within-there high starts =
      Contains-starting (λ start. nat_lt start point) (with_run high runs) run
      (Contains-with_run high runs run among (λ same. omega (arith, same, starts, above)))
      (grind (arith, nat_tests, above))

  -- Without the high part, the runs are as they were.
  pub within-without : (high : Interval) → high.first ≡ point
      → without_start point (with_run high runs) ≡ runs
  within-without high starts =
      ap (λ start. without_start start (with_run high runs)) (sym starts)
      ∙ without_start-with_run n 0 high runs (canonical-rises n 0 runs canonical.apart canonical.within)
      (λ other found same.
      let own = (contained-maximal n runs canonical other found).in_order in
      let meets = contained-starts n runs canonical other run point found among
      (covers-inside other point (omega (arith, same, starts)) (omega (arith, same, starts, own)))
      (covers-inside run point (omega (arith, above)) within) in
      omega (arith, meets, same, starts, above))

-- ---- how many members a part has

-- The lengths so far and that of the next run add up to at most n. Those of the others are left to
-- be counted.
pub counted-next : (n number : ℕ) (all rest : List Interval) (run : Interval) → IsCanonicalIn n all
    → number + sum_by length_of (run ∷ rest) ≡ sum_by length_of all
    → (number + length_of run ≤ n)
    × (number + length_of run + sum_by length_of rest ≡ sum_by length_of all)
counted-next n number all rest run canonical counted =
    let within = sum_by-within n all canonical in
    let one = sum_by-cons length_of run rest in
    (omega (arith, counted, within, one), omega (arith, counted, one))
