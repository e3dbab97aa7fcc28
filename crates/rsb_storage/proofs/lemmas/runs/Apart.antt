-- Canonical lists that differ by one run, which touches no other.
use Rattle.std.proofs.Common.{◌≡◌, ◌⊎◌, ℕ, Bool, true, false, not, ◌==◌, nat_lt, ◌&&◌, ◌||◌, ◌+◌, ◌-◌, ◌<◌, ◌≤◌, List, [], ◌∷◌, refl, sym, ap, ◌∙◌, inl, inr, arith}
use Rattle.std.specs.List.{Contains}
use Rattle.std.proofs.lemmas.Bool.{cases_lt}
use Rattle.std.proofs.lemmas.Bool.Decides.{nat_tests}
use Rattle.std.proofs.lemmas.List.Elements.{All-append, All-cons, All-contains, All-filter, All-tail}
use Rattle.rsb_integer.specs.Runs.{Interval, covers, length_of, members, AllEndBelow, IsCanonicalFrom, IsCanonicalIn, IsMaximalRun}
use Rattle.rsb_integer.specs.Selection.{Selection, count}
use Rattle.rsb_integer.proofs.lemmas.Count.{count-covers, count-union}
use Rattle.rsb_integer.proofs.lemmas.List.{true_or_false, not_both, Contains-head, Contains-tail}
use Rattle.rsb_integer.proofs.lemmas.Members.{covers-bounds, covers-inside, members-cons, members-end, members-from, members-in, same_interval}
use Rattle.rsb_integer.proofs.lemmas.Runs.{canonical-maximal}
use Rattle.rsb_storage.specs.Starts.{runs_below, runs_past, runs_starting, with_run, without_start, StartsAscendFrom, LeavesApart, IsJoined, IsLastBelow, NoneBelow}
use Rattle.rsb_storage.proofs.lemmas.runs.Starts.{canonical-rises, starting-canonical_in, starting-contains, with_run-first, with_run-later, ascending-raise}

-- ---- members

-- Suppose that the test gives `chosen` for each run that has the rank. Then the rank is a member of
-- the runs that pass exactly if it is a member and `chosen` is true.
pub starting-members : (test : ℕ → Bool) (runs : List Interval) (rank : ℕ) (chosen : Bool)
    → ((run : Interval) → Contains runs run → covers run rank ≡ true → test run.first ≡ chosen)
    → members (runs_starting test runs) rank ≡ (members runs rank && chosen)
starting-members test [] rank chosen same = refl
starting-members test (run ∷ runs) rank chosen same =
    by (test run.first) refl (same run (Contains-head run runs))
    (starting-members test runs rank chosen
    (λ other found. same other (Contains-tail run runs other found)))
  where
    by : (passes : Bool) → test run.first ≡ passes
        → (covers run rank ≡ true → test run.first ≡ chosen)
        → members (runs_starting test runs) rank ≡ (members runs rank && chosen)
        → members (runs_starting test (run ∷ runs)) rank ≡ (members (run ∷ runs) rank && chosen)
    by true is first rest =
        let all = members-cons run runs rank in
        let some = members-cons run (runs_starting test runs) rank in
        rw is (grind (arith, all, some, is, first, rest))
    by false is first rest =
        let all = members-cons run runs rank in
        rw is (grind (arith, all, is, first, rest))

-- A rank that is not a member of a list is not a member of the runs of the list that pass a test.
pub starting-lacks : (test : ℕ → Bool) (runs : List Interval) (rank : ℕ) → members runs rank ≡ false
    → members (runs_starting test runs) rank ≡ false
starting-lacks test runs rank lacks = elim (true_or_false (members (runs_starting test runs) rank)) [
  | inr none ↦ none
  | inl some ↦
      let found = members-in (runs_starting test runs) rank some in
      absurd (not_both (members runs rank)
      (members-from runs found.0 rank (starting-contains test runs found.0 found.1).0 found.2) lacks)
]

-- If no run of the list starts where `run` does, inserting `run` adds its ranks to the members.
pub with_run-members : (n low : ℕ) (run : Interval) (runs : List Interval) (rank : ℕ)
    → StartsAscendFrom n low runs
    → ((other : Interval) → Contains runs other → other.first ≡ run.first → ⊥)
    → members (with_run run runs) rank ≡ (members runs rank || covers run rank)
with_run-members n low run [] rank ascending apart =
    let one = members-cons run [] rank in grind (arith, one)
with_run-members n low run (first ∷ runs) rank ascending apart =
    let all = members-cons first runs rank in
    elim (cases_lt first.first run.first) [
      | inl less ↦
          let rest = with_run-members n (first.first + 1) run runs rank ascending.rest
          (λ other found. apart other (Contains-tail first runs other found)) in
          let some = members-cons first (with_run run runs) rank in
          rw (with_run-later run first runs less) (grind (arith, all, some, rest))
      | inr reaches ↦ elim (cases_lt run.first first.first) [
        | inl more ↦
            let some = members-cons run (first ∷ runs) rank in
            rw (with_run-first n run (first ∷ runs) (ascending-raise n low (run.first + 1) first runs (omega (arith, more)) ascending))
            (grind (arith, all, some))
        | inr same ↦ absurd
            (apart first (Contains-head first runs) (omega (arith, reaches, same)))
      ]
    ]

-- ---- runs of a canonical list

module _ (n : ℕ) (runs : List Interval) (canonical : IsCanonicalIn n runs) where
  -- Each run of the list is maximal.
  pub contained-maximal : (run : Interval) → Contains runs run → IsMaximalRun n (members runs) run
  contained-maximal run found =
      All-contains (IsMaximalRun n (members runs)) runs run
      (canonical-maximal n 0 runs canonical.apart canonical.within) found

  -- The ranks of a run of the list are members.
  pub contained-members : (run : Interval) (rank : ℕ) → Contains runs run → run.first ≤ rank
      → rank ≤ run.last → members runs rank ≡ true
  contained-members run rank found from to =
      members-from runs run rank found (covers-inside run rank from to)

  -- The rank right before a run of the list is not a member.
  pub contained-before : (run : Interval) (rank : ℕ) → Contains runs run → rank + 1 ≡ run.first
      → members runs rank ≡ false
  contained-before run rank found before =
      let same : run.first - 1 ≡ rank = omega (arith, before) in
      ap (members runs) (sym same)
      ∙ (contained-maximal run found).begins_here (omega (arith, before))

  -- The rank right after a run of the list is not a member.
  pub contained-after : (run : Interval) (rank : ℕ) → Contains runs run → rank ≡ run.last + 1
      → members runs rank ≡ false
  contained-after run rank found after = elim (cases_lt rank n) [
    | inl within ↦
        ap (members runs) after
        ∙ (contained-maximal run found).ends_here (omega (arith, after, within))
    | inr past ↦ members-end n runs rank canonical.within past
  ]

  -- If `run` and `other` share a rank, `run` starts no later.
  pub contained-starts : (run other : Interval) (rank : ℕ) → Contains runs run → Contains runs other
      → covers run rank ≡ true → covers other rank ≡ true → run.first ≤ other.first
  contained-starts run other rank found also here there = elim (cases_lt other.first run.first) [
    | inl less ↦
        let first = covers-bounds run rank here in
        let last = covers-bounds other rank there in
        absurd (not_both (members runs (run.first - 1))
        (contained-members other (run.first - 1) also (omega (arith, less))
        (omega (arith, first.0, last.1)))
        (contained-before run (run.first - 1) found (omega (arith, less))))
    | inr starts ↦ starts
  ]

  -- If they share a rank, `run` ends no earlier.
  pub contained-ends : (run other : Interval) (rank : ℕ) → Contains runs run → Contains runs other
      → covers run rank ≡ true → covers other rank ≡ true → other.last ≤ run.last
  contained-ends run other rank found also here there = elim (cases_lt run.last other.last) [
    | inl less ↦
        let first = covers-bounds run rank here in
        let last = covers-bounds other rank there in
        absurd (not_both (members runs (run.last + 1))
        (contained-members other (run.last + 1) also (omega (arith, first.1, last.0))
        (omega (arith, less)))
        (contained-after run (run.last + 1) found refl))
    | inr ends ↦ ends
  ]

  -- Two runs of the list that share a rank are the same.
  pub contained-one : (run other : Interval) (rank : ℕ) → Contains runs run → Contains runs other
      → covers run rank ≡ true → covers other rank ≡ true → run ≡ other
  contained-one run other rank found also here there =
      let from = contained-starts run other rank found also here there in
      let back = contained-starts other run rank also found there here in
      let to = contained-ends run other rank found also here there in
      let up = contained-ends other run rank also found there here in
      same_interval run other (omega (arith, from, back)) (omega (arith, to, up))

  -- Between the end of the last run that starts below a bound and the bound, no rank is a member.
  pub last-gap : (bound : ℕ) (run : Interval) → IsLastBelow runs bound run → (rank : ℕ)
      → run.last < rank → rank < bound → members runs rank ≡ false
  last-gap bound run is rank more less = elim (true_or_false (members runs rank)) [
    | inl member ↦
        let found = members-in runs rank member in
        let bounds = covers-bounds found.0 rank found.2 in
        let ordered = (contained-maximal run is.among).in_order in
        let before = is.last found.0 found.1 (omega (arith, bounds.0, less)) in
        absurd (not_both (members runs (run.last + 1))
        (contained-members found.0 (run.last + 1) found.1 (omega (arith, before, ordered))
        (omega (arith, more, bounds.1)))
        (contained-after run (run.last + 1) is.among refl))
    | inr lacks ↦ lacks
  ]

  -- If no run starts below a bound, no rank below it is a member.
  pub none-gap : (bound : ℕ) → NoneBelow runs bound → (rank : ℕ) → rank < bound
      → members runs rank ≡ false
  none-gap bound none rank less = elim (true_or_false (members runs rank)) [
    | inl member ↦
        let found = members-in runs rank member in
        let bounds = covers-bounds found.0 rank found.2 in
        absurd (none found.0 found.1 (omega (arith, bounds.0, less)))
    | inr lacks ↦ lacks
  ]

-- ---- one run more, or one fewer

-- If the ranks of a run were not members, adding them increases the number of members by the length
-- of the run.
joined-counted : (n : ℕ) (fewer more : Selection) (run : Interval) → run.last < n
    → ((rank : ℕ) → more rank ≡ (fewer rank || covers run rank))
    → ((rank : ℕ) → covers run rank ≡ true → fewer rank ≡ false)
    → count n more ≡ count n fewer + length_of run
joined-counted n fewer more run ends has apart =
    let one = count-covers n run in
    count-union n more fewer (covers run) has
    (λ rank here. elim (true_or_false (covers run rank)) [
      | inl there ↦ absurd (not_both (fewer rank) here (apart rank there))
      | inr lacks ↦ lacks
    ])
    ∙ ap (λ number. count n fewer + number) (one ∙ omega (arith, ends))

module _ (n : ℕ) (runs : List Interval) (canonical : IsCanonicalIn n runs) (run : Interval) where
  -- ---- a run of the list
  module _ (found : Contains runs run) where
    -- It is non-empty.
    ordered-run : run.first ≤ run.last
    ordered-run = (contained-maximal n runs canonical run found).in_order

    -- Another run that contains a rank starts elsewhere, exactly if `run` lacks that rank.
    starts-elsewhere : (rank : ℕ) (other : Interval) → Contains runs other
        → covers other rank ≡ true → not (other.first == run.first) ≡ not (covers run rank)
    starts-elsewhere rank other also there = elim (true_or_false (covers run rank)) [
      | inl here ↦
          let same = ap (λ (each : Interval). each.first)
          (contained-one n runs canonical run other rank found also here there) in
          grind (arith, nat_tests, same, here)
      | inr lacks ↦ elim (true_or_false (other.first == run.first)) [
        | inl same ↦
            let ordered = ordered-run in
            let bounds = covers-bounds other rank there in
            let meet : run.first ≡ other.first = grind (arith, nat_tests, same) in
            let is = contained-one n runs canonical other run other.first also found
            (covers-inside other other.first (omega arith) (omega (arith, bounds.0, bounds.1)))
            (covers-inside run other.first (omega (arith, meet)) (omega (arith, meet, ordered))) in
            absurd (not_both (covers run rank) (ap (λ each. covers each rank) (sym is) ∙ there) lacks)
        | inr differs ↦ rw (differs, lacks) refl
      ]
    ]

    -- The other runs have the members that `run` lacks.
    others-members : (rank : ℕ) → members (without_start run.first runs) rank
        ≡ (members runs rank && not (covers run rank))
    others-members rank =
        starting-members (λ start. not (start == run.first)) runs rank (not (covers run rank))
        (starts-elsewhere rank)

    -- With the ranks of `run`, these are all members.
    all-members : (rank : ℕ) → members runs rank
        ≡ (members (without_start run.first runs) rank || covers run rank)
    all-members rank =
        let rest = others-members rank in
        elim (true_or_false (covers run rank)) [
          | inl here ↦
              let some = members-from runs run rank found here in grind (arith, some, rest, here)
          | inr lacks ↦ grind (arith, rest, lacks)
        ]

    -- None of the other runs has a rank of `run` or one next to it.
    leaves-apart : LeavesApart (without_start run.first runs) run.first run.last
    leaves-apart rank from to =
        others-members rank
        ∙ elim (cases_lt rank run.first) [
          | inl less ↦
              rw (contained-before n runs canonical run rank found (omega (arith, from, less))) refl
          | inr starts ↦ elim (cases_lt run.last rank) [
            | inl more ↦
                rw (contained-after n runs canonical run rank found (omega (arith, to, more))) refl
            | inr within ↦ let here = covers-inside run rank starts within in grind (arith, here)
          ]
        ]

    -- Without one of its runs, a list differs only by that run, which touches no other.
    pub without_start-joined : IsJoined n (without_start run.first runs) run runs
    without_start-joined = record {
      fewer_canonical = starting-canonical_in (λ start. not (start == run.first)) n runs canonical;
      more_canonical = canonical;
      free = leaves-apart;
      has = all-members;
      counted = joined-counted n (members (without_start run.first runs)) (members runs) run
          (contained-maximal n runs canonical run found).in_type all-members
          (λ rank here. let rest = others-members rank in grind (arith, rest, here));
    }

  module _ (ordered : run.first ≤ run.last) (ends : run.last < n)
      (free : LeavesApart runs run.first run.last) where
    -- Each run of the list ends at least two ranks before `run`, or starts at least two ranks after
    -- it.
    free-apart : (other : Interval) → Contains runs other
        → (other.last + 2 ≤ run.first) ⊎ (run.last + 2 ≤ other.first)
    free-apart other found =
        let order = (contained-maximal n runs canonical other found).in_order in
        elim (cases_lt (run.last + 1) other.first) [
          | inl later ↦ inr (omega (arith, later))
          | inr near ↦ elim (cases_lt (other.last + 1) run.first) [
            | inl before ↦ inl (omega (arith, before))
            | inr reaches ↦ elim (cases_lt (other.first + 1) run.first) [
              | inl starts ↦ absurd (not_both (members runs (run.first - 1))
                  (contained-members n runs canonical other (run.first - 1) found
                  (omega (arith, starts)) (omega (arith, reaches, starts)))
                  (free (run.first - 1) (omega (arith, starts)) (omega (arith, ordered))))
              | inr touches ↦ absurd (not_both (members runs other.first)
                  (contained-members n runs canonical other other.first found (omega arith) order)
                  (free other.first touches near))
            ]
          ]
        ]

    -- Inserting a run that is so far from all others leaves the list canonical.
    free-canonical : (low : ℕ) (items : List Interval) → IsCanonicalFrom low items
        → AllEndBelow n items → low ≤ run.first
        → ((other : Interval) → Contains items other
        → (other.last + 2 ≤ run.first) ⊎ (run.last + 2 ≤ other.first))
        → IsCanonicalFrom low (with_run run items)
    free-canonical low [] rises within from apart = record {
      starts = from;
      in_order = ordered;
      rest = tt;
    }
    free-canonical low (first ∷ items) rises within from apart =
        let order = rises.in_order in
        let ascending = canonical-rises n low (first ∷ items) rises within in
        elim (apart first (Contains-head first items)) [
          | inl before ↦
              rw (with_run-later run first items (omega (arith, before, order))) (record {
                starts = rises.starts;
                in_order = rises.in_order;
                rest = free-canonical (first.last + 2) items rises.rest
                    (All-tail (λ (each : Interval). each.last < n) first items within) before
                    (λ other found. apart other (Contains-tail first items other found));
              })
          | inr later ↦
              rw (with_run-first n run (first ∷ items)
              (ascending-raise n low (run.first + 1) first items (omega (arith, later, ordered))
              ascending))
              (record {
                starts = from;
                in_order = ordered;
                rest = record { starts = later; in_order = rises.in_order; rest = rises.rest };
              })
        ]

    -- Inserting `run` changes the list only by this run, which touches no other.
    pub with_run-joined : IsJoined n runs run (with_run run runs)
    with_run-joined =
        let has : (rank : ℕ) → members (with_run run runs) rank
        ≡ (members runs rank || covers run rank) =
        λ rank. with_run-members n 0 run runs rank
        (canonical-rises n 0 runs canonical.apart canonical.within)
        (λ other found same. elim (free-apart other found) [
          | inl before ↦
              let order = (contained-maximal n runs canonical other found).in_order in
              omega (arith, before, order, same)
          | inr later ↦ omega (arith, later, ordered, same)
        ]) in
        record {
          fewer_canonical = canonical;
          more_canonical = record {
            apart = free-canonical 0 runs canonical.apart canonical.within (omega arith) free-apart;
            within = All-append (λ (each : Interval). each.last < n) (runs_below run.first runs)
                (run ∷ runs_past run.first runs)
                (All-filter (λ (each : Interval). nat_lt each.first run.first)
                (λ (each : Interval). each.last < n) runs canonical.within)
                (All-cons (λ (each : Interval). each.last < n) run (runs_past run.first runs) ends
                (All-filter (λ (each : Interval). nat_lt run.first each.first)
                (λ (each : Interval). each.last < n) runs canonical.within));
          };
          free = free;
          has = has;
          counted = joined-counted n (members runs) (members (with_run run runs)) run ends has
              (λ rank here.
              let bounds = covers-bounds run rank here in
              free rank (omega (arith, bounds.0)) (omega (arith, bounds.1)));
        }
