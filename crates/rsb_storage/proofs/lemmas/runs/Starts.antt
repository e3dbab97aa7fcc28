-- Lists of runs by their starts: those that pass a test, and a run at its place among others.
use Rattle.std.proofs.Common.{◌≡◌, ◌⊎◌, ℕ, Bool, true, false, not, ◌==◌, nat_lt, ◌&&◌, ◌+◌, ◌<◌, ◌≤◌, cond, List, [], ◌∷◌, ◌++◌, append-nil, refl, sym, ap, ◌∙◌, inl, inr, arith, subst}
use Rattle.std.specs.List.{Contains}
use Rattle.std.proofs.lemmas.Bool.{cases_lt}
use Rattle.std.proofs.lemmas.Bool.Decides.{nat_tests}
use Rattle.std.proofs.lemmas.List.Elements.{filter-append, filter_passes, All-contains, All-contains_itself, All-filter, All-head, All-tail, Contains-append_cases, Contains-append_left, Contains-append_right}
use Rattle.rsb_integer.specs.Runs.{Interval, AllEndBelow, IsCanonicalFrom, IsCanonicalIn}
use Rattle.rsb_integer.proofs.lemmas.Canonical.{canonical-lower}
use Rattle.rsb_integer.proofs.lemmas.List.{Contains-cases, Contains-head, Contains-tail}
use Rattle.rsb_storage.specs.Starts.{runs_below, runs_past, runs_starting, with_run, without_start, EndsWith, StartsAscendFrom, IsLastBelow, NoneBelow}

-- ---- runs that pass a test

-- The runs that pass one test and then another are those that pass both.
pub starting-starting : (outer inner both : ℕ → Bool) (runs : List Interval)
    → ((start : ℕ) → (inner start && outer start) ≡ both start)
    → runs_starting outer (runs_starting inner runs) ≡ runs_starting both runs
starting-starting outer inner both [] same = refl
starting-starting outer inner both (run ∷ runs) same =
    by (inner run.first) refl (starting-starting outer inner both runs same)
  where
    by : (test : Bool) → inner run.first ≡ test
        → runs_starting outer (runs_starting inner runs) ≡ runs_starting both runs
        → runs_starting outer (runs_starting inner (run ∷ runs)) ≡ runs_starting both (run ∷ runs)
    by true is rest =
        let one : outer run.first ≡ both run.first =
        ap (λ test. test && outer run.first) (sym is) ∙ same run.first in
        rw is (λ i. cond (one i) (run ∷ rest i) (rest i))
    by false is rest =
        let none : false ≡ both run.first =
        ap (λ test. test && outer run.first) (sym is) ∙ same run.first in
        rw is (λ i. cond (none i) (run ∷ rest i) (rest i))

-- Two tests may change places.
pub starting-swap : (outer inner : ℕ → Bool) (runs : List Interval)
    → runs_starting outer (runs_starting inner runs)
    ≡ runs_starting inner (runs_starting outer runs)
starting-swap outer inner runs =
    starting-starting outer inner (λ start. inner start && outer start) runs (λ start. refl)
    ∙ sym (starting-starting inner outer (λ start. inner start && outer start) runs
    (λ start. grind (arith, outer start, inner start)))

-- If all runs pass a test, the runs that pass are the whole list.
pub starting-all : (test : ℕ → Bool) (runs : List Interval)
    → ((run : Interval) → Contains runs run → test run.first ≡ true) → runs_starting test runs
    ≡ runs
starting-all test [] passes = refl
starting-all test (run ∷ runs) passes =
    rw (passes run (Contains-head run runs))
    (ap (λ (rest : List Interval). run ∷ rest)
    (starting-all test runs (λ other found. passes other (Contains-tail run runs other found))))

-- A run of the list that passes is among those that pass.
pub Contains-starting : (test : ℕ → Bool) (runs : List Interval) (run : Interval)
    → Contains runs run → test run.first ≡ true → Contains (runs_starting test runs) run
Contains-starting test [] run found passes = let none = found.1 in absurd (omega arith)
Contains-starting test (first ∷ runs) run found passes =
    by (test first.first) refl (Contains-starting test runs run)
  where
    by : (here : Bool) → test first.first ≡ here
        → (Contains runs run → test run.first ≡ true → Contains (runs_starting test runs) run)
        → Contains (runs_starting test (first ∷ runs)) run
    by true is rest = elim (Contains-cases first runs run found) [
      | inl same ↦ rw is (subst (Contains (first ∷ runs_starting test runs)) same
          (Contains-head first (runs_starting test runs)))
      | inr later ↦ rw is (Contains-tail first (runs_starting test runs) run (rest later passes))
    ]
    by false is rest = elim (Contains-cases first runs run found) [
      | inl same ↦
          let fails : test run.first ≡ false = ap (λ (each : Interval). test each.first) (sym same) ∙ is
          in absurd (cc)
      | inr later ↦ rw is (rest later passes)
    ]

-- Each run that passes is one of the list, and its start passes the test.
pub starting-contains : (test : ℕ → Bool) (runs : List Interval) (run : Interval)
    → Contains (runs_starting test runs) run → Contains runs run × (test run.first ≡ true)
starting-contains test runs run found = (
  All-contains (Contains runs) (runs_starting test runs) run
      (All-filter (λ (each : Interval). test each.first) (Contains runs) runs
      (All-contains_itself runs)) found,
  All-contains (λ (each : Interval). test each.first ≡ true) (runs_starting test runs) run
      (filter_passes (λ (each : Interval). test each.first) runs) found,
)

-- The runs of a canonical list that pass a test are canonical.
pub starting-canonical : (test : ℕ → Bool) (low : ℕ) (runs : List Interval) → IsCanonicalFrom low runs
    → IsCanonicalFrom low (runs_starting test runs)
starting-canonical test low [] canonical = tt
starting-canonical test low (run ∷ runs) canonical =
    let starts = canonical.starts in
    let ordered = canonical.in_order in
    let rest = starting-canonical test (run.last + 2) runs canonical.rest in
    by (test run.first) refl rest
    (canonical-lower (run.last + 2) low (runs_starting test runs) (omega (arith, starts, ordered))
    rest)
  where
    by : (passes : Bool) → test run.first ≡ passes
        → IsCanonicalFrom (run.last + 2) (runs_starting test runs)
        → IsCanonicalFrom low (runs_starting test runs)
        → IsCanonicalFrom low (runs_starting test (run ∷ runs))
    by true is rest all = rw is
        (record { starts = canonical.starts; in_order = canonical.in_order; rest = rest })
    by false is rest all = rw is all

-- The same holds within a type.
pub starting-canonical_in : (test : ℕ → Bool) (n : ℕ) (runs : List Interval) → IsCanonicalIn n runs
    → IsCanonicalIn n (runs_starting test runs)
starting-canonical_in test n runs canonical = record {
  apart = starting-canonical test 0 runs canonical.apart;
  within = All-filter (λ (run : Interval). test run.first) (λ (run : Interval). run.last < n) runs
      canonical.within;
}

-- ---- starts that ascend

-- Starts that ascend do so from each rank up to the first one.
pub ascending-raise : (n low from : ℕ) (run : Interval) (runs : List Interval) → from ≤ run.first
    → StartsAscendFrom n low (run ∷ runs) → StartsAscendFrom n from (run ∷ runs)
ascending-raise n low from run runs starts ascending = record {
  starts = starts;
  in_type = ascending.in_type;
  rest = ascending.rest;
}

-- Starts that ascend from `low` on also ascend from a lower rank on.
pub ascending-lower : (n low lower : ℕ) (runs : List Interval) → lower ≤ low
    → StartsAscendFrom n low runs → StartsAscendFrom n lower runs
ascending-lower n low lower [] less ascending = tt
ascending-lower n low lower (run ∷ runs) less ascending =
    let starts = ascending.starts in
    ascending-raise n low lower run runs (omega (arith, starts, less)) ascending

-- The starts of canonical runs ascend.
pub canonical-rises : (n low : ℕ) (runs : List Interval) → IsCanonicalFrom low runs
    → AllEndBelow n runs → StartsAscendFrom n low runs
canonical-rises n low [] canonical ends = tt
canonical-rises n low (run ∷ runs) canonical ends =
    let ordered = canonical.in_order in
    let first = All-head (λ (each : Interval). each.last < n) run runs ends in
    let rest = canonical-rises n (run.last + 2) runs canonical.rest
    (All-tail (λ (each : Interval). each.last < n) run runs ends) in
    record {
      starts = canonical.starts;
      in_type = omega (arith, ordered, first);
      rest = ascending-lower n (run.last + 2) (run.first + 1) runs (omega (arith, ordered)) rest;
    }

-- If the starts of a list ascend, so do those of the runs that pass a test.
pub starting-ascending : (test : ℕ → Bool) (n low : ℕ) (runs : List Interval)
    → StartsAscendFrom n low runs → StartsAscendFrom n low (runs_starting test runs)
starting-ascending test n low [] ascending = tt
starting-ascending test n low (run ∷ runs) ascending =
    let starts = ascending.starts in
    let rest = starting-ascending test n (run.first + 1) runs ascending.rest in
    by (test run.first) refl rest
    (ascending-lower n (run.first + 1) low (runs_starting test runs) (omega (arith, starts)) rest)
  where
    by : (passes : Bool) → test run.first ≡ passes
        → StartsAscendFrom n (run.first + 1) (runs_starting test runs)
        → StartsAscendFrom n low (runs_starting test runs)
        → StartsAscendFrom n low (runs_starting test (run ∷ runs))
    by true is rest all = rw is
        (record { starts = ascending.starts; in_type = ascending.in_type; rest = rest })
    by false is rest all = rw is all

-- If all ranks from `low` on pass a test, the runs that pass are the whole list.
pub ascending-all : (test : ℕ → Bool) (n low : ℕ) (runs : List Interval) → StartsAscendFrom n low runs
    → ((start : ℕ) → low ≤ start → test start ≡ true) → runs_starting test runs ≡ runs
ascending-all test n low [] ascending passes = refl
ascending-all test n low (run ∷ runs) ascending passes =
    rw (passes run.first ascending.starts)
    (ap (λ (rest : List Interval). run ∷ rest)
    (ascending-all test n (run.first + 1) runs ascending.rest
    (λ start from. passes start (omega (arith, from, ascending.starts)))))

-- If all of those ranks fail it, no run passes.
pub ascending-none : (test : ℕ → Bool) (n low : ℕ) (runs : List Interval) → StartsAscendFrom n low runs
    → ((start : ℕ) → low ≤ start → test start ≡ false) → runs_starting test runs ≡ []
ascending-none test n low [] ascending fails = refl
ascending-none test n low (run ∷ runs) ascending fails =
    rw (fails run.first ascending.starts)
    (ascending-none test n (run.first + 1) runs ascending.rest
    (λ start from. fails start (omega (arith, from, ascending.starts))))

-- Each run starts at `low` or later.
pub ascending-contains : (n low : ℕ) (runs : List Interval) (run : Interval) → StartsAscendFrom n low runs
    → Contains runs run → low ≤ run.first
ascending-contains n low [] run ascending found = let none = found.1 in absurd (omega arith)
ascending-contains n low (first ∷ runs) run ascending found =
    let starts = ascending.starts in
    elim (Contains-cases first runs run found) [
      | inl same ↦ subst (λ (each : Interval). low ≤ each.first) same starts
      | inr later ↦
          let more = ascending-contains n (first.first + 1) runs run ascending.rest later in
          omega (arith, starts, more)
    ]

-- Each run before the last starts below it.
pub ascending-before : (n low : ℕ) (front : List Interval) (last : Interval) (run : Interval)
    → StartsAscendFrom n low (front ++ last ∷ []) → Contains front run → run.first < last.first
ascending-before n low [] last run ascending found = let none = found.1 in absurd (omega arith)
ascending-before n low (first ∷ front) last run ascending found =
    elim (Contains-cases first front run found) [
      | inl same ↦
          let later = ascending-contains n (first.first + 1) (front ++ last ∷ []) last ascending.rest
          (Contains-append_right front (last ∷ []) last (Contains-head last [])) in
          subst (λ (each : Interval). each.first < last.first) same (omega (arith, later))
      | inr later ↦ ascending-before n (first.first + 1) front last run ascending.rest later
    ]

-- The runs that start below the last run are all the runs before it.
pub below-push : (n low : ℕ) (front : List Interval) (last : Interval)
    → StartsAscendFrom n low (front ++ last ∷ []) → runs_below last.first (front ++ last ∷ [])
    ≡ front
below-push n low [] last ascending =
    let not_below : nat_lt last.first last.first ≡ false = grind (arith, nat_tests) in
    rw not_below refl
below-push n low (first ∷ front) last ascending =
    let later = ascending-before n low (first ∷ front) last first ascending
    (Contains-head first front) in
    let is_below : nat_lt first.first last.first ≡ true = grind (arith, nat_tests, later) in
    rw is_below (ap (λ (rest : List Interval). first ∷ rest)
    (below-push n (first.first + 1) front last ascending.rest))

-- The last of the runs that start below a bound is as `IsLastBelow` states.
pub EndsWith-last : (n : ℕ) (bound : ℕ) (runs : List Interval) (run : Interval)
    → StartsAscendFrom n 0 runs → EndsWith (runs_below bound runs) run → IsLastBelow runs bound run
EndsWith-last n bound runs run ascending found =
    let has = starting-contains (λ start. nat_lt start bound) runs run
    (subst (λ (items : List Interval). Contains items run) (sym found.parts)
    (Contains-append_right found.front (run ∷ []) run (Contains-head run []))) in
    record {
      among = has.0;
      starts = grind (arith, nat_tests, has.1);
      last = λ other also less.
          let under : nat_lt other.first bound ≡ true = grind (arith, nat_tests, less) in
          let there = subst (λ (items : List Interval). Contains items other) found.parts
          (Contains-starting (λ start. nat_lt start bound) runs other also under) in
          elim (Contains-append_cases found.front (run ∷ []) other there) [
            | inl front ↦
                let before = ascending-before n 0 found.front run other
                (subst (StartsAscendFrom n 0) found.parts
                (starting-ascending (λ start. nat_lt start bound) n 0 runs ascending)) front in
                omega (arith, before)
            | inr last ↦ elim (Contains-cases run [] other last) [
              | inl same ↦ subst (λ (each : Interval). each.first ≤ run.first) same (omega arith)
              | inr none ↦ let nothing = none.1 in absurd (omega arith)
            ]
          ];
    }

-- If the list of these runs is empty, no run starts below the bound.
pub below-none : (bound : ℕ) (runs : List Interval) → runs_below bound runs ≡ []
    → NoneBelow runs bound
below-none bound runs none run found less =
    let under : nat_lt run.first bound ≡ true = grind (arith, nat_tests, less) in
    let there = subst (λ (items : List Interval). Contains items run) none
    (Contains-starting (λ start. nat_lt start bound) runs run found under) in
    let nothing = there.1 in omega arith

-- ---- a run at its place

-- A run that is inserted before runs that all start past it comes first.
pub with_run-first : (n : ℕ) (run : Interval) (runs : List Interval)
    → StartsAscendFrom n (run.first + 1) runs → with_run run runs ≡ run ∷ runs
with_run-first n run runs ascending = λ i.
    ascending-none (λ start. nat_lt start run.first) n (run.first + 1) runs ascending
    (λ start from. grind (arith, nat_tests, from)) i
    ++ run ∷ ascending-all (λ start. nat_lt run.first start) n (run.first + 1) runs ascending
    (λ start from. grind (arith, nat_tests, from)) i

-- If the first run of a list starts below the inserted one, this goes among the others.
pub with_run-later : (run first : Interval) (runs : List Interval) → first.first < run.first
    → with_run run (first ∷ runs) ≡ first ∷ with_run run runs
with_run-later run first runs less =
    let is_below : nat_lt first.first run.first ≡ true = grind (arith, nat_tests, less) in
    let not_past : nat_lt run.first first.first ≡ false = grind (arith, nat_tests, less) in
    rw (is_below, not_past) refl

-- If the first run of a list has the start of the inserted one, the result is as without that first
-- run.
pub with_run-here : (run first : Interval) (runs : List Interval) → run.first ≡ first.first
    → with_run run (first ∷ runs) ≡ with_run run runs
with_run-here run first runs same =
    let not_below : nat_lt first.first run.first ≡ false = grind (arith, nat_tests, same) in
    let not_past : nat_lt run.first first.first ≡ false = grind (arith, nat_tests, same) in
    rw (not_below, not_past) refl

-- After the insertion, the starts still ascend.
pub with_run-ascending : (n low : ℕ) (run : Interval) (runs : List Interval) → StartsAscendFrom n low runs
    → low ≤ run.first → run.first < n → StartsAscendFrom n low (with_run run runs)
with_run-ascending n low run [] ascending from value = record {
  starts = from;
  in_type = value;
  rest = tt;
}
with_run-ascending n low run (first ∷ runs) ascending from value =
    let starts = ascending.starts in
    elim (cases_lt first.first run.first) [
      | inl less ↦
          rw (with_run-later run first runs less) (record {
            starts = ascending.starts;
            in_type = ascending.in_type;
            rest = with_run-ascending n (first.first + 1) run runs ascending.rest
                (omega (arith, less)) value;
          })
      | inr reaches ↦ elim (cases_lt run.first first.first) [
        | inl more ↦
            let past = ascending-raise n low (run.first + 1) first runs (omega (arith, more))
            ascending in
            rw (with_run-first n run (first ∷ runs) past)
            (record { starts = from; in_type = value; rest = past })
        | inr less ↦
            let same : run.first ≡ first.first = omega (arith, reaches, less) in
            let rest = ascending-lower n (first.first + 1) (run.first + 1) runs (omega (arith, same))
            ascending.rest in
            rw (with_run-here run first runs same, with_run-first n run runs rest)
            (record { starts = from; in_type = value; rest = rest })
      ]
    ]

-- If the inserted run passes a test, the test may be applied before the insertion.
pub starting-with_run : (test : ℕ → Bool) (run : Interval) (runs : List Interval)
    → test run.first ≡ true → runs_starting test (with_run run runs)
    ≡ with_run run (runs_starting test runs)
starting-with_run test run runs passes =
    filter-append (λ (each : Interval). test each.first) (runs_below run.first runs)
    (run ∷ runs_past run.first runs)
    ∙ rw passes (λ i. starting-swap test (λ start. nat_lt start run.first) runs i
    ++ run ∷ starting-swap test (λ start. nat_lt run.first start) runs i)

-- If the inserted run and all starts past it fail a test, the insertion does not change which runs
-- pass.
pub starting-with_run_not : (test : ℕ → Bool) (run : Interval) (runs : List Interval)
    → test run.first ≡ false → ((start : ℕ) → run.first < start → test start ≡ false)
    → runs_starting test (with_run run runs) ≡ runs_starting test runs
starting-with_run_not test run runs fails above =
    filter-append (λ (each : Interval). test each.first) (runs_below run.first runs)
    (run ∷ runs_past run.first runs)
    ∙ rw fails (λ i. starting-starting test (λ start. nat_lt start run.first) test runs
    (λ start. elim (cases_lt start run.first) [
      | inl less ↦
          let is : nat_lt start run.first ≡ true = grind (arith, nat_tests, less) in rw is refl
      | inr reaches ↦ elim (cases_lt run.first start) [
        | inl more ↦ let none = above start more in grind (arith, none)
        | inr same ↦
            let is : start ≡ run.first = omega (arith, reaches, same) in
            let none = ap test is ∙ fails in grind (arith, none)
      ]
    ]) i
    ++ starting-starting test (λ start. nat_lt run.first start) (λ start. false) runs
    (λ start. elim (cases_lt run.first start) [
      | inl more ↦ let none = above start more in grind (arith, none)
      | inr less ↦
          let not_past : nat_lt run.first start ≡ false = grind (arith, nat_tests, less) in
          rw not_past refl
    ]) i)
    ∙ ap (λ (rest : List Interval). runs_starting test runs ++ rest) (starting-none runs)
    ∙ append-nil (runs_starting test runs)
  where
    -- No run passes a test that always fails.
    starting-none : (items : List Interval) → runs_starting (λ start. false) items ≡ []
    starting-none [] = refl
    starting-none (item ∷ items) = starting-none items

-- If a run is inserted where no other starts, removing it again gives the old list.
pub without_start-with_run : (n low : ℕ) (run : Interval) (runs : List Interval)
    → StartsAscendFrom n low runs
    → ((other : Interval) → Contains runs other → other.first ≡ run.first → ⊥)
    → without_start run.first (with_run run runs) ≡ runs
without_start-with_run n low run [] ascending elsewhere =
    let same : (run.first == run.first) ≡ true = grind (arith, nat_tests) in rw same refl
without_start-with_run n low run (first ∷ runs) ascending elsewhere =
    elim (cases_lt first.first run.first) [
      | inl less ↦
          let differs : (first.first == run.first) ≡ false = grind (arith, nat_tests, less) in
          rw (with_run-later run first runs less, differs)
          (ap (λ (rest : List Interval). first ∷ rest)
          (without_start-with_run n (first.first + 1) run runs ascending.rest
          (λ other found. elsewhere other (Contains-tail first runs other found))))
      | inr reaches ↦ elim (cases_lt run.first first.first) [
        | inl more ↦
            let same : (run.first == run.first) ≡ true = grind (arith, nat_tests) in
            rw (
              with_run-first n run (first ∷ runs)
                  (ascending-raise n low (run.first + 1) first runs (omega (arith, more)) ascending),
              same,
            )
            (ascending-all (λ start. not (start == run.first)) n first.first (first ∷ runs)
            (ascending-raise n low first.first first runs (omega arith) ascending)
            (λ start from. grind (arith, nat_tests, from, more)))
        | inr less ↦ absurd (elsewhere first (Contains-head first runs) (omega (arith, reaches, less)))
      ]
    ]

-- The result of an insertion does not depend on a run that starts at the same rank.
pub with_run-without_start : (run : Interval) (runs : List Interval)
    → with_run run (without_start run.first runs) ≡ with_run run runs
with_run-without_start run runs = λ i.
    starting-starting (λ start. nat_lt start run.first) (λ start. not (start == run.first))
    (λ start. nat_lt start run.first) runs (λ start. grind (arith, nat_tests)) i
    ++ run ∷ starting-starting (λ start. nat_lt run.first start) (λ start. not (start == run.first))
    (λ start. nat_lt run.first start) runs (λ start. grind (arith, nat_tests)) i

-- Each run of the result is the inserted one, or a run of the old list that starts elsewhere.
pub with_run-contains : (run : Interval) (runs : List Interval) (other : Interval)
    → Contains (with_run run runs) other → (run ≡ other)
    ⊎ (Contains runs other × ((other.first ≡ run.first) → ⊥))
with_run-contains run runs other found =
    elim (Contains-append_cases (runs_below run.first runs) (run ∷ runs_past run.first runs) other
    found) [
      | inl less ↦
          let is = starting-contains (λ start. nat_lt start run.first) runs other less in
          inr (is.0, λ same. grind (arith, nat_tests, same, is.1))
      | inr rest ↦ elim (Contains-cases run (runs_past run.first runs) other rest) [
        | inl same ↦ inl same
        | inr more ↦
            let is = starting-contains (λ start. nat_lt run.first start) runs other more in
            inr (is.0, λ same. grind (arith, nat_tests, same, is.1))
      ]
    ]

-- Each run of the old list that starts elsewhere is in the result.
pub Contains-with_run : (run : Interval) (runs : List Interval) (other : Interval)
    → Contains runs other → ((other.first ≡ run.first) → ⊥) → Contains (with_run run runs) other
Contains-with_run run runs other found elsewhere = elim (cases_lt other.first run.first) [
  | inl less ↦
      Contains-append_left (runs_below run.first runs) (run ∷ runs_past run.first runs) other
      (Contains-starting (λ start. nat_lt start run.first) runs other found
      (grind (arith, nat_tests, less)))
  | inr reaches ↦ elim (cases_lt run.first other.first) [
    | inl more ↦
        Contains-append_right (runs_below run.first runs) (run ∷ runs_past run.first runs) other
        (Contains-tail run (runs_past run.first runs) other
        (Contains-starting (λ start. nat_lt run.first start) runs other found
        (grind (arith, nat_tests, more))))
    | inr less ↦ absurd (elsewhere (omega (arith, reaches, less)))
  ]
]
