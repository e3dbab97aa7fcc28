-- A canonical list is exactly the ascending list of the maximal runs of its members.
use Rattle.std.proofs.Common.{◌≡◌, ◌≢◌, ◌↔◌, ℕ, suc, true, false, ◌+◌, ◌-◌, ◌<◌, ◌≤◌, List, [], ◌∷◌, get_or, refl, sym, ◌∙◌, subst, inl, inr, arith}
use Rattle.std.proofs.lemmas.Bool.{cases_lt}
use Rattle.std.proofs.lemmas.List.Elements.{All-head, All-tail, All-cons, All-nil, All-contains, All-weaker}
use Rattle.std.specs.List.{All, AllPairs, Contains}
use Rattle.rsb_integer.specs.Runs.{Interval, members, IsCanonicalFrom, IsCanonical, AllEndBelow, IsCanonicalIn, IsMaximalRun, AreRuns}
use Rattle.rsb_integer.specs.Selection.{Selection, Agree}
use Rattle.rsb_integer.proofs.lemmas.List.{true_or_false, not_both, All-both, AllPairs-tail, Contains-head, Contains-tail}
use Rattle.rsb_integer.proofs.lemmas.Members.{covers-bounds, covers-inside, members-below, members-covered, members-from, members-head, members-in, members-tail, same_interval}
use Rattle.rsb_integer.proofs.lemmas.Canonical.{canonical-ascending, canonical-same, canonical-starts}
use Rattle.rsb_integer.proofs.lemmas.Maximal.{maximal-around}

-- ---- a canonical list is the list of the maximal runs of its members

-- The first interval of a canonical list is a maximal run of the members of the list.
head-maximal : (n : ℕ) (run : Interval) (runs : List Interval) → run.first ≤ run.last → run.last < n
    → IsCanonicalFrom (run.last + 2) runs → IsMaximalRun n (members (run ∷ runs)) run
head-maximal n run runs ordered below rest = record {
  in_order = ordered;
  in_type = below;
  whole = members-covered run runs;
  begins_here = λ above.
      members-tail run runs (run.first - 1) (inl (omega arith))
      ∙ members-below (run.last + 2) runs (run.first - 1) rest (omega arith);
  ends_here = λ more.
      members-tail run runs (run.last + 1) (inr (omega arith))
      ∙ members-below (run.last + 2) runs (run.last + 1) rest (omega arith);
}

-- A maximal run of the other intervals is one of the whole list, if it starts past the first
-- interval with a gap between.
tail-maximal : (n : ℕ) (run : Interval) (runs : List Interval) (other : Interval)
    → run.last + 2 ≤ other.first → IsMaximalRun n (members runs) other
    → IsMaximalRun n (members (run ∷ runs)) other
tail-maximal n run runs other later maximal =
    let ordered = maximal.in_order in
    record {
      in_order = ordered;
      in_type = maximal.in_type;
      whole = λ rank here.
          let bounds = covers-bounds other rank here in
          members-tail run runs rank (inr (omega (arith, bounds.0))) ∙ maximal.whole rank here;
      begins_here = λ above.
          members-tail run runs (other.first - 1) (inr (omega arith)) ∙ maximal.begins_here above;
      ends_here = λ more.
          members-tail run runs (other.last + 1) (inr (omega arith)) ∙ maximal.ends_here more;
    }

-- Each interval of a canonical list is a maximal run of the members of the list.
pub canonical-maximal : (n low : ℕ) (runs : List Interval) → IsCanonicalFrom low runs
    → AllEndBelow n runs
    → All (IsMaximalRun n (members runs)) runs
canonical-maximal n low [] canonical below = All-nil (IsMaximalRun n (members []))
canonical-maximal n low (run ∷ runs) canonical below =
    let tail = All-tail (λ (other : Interval). other.last < n) run runs below in
    All-cons (IsMaximalRun n (members (run ∷ runs))) run runs
    (head-maximal n run runs canonical.in_order
    (All-head (λ (other : Interval). other.last < n) run runs below)
    canonical.rest)
    (All-both (λ (other : Interval). run.last + 2 ≤ other.first) (IsMaximalRun n (members runs))
    (IsMaximalRun n (members (run ∷ runs))) (tail-maximal n run runs) runs
    (canonical-starts (run.last + 2) runs canonical.rest)
    (canonical-maximal n (run.last + 2) runs canonical.rest tail))

-- A maximal run that starts within the first interval is that interval.
maximal-head : (n : ℕ) (run : Interval) (runs : List Interval) (other : Interval)
    → run.first ≤ run.last → run.last < n → IsCanonicalFrom (run.last + 2) runs
    → IsMaximalRun n (members (run ∷ runs)) other → run.first ≤ other.first → other.first ≤ run.last
    → run ≡ other
maximal-head n run runs other ordered below rest maximal low high =
    let order = maximal.in_order in
    let gap : members (run ∷ runs) (run.last + 1) ≡ false =
    members-tail run runs (run.last + 1) (inr (omega arith))
    ∙ members-below (run.last + 2) runs (run.last + 1) rest (omega arith) in
    let first : run.first ≡ other.first = elim (cases_lt run.first other.first) [
      | inl less ↦
          absurd (not_both (members (run ∷ runs) (other.first - 1))
          (members-head run runs (other.first - 1) (omega arith) (omega arith))
          (maximal.begins_here (omega arith)))
      | inr same ↦ omega arith
    ] in
    let last : run.last ≡ other.last = elim (cases_lt run.last other.last) [
      | inl less ↦
          absurd (not_both (members (run ∷ runs) (run.last + 1))
          (maximal.whole (run.last + 1) (covers-inside other (run.last + 1) (omega arith)
          (omega arith)))
          gap)
      | inr most ↦ elim (cases_lt other.last run.last) [
        | inl less ↦
            absurd (not_both (members (run ∷ runs) (other.last + 1))
            (members-head run runs (other.last + 1) (omega arith) (omega arith))
            (maximal.ends_here (omega arith)))
        | inr same ↦ omega arith
      ]
    ] in
    same_interval run other first last

-- A maximal run that starts past the first interval, with a gap between, is one of the others.
maximal-tail : (n : ℕ) (run : Interval) (runs : List Interval) (other : Interval)
    → run.last + 1 < other.first
    → IsMaximalRun n (members (run ∷ runs)) other → IsMaximalRun n (members runs) other
maximal-tail n run runs other past maximal =
    let ordered = maximal.in_order in
    record {
      in_order = ordered;
      in_type = maximal.in_type;
      whole = λ rank here.
          let bounds = covers-bounds other rank here in
          sym (members-tail run runs rank (inr (omega (arith, bounds.0))))
          ∙ maximal.whole rank here;
      begins_here = λ above.
          sym (members-tail run runs (other.first - 1) (inr (omega arith)))
          ∙ maximal.begins_here above;
      ends_here = λ more.
          sym (members-tail run runs (other.last + 1) (inr (omega arith))) ∙ maximal.ends_here more;
    }

-- Each maximal run of the members of a canonical list is in the list.
pub canonical-complete : (n low : ℕ) (runs : List Interval) (other : Interval)
    → IsCanonicalFrom low runs
    → AllEndBelow n runs → IsMaximalRun n (members runs) other → Contains runs other
canonical-complete n low [] other canonical below maximal =
    absurd (not_both (members [] other.first)
    (maximal.whole other.first (covers-inside other other.first (omega arith) maximal.in_order))
    refl)
canonical-complete n low (run ∷ runs) other canonical below maximal =
    let starts = canonical.starts in
    let ordered = canonical.in_order in
    let ends : run.last < n = All-head (λ (each : Interval). each.last < n) run runs below in
    let tail = All-tail (λ (each : Interval). each.last < n) run runs below in
    let start : members (run ∷ runs) other.first ≡ true =
    maximal.whole other.first (covers-inside other other.first (omega arith) maximal.in_order)
    in
    elim (cases_lt run.last other.first) [
      | inl past ↦
          let here : members runs other.first ≡ true =
          sym (members-tail run runs other.first (inr past)) ∙ start in
          let apart : other.first ≢ run.last + 1 = λ touching.
          not_both (members runs other.first) here
          (members-below (run.last + 2) runs other.first canonical.rest (omega arith)) in
          Contains-tail run runs other
          (canonical-complete n (run.last + 2) runs other canonical.rest tail
          (maximal-tail n run runs other (omega arith) maximal))
      | inr within ↦ elim (cases_lt other.first run.first) [
        | inl before ↦
            absurd (not_both (members (run ∷ runs) other.first) start
            (members-tail run runs other.first (inl before)
            ∙ members-below (run.last + 2) runs other.first canonical.rest (omega arith)))
        | inr after ↦
            subst (λ (each : Interval). Contains (run ∷ runs) each)
            (maximal-head n run runs other ordered ends canonical.rest maximal after within)
            (Contains-head run runs)
      ]
    ]

-- A canonical list is the list of the runs of its members.
pub canonical-runs : (n : ℕ) (runs : List Interval) → IsCanonical runs → AllEndBelow n runs
    → AreRuns n (members runs) runs
canonical-runs n runs canonical below = record {
  ascending = canonical-ascending 0 runs canonical;
  maximal = canonical-maximal n 0 runs canonical below;
  complete = λ other maximal. canonical-complete n 0 runs other canonical below maximal;
}

-- ---- the runs of a set are a canonical list with its members

-- The members of the runs of a set are those of the set.
pub runs-members : (n : ℕ) (selected : Selection) (runs : List Interval) → AreRuns n selected runs
    → Agree n (members runs) selected
runs-members n selected runs all rank below = elim (true_or_false (selected rank)) [
  | inl here ↦
      let found = maximal-around n selected rank below here in
      members-from runs found.0 rank (all.complete found.0 found.1) found.2 ∙ sym here
  | inr not_here ↦ elim (true_or_false (members runs rank)) [
    | inl member ↦
        let found = members-in runs rank member in
        let maximal = All-contains (IsMaximalRun n selected) runs found.0 all.maximal found.1 in
        absurd (not_both (selected rank) (maximal.whole rank found.2) not_here)
    | inr none ↦ none ∙ sym not_here
  ]
]

-- There is a gap between two maximal runs.
maximal-apart : (n : ℕ) (selected : Selection) (run other : Interval) → IsMaximalRun n selected run
    → IsMaximalRun n selected other → run.first < other.first → run.last + 2 ≤ other.first
maximal-apart n selected run other maximal next less =
    let ordered = maximal.in_order in
    let order = next.in_order in
    let below = next.in_type in
    elim (cases_lt run.last other.first) [
      | inr within ↦
          absurd (not_both (selected (other.first - 1))
          (maximal.whole (other.first - 1)
          (covers-inside run (other.first - 1) (omega arith) (omega arith)))
          (next.begins_here (omega arith)))
      | inl past ↦ elim (cases_lt (run.last + 1) other.first) [
        | inl apart ↦ omega arith
        | inr touching ↦
            absurd (not_both (selected (run.last + 1))
            (next.whole (run.last + 1) (covers-inside other (run.last + 1) (omega arith)
            (omega arith)))
            (maximal.ends_here (omega arith)))
      ]
    ]

-- Maximal runs that ascend and start at `low` or later are a list that is canonical from `low`.
ascending-canonical : (n : ℕ) (selected : Selection) (low : ℕ) (runs : List Interval)
    → AllPairs (λ (before after : Interval). before.first < after.first) runs
    → All (IsMaximalRun n selected) runs → All (λ (run : Interval). low ≤ run.first) runs
    → IsCanonicalFrom low runs
ascending-canonical n selected low [] ascending maximal starts = tt
ascending-canonical n selected low (run ∷ runs) ascending maximal starts =
    let first = All-head (IsMaximalRun n selected) run runs maximal in
    let others = All-tail (IsMaximalRun n selected) run runs maximal in
    let later = AllPairs-tail (λ (before after : Interval). before.first < after.first) run runs
    ascending in
    record {
      starts = All-head (λ (each : Interval). low ≤ each.first) run runs starts;
      in_order = first.in_order;
      rest = ascending-canonical n selected (run.last + 2) runs later others
          (λ k default within. maximal-apart n selected run (get_or runs k default) first
          (others k default within)
          (ascending 0 (suc k) default (omega arith) (omega arith)));
    }

-- The runs of a set are a canonical list within its type.
pub runs-canonical : (n : ℕ) (selected : Selection) (runs : List Interval) → AreRuns n selected runs
    → IsCanonicalIn n runs
runs-canonical n selected runs all = record {
  apart = ascending-canonical n selected 0 runs all.ascending all.maximal
      (λ k default within. omega arith);
  within = All-weaker (IsMaximalRun n selected) (λ (run : Interval). run.last < n)
      (λ run maximal. maximal.in_type)
      runs all.maximal;
}

-- ---- canonical lists as runs

-- A list is canonical if and only if it is the list of the runs of its own members.
pub canonical-is_runs : (n : ℕ) (runs : List Interval)
    → IsCanonicalIn n runs ↔ AreRuns n (members runs) runs
canonical-is_runs n runs = (
  (λ canonical. canonical-runs n runs canonical.apart canonical.within),
  (λ all. runs-canonical n (members runs) runs all),
)

-- ---- runs of sets that agree

-- Sets that agree have the same runs.
pub runs-same : (n : ℕ) (selected other : Selection) (runs others : List Interval)
    → AreRuns n selected runs
    → AreRuns n other others → Agree n selected other → runs ≡ others
runs-same n selected other runs others left right same =
    let canonical = runs-canonical n selected runs left in
    let other_canonical = runs-canonical n other others right in
    canonical-same n runs others canonical.apart other_canonical.apart canonical.within
    other_canonical.within
    (λ rank below. runs-members n selected runs left rank below ∙ same rank below
    ∙ sym (runs-members n other others right rank below))

-- A maximal run of a set is also one of each set that agrees with it.
maximal-along : (n : ℕ) (selected other : Selection) → Agree n selected other → (run : Interval)
    → IsMaximalRun n selected run → IsMaximalRun n other run
maximal-along n selected other same run maximal =
    let ordered = maximal.in_order in
    let below = maximal.in_type in
    record {
      in_order = ordered;
      in_type = below;
      whole = λ rank here.
          let bounds = covers-bounds run rank here in
          sym (same rank (omega (arith, bounds.1))) ∙ maximal.whole rank here;
      begins_here = λ above. sym (same (run.first - 1) (omega arith)) ∙ maximal.begins_here above;
      ends_here = λ more. sym (same (run.last + 1) more) ∙ maximal.ends_here more;
    }

-- The runs of a set are the runs of each set that agrees with it.
pub runs-along : (n : ℕ) (selected other : Selection) (runs : List Interval)
    → Agree n selected other
    → AreRuns n selected runs → AreRuns n other runs
runs-along n selected other runs same all = record {
  ascending = all.ascending;
  maximal = All-weaker (IsMaximalRun n selected) (IsMaximalRun n other)
      (maximal-along n selected other same)
      runs all.maximal;
  complete = λ run maximal.
      all.complete run (maximal-along n other selected (λ rank below. sym (same rank below)) run
      maximal);
}

-- A canonical list with the members of a set is the list of the runs of that set.
pub runs-from_canonical : (n : ℕ) (selected : Selection) (runs : List Interval) → IsCanonical runs
    → AllEndBelow n runs → Agree n (members runs) selected → AreRuns n selected runs
runs-from_canonical n selected runs canonical below same =
    runs-along n (members runs) selected runs same (canonical-runs n runs canonical below)
