-- The laws of streams: facts about lists of intervals, and about what a stream may give.
use Rattle.std.proofs.Common.{◌≡◌, ℕ, zero, suc, ◌+◌, ◌<◌, ◌≤◌, true, false, List, [], ◌∷◌, refl, sym, ap, ◌∙◌, subst, inl, inr, arith}
use Rattle.std.proofs.lemmas.Bool.{cases_lt}
use Rattle.std.proofs.lemmas.List.Elements.{All-head, All-tail, All-cons, All-nil}
use Rattle.std.specs.Iterator.{Count}
use Rattle.std.specs.Prelude.{Option}
use Rattle.std.specs.declared.ops.RangeInclusive.{RangeInclusive}
use Rattle.rsb_integer.specs.Runs.{Interval, members, AllEndBelow, AreRuns, IsCanonicalFrom, IsCanonicalIn}
use Rattle.rsb_integer.specs.Selection.{Selection}
use Rattle.rsb_integer.specs.declared.integer.Integer.{Ghosts as Elements}
use Rattle.rsb_integer.proofs.lemmas.List.{true_or_false}
use Rattle.rsb_integer.proofs.lemmas.Canonical.{canonical-lower}
use Rattle.rsb_integer.proofs.lemmas.Members.{members-below, members-head, members-tail, covers-cases}
use Rattle.rsb_integer.proofs.lemmas.Runs.{runs-from_canonical}
use Rattle.rsb_streams.specs.Rows.{IsDisjoint, IsSorted}
use Rattle.rsb_streams.specs.Stream.{Outcomes, ◌⊆◌, HasSortedStartsFrom, HasSortedStarts, IsDrawn, Keeps}
use Rattle.rsb_streams.specs.Touching.{IsSpacedFrom, IsSpacedIn}
use Rattle.rsb_streams.specs.declared.draw.Draw.{Ghosts as Stream}

-- ---- spaced lists

-- With a gap of 2, the spaced lists are the canonical ones.
spaced-canonical_from : (low : ℕ) (runs : List Interval)
    → IsSpacedFrom 2 low runs ≡ IsCanonicalFrom low runs
spaced-canonical_from low [] = refl
spaced-canonical_from low (run ∷ runs) =
    ap (λ rest. record { starts : low ≤ run.first; in_order : run.first ≤ run.last; rest : rest })
    (spaced-canonical_from (run.last + 2) runs)

-- A list that is spaced with a gap of 2 in a type is canonical in it.
pub spaced-canonical : (n : ℕ) → IsSpacedIn 2 n ⊆ IsCanonicalIn n
spaced-canonical n runs spaced = record {
  apart = subst (λ fact. fact) (spaced-canonical_from 0 runs) spaced.spaced;
  within = spaced.within;
}

-- A list that is canonical in a type is spaced with a gap of 2 in it.
pub canonical-spaced : (n : ℕ) → IsCanonicalIn n ⊆ IsSpacedIn 2 n
canonical-spaced n runs canonical = record {
  spaced = subst (λ fact. fact) (sym (spaced-canonical_from 0 runs)) canonical.apart;
  within = canonical.within;
}

-- The empty list is spaced.
pub spaced-none : (gap n : ℕ) → IsSpacedIn gap n []
spaced-none gap n = record { spaced = tt; within = All-nil (λ (run : Interval). run.last < n) }

-- A spaced list is also one with a lesser gap, from a lower rank.
pub spaced-weaker : (gap less low lower : ℕ) (runs : List Interval) → less ≤ gap → lower ≤ low
    → IsSpacedFrom gap low runs → IsSpacedFrom less lower runs
spaced-weaker gap less low lower [] fewer below spaced = tt
spaced-weaker gap less low lower (run ∷ runs) fewer below spaced =
    let starts = spaced.starts in
    record {
      starts = omega arith;
      in_order = spaced.in_order;
      rest = spaced-weaker gap less (run.last + gap) (run.last + less) runs fewer (omega arith)
          spaced.rest;
    }

-- ---- a decidable fact holds if its failure is excluded

-- A number is at most another if the contrary is excluded.
pub settled_le : (a b : ℕ) → ¬ (¬ (a ≤ b)) → a ≤ b
settled_le a b holds = elim (cases_lt b a) [
  | inl less ↦ absurd (holds (λ most. omega (arith, less, most)))
  | inr most ↦ most
]

-- A number is less than another if the contrary is excluded.
pub settled_lt : (a b : ℕ) → ¬ (¬ (a < b)) → a < b
settled_lt a b holds = elim (cases_lt a b) [
  | inl less ↦ less
  | inr most ↦ absurd (holds (λ less. omega (arith, less, most)))
]

-- A list is spaced from a rank if the contrary is excluded.
settled_spaced_from : (gap low : ℕ) (runs : List Interval) → ¬ (¬ (IsSpacedFrom gap low runs))
    → IsSpacedFrom gap low runs
settled_spaced_from gap low [] holds = tt
settled_spaced_from gap low (run ∷ runs) holds = record {
  starts = settled_le low run.first (λ fails. holds (λ all. fails all.starts));
  in_order = settled_le run.first run.last (λ fails. holds (λ all. fails all.in_order));
  rest = settled_spaced_from gap (run.last + gap) runs (λ fails. holds (λ all. fails all.rest));
}

-- Every interval of a list ends below n if the contrary is excluded.
settled_below : (n : ℕ) (runs : List Interval) → ¬ (¬ (AllEndBelow n runs)) → AllEndBelow n runs
settled_below n [] holds = All-nil (λ (run : Interval). run.last < n)
settled_below n (run ∷ runs) holds =
    let P : Interval → Type 0 = λ each. each.last < n in
    All-cons P run runs (settled_lt run.last n
    (λ fails. holds (λ all. fails (All-head P run runs all))))
    (settled_below n runs (λ fails. holds (λ all. fails (All-tail P run runs all))))

-- A list is spaced in a type of n values if the contrary is excluded.
pub settled_spaced : (gap n : ℕ) (runs : List Interval) → ¬ (¬ (IsSpacedIn gap n runs))
    → IsSpacedIn gap n runs
settled_spaced gap n runs holds = record {
  spaced = settled_spaced_from gap 0 runs (λ fails. holds (λ all. fails all.spaced));
  within = settled_below n runs (λ fails. holds (λ all. fails all.within));
}

-- A list is canonical in a type of n values if the contrary is excluded.
pub settled_canonical_in : (n : ℕ) (runs : List Interval) → ¬ (¬ (IsCanonicalIn n runs))
    → IsCanonicalIn n runs
settled_canonical_in n runs holds =
    spaced-canonical n runs (settled_spaced 2 n runs
    (λ fails. holds (λ canonical. fails (canonical-spaced n runs canonical))))

-- A list is sorted by start if the contrary is excluded.
pub settled_sorted : (n low : ℕ) (runs : List Interval) → ¬ (¬ (HasSortedStartsFrom n low runs))
    → HasSortedStartsFrom n low runs
settled_sorted n low [] holds = tt
settled_sorted n low (run ∷ runs) holds = record {
  starts = settled_le low run.first (λ fails. holds (λ all. fails all.starts));
  in_order = settled_le run.first run.last (λ fails. holds (λ all. fails all.in_order));
  in_type = settled_lt run.last n (λ fails. holds (λ all. fails all.in_type));
  rest = settled_sorted n run.first runs (λ fails. holds (λ all. fails all.rest));
}

-- ---- lists sorted by start

-- A list sorted by start from `low` is also one from any lower rank.
pub sorted-lower : (n low lower : ℕ) (runs : List Interval) → lower ≤ low
    → HasSortedStartsFrom n low runs → HasSortedStartsFrom n lower runs
sorted-lower n low lower [] less sorted = tt
sorted-lower n low lower (run ∷ runs) less sorted =
    let starts = sorted.starts in
    record {
      starts = omega arith;
      in_order = sorted.in_order;
      in_type = sorted.in_type;
      rest = sorted.rest;
    }

-- A spaced list is sorted by start.
spaced-sorted : (gap n low : ℕ) (runs : List Interval) → IsSpacedFrom gap low runs
    → AllEndBelow n runs
    → HasSortedStartsFrom n low runs
spaced-sorted gap n low [] spaced below = tt
spaced-sorted gap n low (run ∷ runs) spaced below =
    let P : Interval → Type 0 = λ each. each.last < n in
    let ordered = spaced.in_order in
    record {
      starts = spaced.starts;
      in_order = ordered;
      in_type = All-head P run runs below;
      rest = sorted-lower n (run.last + gap) run.first runs (omega arith)
          (spaced-sorted gap n (run.last + gap) runs spaced.rest (All-tail P run runs below));
    }

-- A canonical list is sorted by start.
pub canonical-sorted : (n low : ℕ) (runs : List Interval) → IsCanonicalFrom low runs
    → AllEndBelow n runs
    → HasSortedStartsFrom n low runs
canonical-sorted n low runs canonical =
    spaced-sorted 2 n low runs (subst (λ fact. fact) (sym (spaced-canonical_from low runs)) canonical)

-- What a stream may give satisfies each law that follows from one that it satisfies.
pub keeps-weaker : {law other : List Interval → Type 0} {P : Outcomes} {remaining : Count}
    → law ⊆ other → Keeps law P remaining → Keeps other P remaining
keeps-weaker follows kept = record {
  some = kept.some;
  all = λ runs may. follows runs (kept.all runs may);
  ends = kept.ends;
}

-- If a stream may give only spaced lists, they are sorted by start.
pub spaced-starts : (gap n : ℕ) (P : Outcomes) (remaining : Count)
    → Keeps (IsSpacedIn gap n) P remaining
    → Keeps (HasSortedStarts n) P remaining
spaced-starts gap n P remaining =
    keeps-weaker (λ runs all. spaced-sorted gap n 0 runs all.spaced all.within)

-- If a stream may give only canonical lists, they are sorted by start.
pub canonical_stream-starts : (n : ℕ) (P : Outcomes) (remaining : Count)
    → Keeps (IsCanonicalIn n) P remaining
    → Keeps (HasSortedStarts n) P remaining
canonical_stream-starts n P remaining =
    keeps-weaker (λ runs canonical. canonical-sorted n 0 runs canonical.apart canonical.within)

-- A canonical stream is sorted by start.
pub disjoint-sorted : {S T N : Type 0} (integer : Elements T N) (stream : Stream S T N)
    → IsDisjoint integer stream → IsSorted integer stream
disjoint-sorted integer stream disjoint s can =
    canonical_stream-starts integer.value_count _ _ (disjoint s can)

-- Every interval of a list sorted by start ends below n.
pub sorted-below : (n low : ℕ) (runs : List Interval) → HasSortedStartsFrom n low runs
    → AllEndBelow n runs
sorted-below n low [] sorted = All-nil (λ (run : Interval). run.last < n)
sorted-below n low (run ∷ runs) sorted =
    All-cons (λ (each : Interval). each.last < n) run runs sorted.in_type
    (sorted-below n run.first runs sorted.rest)

-- No member is below the start of a list sorted by start.
pub sorted-members : (n low : ℕ) (runs : List Interval) (rank : ℕ) → HasSortedStartsFrom n low runs
    → members runs rank ≡ true → low ≤ rank
sorted-members n low [] rank sorted member = absurd (cc)
sorted-members n low (run ∷ runs) rank sorted member =
    let starts = sorted.starts in
    elim (covers-cases run rank) [
      | inl inside ↦ let from = inside.0 in omega arith
      | inr outside ↦
          let past = sorted-members n run.first runs rank sorted.rest
          (sym (members-tail run runs rank outside.0) ∙ member) in
          omega arith
    ]

-- ---- every set has runs

-- Whether the list is canonical and has the members of the set from the rank `low` onwards.
record AreRunsFrom (n : ℕ) (selected : Selection) (low : ℕ) (runs : List Interval) : Type 0 where
  pub canonical : IsCanonicalFrom low runs
  pub below : AllEndBelow n runs
  pub same : (rank : ℕ) → low ≤ rank → rank < n → members runs rank ≡ selected rank

-- If the rank right before the runs is not selected, the runs stay the same.
runs-gap : (n : ℕ) (selected : Selection) (low : ℕ) (runs : List Interval) → selected low ≡ false
    → AreRunsFrom n selected (low + 1) runs → AreRunsFrom n selected low runs
runs-gap n selected low runs gap all = record {
  canonical = canonical-lower (low + 1) low runs (omega arith) all.canonical;
  below = all.below;
  same = λ rank from below. elim (cases_lt low rank) [
    | inl past ↦ all.same rank (omega arith) below
    | inr here ↦
        let is : low ≡ rank = omega arith in
        members-below (low + 1) runs rank all.canonical (omega arith) ∙ sym gap ∙ ap selected is
  ];
}

-- If the rank right before the runs is selected and apart from the first run, it is a new run.
runs-new : (n : ℕ) (selected : Selection) (low : ℕ) (runs : List Interval) → selected low ≡ true
    → low < n → IsCanonicalFrom (low + 2) runs → AreRunsFrom n selected (low + 1) runs
    → AreRunsFrom n selected low (record { first = low; last = low } ∷ runs)
runs-new n selected low runs here below apart all =
    let run : Interval = record { first = low; last = low } in
    record {
      canonical = record { starts = omega arith; in_order = omega arith; rest = apart };
      below = All-cons (λ (each : Interval). each.last < n) run runs below all.below;
      same = λ rank from within. elim (cases_lt low rank) [
        | inl past ↦ members-tail run runs rank (inr past) ∙ all.same rank (omega arith) within
        | inr first ↦
            let is : low ≡ rank = omega arith in
            members-head run runs rank from first ∙ sym here ∙ ap selected is
      ];
    }

-- If the rank right before the runs is selected and touches the first run, it makes that run
-- longer.
runs-longer : (n : ℕ) (selected : Selection) (low : ℕ) (run : Interval) (runs : List Interval)
    → selected low ≡ true → run.first ≡ low + 1 → AreRunsFrom n selected (low + 1) (run ∷ runs)
    → AreRunsFrom n selected low (record { first = low; last = run.last } ∷ runs)
runs-longer n selected low run runs here touching all =
    let P : Interval → Type 0 = λ each. each.last < n in
    let longer : Interval = record { first = low; last = run.last } in
    let ordered = all.canonical.in_order in
    record {
      canonical = record {
        starts = omega arith;
        in_order = omega arith;
        rest = all.canonical.rest;
      };
      below = All-cons P longer runs (All-head P run runs all.below)
          (All-tail P run runs all.below);
      same = λ rank from within. elim (cases_lt low rank) [
        | inl past ↦ elim (cases_lt run.last rank) [
          | inl after ↦
              members-tail longer runs rank (inr after)
              ∙ sym (members-tail run runs rank (inr after))
              ∙ all.same rank (omega arith) within
          | inr inside ↦
              members-head longer runs rank from inside
              ∙ sym (members-head run runs rank (omega arith) inside)
              ∙ all.same rank (omega arith) within
        ]
        | inr first ↦
            let is : low ≡ rank = omega arith in
            members-head longer runs rank from (omega arith) ∙ sym here ∙ ap selected is
      ];
    }

-- If the rank right before the runs is selected, there are runs with it, whether it touches the
-- first run or not.
runs-before : (n : ℕ) (selected : Selection) (low : ℕ) (runs : List Interval) → selected low ≡ true
    → low < n → AreRunsFrom n selected (low + 1) runs → (others : List Interval)
    × AreRunsFrom n selected low others
runs-before n selected low [] here below all =
    (record { first = low; last = low } ∷ [], runs-new n selected low [] here below tt all)
runs-before n selected low (run ∷ runs) here below all =
    let starts = all.canonical.starts in
    elim (cases_lt (low + 1) run.first) [
      | inl apart ↦ (
        record { first = low; last = low } ∷ run ∷ runs,
        runs-new n selected low (run ∷ runs) here below
            (record {
              starts = omega arith;
              in_order = all.canonical.in_order;
              rest = all.canonical.rest;
            })
            all,
      )
      | inr touching ↦ (
        record { first = low; last = run.last } ∷ runs,
        runs-longer n selected low run runs here (omega arith) all,
      )
    ]

-- A set has runs from the rank `low` onwards. The type has `more` ranks from there.
runs-exist_from : (n : ℕ) (selected : Selection) (more low : ℕ) → low + more ≡ n
    → (runs : List Interval) × AreRunsFrom n selected low runs
runs-exist_from n selected zero low is = (
  [],
  record {
    canonical = tt;
    below = All-nil (λ (run : Interval). run.last < n);
    same = λ rank from below. absurd (omega arith);
  },
)
runs-exist_from n selected (suc more) low is =
    let rest = runs-exist_from n selected more (low + 1) (omega arith) in
    elim (true_or_false (selected low)) [
      | inl here ↦ runs-before n selected low rest.0 here (omega arith) rest.1
      | inr gap ↦ (rest.0, runs-gap n selected low rest.0 gap rest.1)
    ]

-- Every set has runs.
pub runs-exist : (n : ℕ) (selected : Selection) → (runs : List Interval) × AreRuns n selected runs
runs-exist n selected =
    let found = runs-exist_from n selected n 0 (omega arith) in (
      found.0,
      runs-from_canonical n selected found.0 found.1.canonical found.1.below
          (λ rank below. found.1.same rank (omega arith) below),
    )

-- ---- `next` and `draw`

-- `next` is `draw` if both have the same ghost members.
pub drawn-itself : {S T : Type 0} {can_next : S → Type 0}
    {next_gives : S → Option (RangeInclusive T) → S → Type 0} {remaining : S → Count}
    → IsDrawn can_next next_gives remaining can_next next_gives remaining
drawn-itself = record {
  drawable = λ s can. can;
  callable = λ s can. can;
  gives = λ s t range call. call;
  ends = λ s t can call. call;
  counts = λ s. refl;
}
