-- The ranks at which the runs of a set begin.
use Rattle.std.proofs.Common.{◌≡◌, ℕ, zero, suc, Bool, true, false, not, ◌&&◌, cond, ◌+◌, ◌<◌, ◌≤◌, List, [], ◌∷◌, length, map, refl, sym, ap, ◌∙◌, inl, inr, arith}
use Rattle.std.proofs.Math.Bool.{and-false}
use Rattle.std.proofs.lemmas.Bool.{cases_lt}
use Rattle.std.proofs.lemmas.List.Elements.{All-cons, All-head, All-nil, All-tail}
use Rattle.std.proofs.lemmas.List.Sums.{sum_by-cons}
use Rattle.std.specs.List.{sum_by}
use Rattle.rsb_integer.specs.Runs.{Interval, length_of, members, AllEndBelow, AreRuns, IsCanonicalFrom, IsMaximalRun}
use Rattle.rsb_integer.specs.Selection.{Selection, Agree, count}
use Rattle.rsb_integer.proofs.lemmas.Count.{count-agree, count-less, count-members}
use Rattle.rsb_integer.proofs.lemmas.List.{true_or_false}
use Rattle.rsb_integer.proofs.lemmas.Members.{covers-inside, members-below, members-head, members-tail}
use Rattle.rsb_integer.proofs.lemmas.Runs.{runs-canonical, runs-members}

-- ---- where a set begins and ends

-- The ranks at which a run of the set begins.
abbrev pub begins : Selection → Selection
begins selected zero = selected zero
begins selected (suc rank) = selected (suc rank) && not (selected rank)

-- The ranks right past the end of a run of the set.
abbrev pub ended : Selection → Selection
ended selected zero = false
ended selected (suc rank) = not (selected (suc rank)) && selected rank

-- What one rank adds to a count: 1 if it is selected, and 0 otherwise.
abbrev pub once : Bool → ℕ
once test = cond test 1 0

-- Whether the last of n ranks is selected: 1 if it is, and 0 otherwise.
abbrev pub at_last : ℕ → Selection → ℕ
at_last zero selected = 0
at_last (suc n) selected = once (selected n)

-- From one rank to the next, what a rank adds to a count grows by the runs that begin there, less
-- those that ended.
once-begins : (here before : Bool)
    → once (here && not before) + once before ≡ once (not here && before) + once here
once-begins true true = refl
once-begins true false = refl
once-begins false true = refl
once-begins false false = refl

-- Below n, as many runs have begun as have ended, and one more if the last rank is selected.
pub count-begins : (n : ℕ) (selected : Selection)
    → count n (begins selected) ≡ count n (ended selected) + at_last n selected
unfolding count
count-begins zero selected = refl
count-begins (suc zero) selected = refl
count-begins (suc (suc n)) selected =
    let before = count-begins (suc n) selected in
    let here = once-begins (selected (suc n)) (selected n) in
    omega arith

-- ---- runs by where they begin

-- The interval of only the first rank of an interval.
abbrev first_of : Interval → Interval
first_of run = record { first = run.first; last = run.first }

-- The intervals of the first ranks of a canonical list are canonical.
firsts-canonical : (low : ℕ) (runs : List Interval) → IsCanonicalFrom low runs
    → IsCanonicalFrom low (map first_of runs)
firsts-canonical low [] canonical = tt
firsts-canonical low (run ∷ []) canonical = record {
  starts = canonical.starts;
  in_order = omega arith;
  rest = tt;
}
firsts-canonical low (run ∷ other ∷ runs) canonical =
    let rest = firsts-canonical (run.last + 2) (other ∷ runs) canonical.rest in
    let order = canonical.in_order in
    let apart = rest.starts in
    record {
      starts = canonical.starts;
      in_order = omega arith;
      rest = record {
        starts = omega (arith, order, apart);
        in_order = rest.in_order;
        rest = rest.rest;
      };
    }

-- If a canonical list ends below n, so do the intervals of its first ranks.
firsts-below : (n low : ℕ) (runs : List Interval) → IsCanonicalFrom low runs → AllEndBelow n runs
    → AllEndBelow n (map first_of runs)
firsts-below n low [] canonical below = All-nil (λ (run : Interval). run.last < n)
firsts-below n low (run ∷ runs) canonical below =
    let P : Interval → Type 0 = λ each. each.last < n in
    let order = canonical.in_order in
    let end = All-head P run runs below in
    All-cons P (first_of run) (map first_of runs) (omega (arith, order, end))
    (firsts-below n (run.last + 2) runs canonical.rest (All-tail P run runs below))

-- The lengths of the intervals of first ranks add up to the number of intervals.
firsts-length : (runs : List Interval) → sum_by length_of (map first_of runs) ≡ length runs
firsts-length [] = refl
firsts-length (run ∷ runs) =
    let rest = firsts-length runs in
    let sum = sum_by-cons length_of (first_of run) (map first_of runs) in
    omega arith

-- No run of the members of a list that is canonical from `low` begins below `low`.
begins-below : (low : ℕ) (runs : List Interval) (rank : ℕ) → IsCanonicalFrom low runs → rank < low
    → begins (members runs) rank ≡ false
begins-below low runs zero canonical below = members-below low runs zero canonical below
begins-below low runs (suc rank) canonical below =
    ap (λ test. test && not (members runs rank)) (members-below low runs (suc rank) canonical below)

-- A run begins at a rank past 0 if and only if the rank is selected and the one before is not.
begins-by : (selected : Selection) (rank before : ℕ) (here past : Bool) → rank ≡ before + 1
    → selected rank ≡ here → selected before ≡ past → begins selected rank ≡ (here && not past)
begins-by selected zero before here past is at_rank at_before = absurd (omega (arith, is))
begins-by selected (suc rank) before here past is at_rank at_before =
    let same : rank ≡ before = omega (arith, is) in
    ap (λ test. test && not (selected rank)) at_rank
    ∙ ap (λ test. here && not test) (ap selected same ∙ at_before)

-- A canonical list is canonical from the first rank of its first interval.
from-first : (low : ℕ) (run : Interval) (runs : List Interval) → IsCanonicalFrom low (run ∷ runs)
    → IsCanonicalFrom run.first (run ∷ runs)
from-first low run runs canonical =
    record { starts = omega arith; in_order = canonical.in_order; rest = canonical.rest }

-- A run begins at the first rank of the first interval.
first-begins : (low : ℕ) (run : Interval) (runs : List Interval) (rank : ℕ)
    → IsCanonicalFrom low (run ∷ runs) → rank ≡ run.first → begins (members (run ∷ runs)) rank ≡ true
first-begins low run runs zero canonical is =
    let order = canonical.in_order in
    members-head run runs zero (omega (arith, is)) (omega (arith, order, is))
first-begins low run runs (suc rank) canonical is =
    let order = canonical.in_order in
    begins-by (members (run ∷ runs)) (suc rank) rank true false (omega arith)
    (members-head run runs (suc rank) (omega (arith, is)) (omega (arith, order, is)))
    (members-below run.first (run ∷ runs) rank (from-first low run runs canonical)
    (omega (arith, is)))

-- Past the first interval and the rank after it, runs begin where they begin without that interval.
later-begins : (run : Interval) (runs : List Interval) (rank : ℕ) → run.last + 1 < rank
    → begins (members (run ∷ runs)) rank ≡ begins (members runs) rank
later-begins run runs zero after = absurd (omega (arith, after))
later-begins run runs (suc rank) after =
    ap (λ test. test && not (members (run ∷ runs) rank))
    (members-tail run runs (suc rank) (inr (omega (arith, after))))
    ∙ ap (λ test. members runs (suc rank) && not test)
    (members-tail run runs rank (inr (omega (arith, after))))

-- No run begins within the first interval after its first rank, nor right past its end.
inside-begins : (low : ℕ) (run : Interval) (runs : List Interval) (rank : ℕ)
    → IsCanonicalFrom low (run ∷ runs) → run.first < rank → rank ≤ run.last + 1
    → begins (members (run ∷ runs)) rank ≡ false
inside-begins low run runs zero canonical past within = absurd (omega (arith, past))
inside-begins low run runs (suc rank) canonical past within =
    begins-by (members (run ∷ runs)) (suc rank) rank (members (run ∷ runs) (suc rank)) true
    (omega arith) refl (members-head run runs rank (omega (arith, past)) (omega (arith, within)))
    ∙ and-false (members (run ∷ runs) (suc rank))

-- A run of the members of a canonical list begins at each interval's first rank, and only there.
begins-members : (low : ℕ) (runs : List Interval) (rank : ℕ) → IsCanonicalFrom low runs
    → begins (members runs) rank ≡ members (map first_of runs) rank
begins-members low [] zero canonical = refl
begins-members low [] (suc rank) canonical = refl
begins-members low (run ∷ runs) rank canonical =
    let order = canonical.in_order in
    let firsts = map first_of runs in
    let apart = firsts-canonical (run.last + 2) runs canonical.rest in
    let from_first = from-first low run runs canonical in
    elim (cases_lt rank run.first) [
      | inl below ↦
          begins-below run.first (run ∷ runs) rank from_first below
          ∙ sym (members-below run.first (first_of run ∷ firsts) rank
          (firsts-canonical run.first (run ∷ runs) from_first) below)
      | inr from ↦ elim (cases_lt run.first rank) [
        | inr first ↦
            first-begins low run runs rank canonical (omega (arith, from, first))
            ∙ sym (members-head (first_of run) firsts rank from first)
        | inl past ↦
            let tail = members-tail (first_of run) firsts rank (inr past) in
            elim (cases_lt (run.last + 1) rank) [
              | inl after ↦
                  later-begins run runs rank after ∙ begins-members (run.last + 2) runs rank canonical.rest
                  ∙ sym tail
              | inr within ↦
                  inside-begins low run runs rank canonical past within
                  ∙ sym (tail ∙ members-below (run.last + 2) firsts rank apart (omega (arith, within)))
            ]
      ]
    ]

-- In sets that agree, runs begin at the same ranks.
pub begins-agree : (n : ℕ) (selected other : Selection) → Agree n selected other
    → Agree n (begins selected) (begins other)
begins-agree n selected other same zero below = same zero below
begins-agree n selected other same (suc rank) below =
    ap (λ test. test && not (selected rank)) (same (suc rank) below)
    ∙ ap (λ test. other (suc rank) && not test) (same rank (omega (arith, below)))

-- A set has as many runs as ranks at which one begins.
pub runs-begin : (n : ℕ) (selected : Selection) (runs : List Interval) → AreRuns n selected runs
    → length runs ≡ count n (begins selected)
runs-begin n selected runs are =
    let canonical = runs-canonical n selected runs are in
    sym (firsts-length runs)
    ∙ sym (count-members n 0 (map first_of runs) (firsts-canonical 0 runs canonical.apart)
    (firsts-below n 0 runs canonical.apart canonical.within))
    ∙ sym (count-agree n (begins (members runs)) (members (map first_of runs))
    (λ rank below. begins-members 0 runs rank canonical.apart))
    ∙ count-agree n (begins (members runs)) (begins selected)
    (begins-agree n (members runs) selected (runs-members n selected runs are))

-- If a rank is selected, a run begins at that rank or before it.
begins-found : (selected : Selection) (rank : ℕ) → selected rank ≡ true
    → (first : ℕ) × (first ≤ rank) × (begins selected first ≡ true)
begins-found selected zero has = (0, omega arith, has)
begins-found selected (suc rank) has = elim (true_or_false (selected rank)) [
  | inl before ↦
      let found = begins-found selected rank before in
      let earlier = found.1 in
      (found.0, omega (arith, earlier), found.2)
  | inr apart ↦ (
    suc rank,
    omega arith,
    begins-by selected (suc rank) rank true false (omega arith) has apart,
  )
]

-- If a set has a rank below n, at least one of its runs begins below n.
pub begins-some : (n : ℕ) (selected : Selection) (rank : ℕ) → rank < n → selected rank ≡ true
    → 0 < count n (begins selected)
begins-some n selected rank below has =
    let found = begins-found selected rank has in
    let earlier = found.1 in
    let more = count-less n (λ each. false) (begins selected) (λ each holds. absurd (cc)) found.0
    (omega (arith, earlier, below)) found.2 refl in
    omega (arith, more)

-- A set with runs has a rank.
pub runs-have : (n : ℕ) (selected : Selection) (runs : List Interval) → AreRuns n selected runs
    → 0 < length runs → (rank : ℕ) × (rank < n) × (selected rank ≡ true)
runs-have n selected [] are some = absurd (omega (arith, some))
runs-have n selected (run ∷ runs) are some =
    let maximal = All-head (IsMaximalRun n selected) run runs are.maximal in (
      run.last,
      maximal.in_type,
      maximal.whole run.last
          (covers-inside run run.last maximal.in_order (omega arith)),
    )

-- A set within a set that has no runs has none.
pub runs-none : (n : ℕ) (large small : Selection) (runs made : List Interval)
    → AreRuns n large runs → AreRuns n small made
    → ((rank : ℕ) → small rank ≡ true → large rank ≡ true) → length runs ≡ 0 → length made ≡ 0
runs-none n large small runs made are are_small within none = elim (cases_lt 0 (length made)) [
  | inl some ↦
      let has = runs-have n small made are_small some in
      let begun = begins-some n large has.0 has.1 (within has.0 has.2) in
      let as_many = runs-begin n large runs are in
      absurd (omega (arith, begun, as_many, none))
  | inr no_more ↦ omega (arith, no_more)
]
