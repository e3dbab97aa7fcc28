-- The number of runs of a set, counted by the ranks where the set changes.
use Rattle.std.proofs.Common.{◌≡◌, ◌⊎◌, ℕ, zero, suc, Bool, true, false, not, ◌&&◌, ◌||◌, ◌+◌, ◌*◌, ◌<◌, ◌≤◌, nat_le, List, [], ◌∷◌, length, map, refl, ap, ◌∙◌, inl, inr, arith}
use Rattle.std.proofs.Math.Bool.{or-false}
use Rattle.std.proofs.lemmas.Bool.Decides.{nat_tests}
use Rattle.std.specs.Prelude.{All}
use Rattle.std.proofs.lemmas.List.Elements.{All-cons, All-head, All-nil, All-tail}
use Rattle.std.proofs.lemmas.List.Sums.{sum_by-cons}
use Rattle.std.specs.List.{sum_by}
use Rattle.rsb_integer.specs.Runs.{Interval, covers, members, AllEndBelow, AreRuns, HasRanks}
use Rattle.rsb_integer.specs.Selection.{Selection, at_least, complement, count, difference, exclusive_or, how_many, intersection, symmetric_difference, union}
use Rattle.rsb_integer.proofs.lemmas.Count.{count-agree}
use Rattle.rsb_integer.proofs.lemmas.Members.{members-cons, members-head}
use Rattle.rsb_integer.proofs.lemmas.Runs.{runs-from_canonical}
use Rattle.rsb_integer.proofs.lemmas.Begins.{at_last, begins, begins-agree, begins-some, count-begins, ended, once, runs-begin, runs-have}

-- ---- where sets change

-- How often the set changes along n ranks: the runs that begin at one of them, and those that ended
-- right before one.
abbrev changes : ℕ → Selection → ℕ
changes n selected = count n (begins selected) + count n (ended selected)

-- A set changes twice for each run, but only once for a run that reaches the last rank.
changes-twice : (n : ℕ) (selected : Selection)
    → changes n selected + at_last n selected ≡ 2 * count n (begins selected)
changes-twice n selected = let once_more = count-begins n selected in omega arith

-- How much one rank changes a set: 1 if the rank differs from the one before it, and 0 otherwise.
abbrev changed : Bool → Bool → ℕ
changed here before = once (here && not before) + once (not here && before)

-- Either a rank is like the one before it and changes nothing, or it changes the set by 1.
changed-by : (here before : Bool) → ((here ≡ before) × (changed here before ≡ 0))
    ⊎ (changed here before ≡ 1)
changed-by true true = inl (refl, refl)
changed-by true false = inr refl
changed-by false true = inr refl
changed-by false false = inl (refl, refl)

-- ---- sets built from two sets, rank by rank

-- Two operations that together change no more at a rank than their operands, and are true no more
-- often.
module _ (one other : Bool → Bool → Bool)
    (fewer : (left right here there : Bool) → changed (one left right) (one here there)
    + changed (other left right) (other here there) ≤ changed left here + changed right there)
    (last : (left right : Bool) → once (one left right) + once (other left right)
    ≤ once left + once right) where
  module _ (left right : Selection) where
    -- The set that the first operation builds.
    abbrev ones : Selection
    ones rank = one (left rank) (right rank)

    -- The set that the second operation builds.
    abbrev others : Selection
    others rank = other (left rank) (right rank)

    -- Together, the built sets change no more often than the given sets.
    changes-two : (n : ℕ) → changes n ones + changes n others ≤ changes n left + changes n right
    unfolding count
    changes-two zero = omega arith
    changes-two (suc zero) = let first = last (left zero) (right zero) in omega arith
    changes-two (suc (suc n)) =
        let before = changes-two (suc n) in
        let here = fewer (left (suc n)) (right (suc n)) (left n) (right n) in
        omega arith

    -- The last rank is in no more of the built sets than of the given sets.
    last-two : (n : ℕ) → at_last n ones + at_last n others ≤ at_last n left + at_last n right
    last-two zero = omega arith
    last-two (suc n) = last (left n) (right n)

    -- Together, the runs of the built sets begin at no more ranks than those of the given sets.
    begins-two : (n : ℕ) → count n (begins ones) + count n (begins others)
        ≤ count n (begins left) + count n (begins right)
    begins-two n =
        let twice_left = changes-twice n left in
        let twice_right = changes-twice n right in
        let twice_one = changes-twice n ones in
        let twice_other = changes-twice n others in
        let fewer_changes = changes-two n in
        let fewer_last = last-two n in
        omega arith

    -- Together, the built sets have no more runs than the given sets.
    pub runs-two : (n : ℕ) (lefts rights made also : List Interval) → AreRuns n left lefts
        → AreRuns n right rights → AreRuns n ones made → AreRuns n others also
        → length made + length also ≤ length lefts + length rights
    runs-two n lefts rights made also are_left are_right are_one are_other =
        let from_left = runs-begin n left lefts are_left in
        let from_right = runs-begin n right rights are_right in
        let from_one = runs-begin n ones made are_one in
        let from_other = runs-begin n others also are_other in
        let no_more = begins-two n in
        omega arith

-- A rank that is like the one before it changes nothing.
changed-same : (here before : Bool) → here ≡ before → changed here before ≡ 0
changed-same true true same = refl
changed-same false false same = refl
changed-same true false same = absurd (cc)
changed-same false true same = absurd (cc)

-- One rank changes a set by at most 1.
changed-most : (here before : Bool) → changed here before ≤ 1
changed-most true true = omega arith
changed-most true false = omega arith
changed-most false true = omega arith
changed-most false false = omega arith

-- One rank adds at most 1 to a count.
once-most : (test : Bool) → once test ≤ 1
once-most true = omega arith
once-most false = omega arith

-- The empty set has no runs.
runs-of_nothing : (n : ℕ) → AreRuns n (λ rank. false) []
runs-of_nothing n = runs-from_canonical n (λ rank. false) [] tt
    (All-nil (λ (run : Interval). run.last < n)) (λ rank below. refl)

-- The operation that is always false.
abbrev nothing : Bool → Bool → Bool
nothing left right = false

-- One operation, which is false if both of its operands are.
module _ (op : Bool → Bool → Bool) (none : op false false ≡ false) where
  -- At a rank, its result changes no more than its operands do together.
  fewer-of_one : (left right here there : Bool)
      → changed (op left right) (op here there) + changed false false
      ≤ changed left here + changed right there
  fewer-of_one left right here there = elim (changed-by left here) [
    | inl same ↦ elim (changed-by right there) [
      | inl also ↦
          let still : op left right ≡ op here there = rw (same.0, also.0) refl in
          let one = changed-same (op left right) (op here there) still in
          omega arith
      | inr more ↦ let one = changed-most (op left right) (op here there) in omega arith
    ]
    | inr more ↦ let one = changed-most (op left right) (op here there) in omega arith
  ]

  -- It is true only if one of its operands is.
  last-of_one : (left right : Bool) → once (op left right) + once false ≤ once left + once right
  last-of_one false false = let zero_more : once (op false false) ≡ 0 = ap once none in omega arith
  last-of_one true right = let one = once-most (op true right) in omega arith
  last-of_one false true = let one = once-most (op false true) in omega arith

  -- The set that it builds has no more runs than both given sets together.
  pub runs-of_one : (n : ℕ) (left right : Selection) (lefts rights made : List Interval)
      → AreRuns n left lefts → AreRuns n right rights
      → AreRuns n (λ rank. op (left rank) (right rank)) made
      → length made ≤ length lefts + length rights
  runs-of_one n left right lefts rights made are_left are_right are =
      let most = runs-two op nothing fewer-of_one last-of_one left right n lefts rights made []
      are_left are_right are (runs-of_nothing n) in
      omega arith

-- ---- the operations

-- A union has no more runs than both sets together.
pub runs-union : (n : ℕ) (left right : Selection) (lefts rights made : List Interval)
    → AreRuns n left lefts → AreRuns n right rights → AreRuns n (union left right) made
    → length made ≤ length lefts + length rights
runs-union = runs-of_one (λ left right. left || right) refl

-- A difference has no more runs than both sets together.
pub runs-difference : (n : ℕ) (left right : Selection) (lefts rights made : List Interval)
    → AreRuns n left lefts → AreRuns n right rights → AreRuns n (difference left right) made
    → length made ≤ length lefts + length rights
runs-difference = runs-of_one (λ left right. left && not right) refl

-- A symmetric difference has no more runs than both sets together.
pub runs-symmetric : (n : ℕ) (left right : Selection) (lefts rights made : List Interval)
    → AreRuns n left lefts → AreRuns n right rights → AreRuns n (symmetric_difference left right) made
    → length made ≤ length lefts + length rights
runs-symmetric = runs-of_one exclusive_or refl

-- At a rank, the union and the intersection together change no more than the two sets.
fewer-of_both : (left right here there : Bool)
    → changed (left || right) (here || there) + changed (left && right) (here && there)
    ≤ changed left here + changed right there
fewer-of_both true right true there = omega arith
fewer-of_both false right false there = omega arith
fewer-of_both true true false true = omega arith
fewer-of_both true true false false = omega arith
fewer-of_both true false false true = omega arith
fewer-of_both true false false false = omega arith
fewer-of_both false true true true = omega arith
fewer-of_both false true true false = omega arith
fewer-of_both false false true true = omega arith
fewer-of_both false false true false = omega arith

-- A rank is in no more of the union and the intersection than of the two sets.
last-of_both : (left right : Bool) → once (left || right) + once (left && right)
    ≤ once left + once right
last-of_both true right = omega arith
last-of_both false right = omega arith

-- If the left set has a run, the intersection has fewer runs than both sets together.
pub runs-intersection : (n : ℕ) (left right : Selection) (lefts rights both : List Interval)
    → AreRuns n left lefts → AreRuns n right rights → AreRuns n (intersection left right) both
    → 0 < length lefts → length both < length lefts + length rights
runs-intersection n left right lefts rights both are_left are_right are_both some =
    let has = runs-have n left lefts are_left some in
    let begun = begins-some n (union left right) has.0 has.1
    (ap (λ test. test || right has.0) has.2) in
    let no_more = begins-two (λ one two. one || two) (λ one two. one && two) fewer-of_both
    last-of_both left right n in
    let from_left = runs-begin n left lefts are_left in
    let from_right = runs-begin n right rights are_right in
    let from_both = runs-begin n (intersection left right) both are_both in
    omega arith

-- The only run of the ranks of an interval is the interval.
runs-of_interval : (n : ℕ) (run : Interval) → run.first ≤ run.last → run.last < n
    → AreRuns n (covers run) (run ∷ [])
runs-of_interval n run ordered below =
    let P : Interval → Type 0 = λ each. each.last < n in
    runs-from_canonical n (covers run) (run ∷ [])
    (record { starts = omega arith; in_order = ordered; rest = tt })
    (All-cons P run [] below (All-nil P))
    (λ rank within. members-cons run [] rank ∙ or-false (covers run rank))

-- A set to which an interval is added has at most one more run.
pub runs-with_interval : (n : ℕ) (selected : Selection) (run : Interval)
    (runs made : List Interval) → run.first ≤ run.last → run.last < n → AreRuns n selected runs
    → AreRuns n (union selected (covers run)) made → length made ≤ length runs + 1
runs-with_interval n selected run runs made ordered below are added =
    let most = runs-union n selected (covers run) runs (run ∷ []) made are
    (runs-of_interval n run ordered below) added in
    omega (arith, most)

-- A set from which an interval is removed has at most one more run.
pub runs-without_interval : (n : ℕ) (selected : Selection) (run : Interval)
    (runs made : List Interval) → run.first ≤ run.last → run.last < n → AreRuns n selected runs
    → AreRuns n (difference selected (covers run)) made
    → length made ≤ length runs + 1
runs-without_interval n selected run runs made ordered below are left_over =
    let most = runs-difference n selected (covers run) runs (run ∷ []) made are
    (runs-of_interval n run ordered below) left_over in
    omega (arith, most)

-- The runs of the set of all ranks below n.
abbrev everything : ℕ → List Interval
everything zero = []
everything (suc n) = record { first = 0; last = n } ∷ []

-- The list `everything n` is indeed the list of these runs.
runs-of_everything : (n : ℕ) → AreRuns n (λ rank. true) (everything n)
runs-of_everything zero = runs-from_canonical zero (λ rank. true) [] tt
    (All-nil (λ (run : Interval). run.last < zero)) (λ rank below. absurd (omega (arith, below)))
runs-of_everything (suc n) =
    let whole : Interval = record { first = 0; last = n } in
    runs-from_canonical (suc n) (λ rank. true) (whole ∷ [])
    (record { starts = omega arith; in_order = omega arith; rest = tt })
    (All-cons (λ (run : Interval). run.last < suc n) whole [] (omega arith)
    (All-nil (λ (run : Interval). run.last < suc n)))
    (λ rank below. members-head whole [] rank (omega arith) (omega (arith, below)))

-- The set of all ranks below n has at most one run.
everything-length : (n : ℕ) → length (everything n) ≤ 1
everything-length zero = omega arith
everything-length (suc n) = omega arith

-- A complement has at most one more run than the set.
pub runs-complement : (n : ℕ) (selected : Selection) (runs gaps : List Interval)
    → AreRuns n selected runs → AreRuns n (complement selected) gaps → length gaps ≤ length runs + 1
runs-complement n selected runs gaps are left_out =
    let most = runs-symmetric n (λ rank. true) selected (everything n) runs gaps
    (runs-of_everything n) are left_out in
    let one = everything-length n in
    omega arith

-- ---- the ranks in at least a given number of many sets

-- The number of ranks below n at which a run begins, added up over the sets.
abbrev begin_together : ℕ → List Selection → ℕ
begin_together n sets = sum_by (λ set. count n (begins set)) sets

-- As many sets contain rank 0 as have a run that begins there.
how_many-first : (sets : List Selection) → how_many (map begins sets) 0 ≡ how_many sets 0
how_many-first [] = refl
how_many-first (set ∷ sets) = ap (λ many. once (set 0) + many) (how_many-first sets)

-- If a rank is selected, the one before it is selected or a run begins there.
once-more : (here before : Bool) → once here ≤ once before + once (here && not before)
once-more true true = omega arith
once-more true false = omega arith
once-more false before = omega arith

-- At most as many sets contain a rank as contain the one before it, plus those with a run that
-- begins there.
how_many-next : (sets : List Selection) (rank : ℕ)
    → how_many sets (suc rank) ≤ how_many sets rank + how_many (map begins sets) (suc rank)
how_many-next [] rank = omega arith
how_many-next (set ∷ sets) rank =
    let others = how_many-next sets rank in
    let own = once-more (set (suc rank)) (set rank) in
    omega arith

-- If `many` is at least `least` and `before` is not, `begun` is at least 1, because it is at least
-- their difference.
more-by : (least many before begun : ℕ) → many ≤ before + begun
    → once (nat_le least many && not (nat_le least before)) ≤ begun
more-by least many before begun most = grind (arith, nat_tests)

-- If `many` is at least `least`, which is positive, then `many` is at least 1.
some-by : (least many : ℕ) → 0 < least → once (nat_le least many) ≤ many
some-by least many positive = grind (arith, nat_tests)

-- Where a run of the ranks in at least `least` sets begins, a run of one of the sets begins.
begins-at_least : (least : ℕ) (sets : List Selection) (rank : ℕ) → 0 < least
    → once (begins (at_least least sets) rank) ≤ how_many (map begins sets) rank
begins-at_least least sets zero positive =
    let first = how_many-first sets in
    let most = some-by least (how_many sets 0) positive in
    omega (arith, first, most)
begins-at_least least sets (suc rank) positive =
    more-by least (how_many sets (suc rank)) (how_many sets rank)
    (how_many (map begins sets) (suc rank)) (how_many-next sets rank)

-- One more rank adds the number of sets with a run that begins there.
begin_together-next : (n : ℕ) (sets : List Selection)
    → begin_together (suc n) sets ≡ begin_together n sets + how_many (map begins sets) n
unfolding count
begin_together-next n [] = refl
begin_together-next n (set ∷ sets) =
    let others = begin_together-next n sets in
    let sum = sum_by-cons (λ each. count (suc n) (begins each)) set sets in
    let before = sum_by-cons (λ each. count n (begins each)) set sets in
    omega arith

-- The runs of the ranks in at least `least` sets begin at no more ranks than those of all sets
-- together.
at_least-begins : (n least : ℕ) (sets : List Selection) → 0 < least
    → count n (begins (at_least least sets)) ≤ begin_together n sets
unfolding count
at_least-begins zero least sets positive = omega arith
at_least-begins (suc n) least sets positive =
    let before = at_least-begins n least sets positive in
    let here = begins-at_least least sets n positive in
    let more = begin_together-next n sets in
    omega arith

-- Whether all intervals of the list are non-empty and end below n.
pub record HaveRanks (n : ℕ) (runs : List Interval) : Type 0 where
  pub non_empty : All HasRanks runs
  pub within : AllEndBelow n runs

-- The runs of the members of a list begin at no more ranks than the list has intervals.
begins-members_most : (n : ℕ) (runs : List Interval) → HaveRanks n runs
    → count n (begins (members runs)) ≤ length runs
begins-members_most n [] have =
    let none = runs-begin n (λ rank. false) [] (runs-of_nothing n) in
    let same : count n (begins (members [])) ≡ count n (begins (λ rank. false)) = refl in
    omega arith
begins-members_most n (run ∷ runs) have =
    let Below : Interval → Type 0 = λ each. each.last < n in
    let ordered = All-head HasRanks run runs have.non_empty in
    let below = All-head Below run runs have.within in
    let others = begins-members_most n runs (record {
      non_empty = All-tail HasRanks run runs have.non_empty;
      within = All-tail Below run runs have.within;
    }) in
    let own = runs-begin n (covers run) (run ∷ [])
    (runs-of_interval n run ordered below) in
    let both = union (covers run) (members runs) in
    let same = count-agree n (begins (members (run ∷ runs))) (begins both)
    (begins-agree n (members (run ∷ runs)) both (λ rank within. members-cons run runs rank)) in
    let most = begins-two (λ left right. left || right) nothing
    (fewer-of_one (λ left right. left || right) refl)
    (last-of_one (λ left right. left || right) refl) (covers run) (members runs) n in
    omega arith

-- Together, the runs of the members of some lists begin at no more ranks than the lists have
-- intervals.
lists-begin : (n : ℕ) (lists : List (List Interval)) → All (HaveRanks n) lists
    → begin_together n (map members lists) ≤ sum_by (λ (runs : List Interval). length runs) lists
lists-begin n [] have = omega arith
lists-begin n (runs ∷ lists) have =
    let own = begins-members_most n runs (All-head (HaveRanks n) runs lists have) in
    let others = lists-begin n lists (All-tail (HaveRanks n) runs lists have) in
    let sum = sum_by-cons (λ set. count n (begins set)) (members runs) (map members lists) in
    let lengths = sum_by-cons (λ (each : List Interval). length each) runs lists in
    omega arith

-- If `least` is positive, the ranks in at least `least` of some lists have no more runs than the
-- lists have intervals.
pub runs-at_least : (n least : ℕ) (lists : List (List Interval)) (made : List Interval)
    → 0 < least → All (HaveRanks n) lists → AreRuns n (at_least least (map members lists)) made
    → length made ≤ sum_by (λ (runs : List Interval). length runs) lists
runs-at_least n least lists made positive have are =
    let from = runs-begin n (at_least least (map members lists)) made are in
    let most = at_least-begins n least (map members lists) positive in
    let together = lists-begin n lists have in
    omega arith
