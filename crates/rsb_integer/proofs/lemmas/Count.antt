-- How many ranks a set selects.
use Rattle.std.proofs.Common.{◌≡◌, ℕ, zero, suc, Bool, true, false, ◌||◌, cond, ◌+◌, ◌-◌, ◌<◌, ◌≤◌, min, List, [], ◌∷◌, refl, sym, ap, ◌∙◌, inl, inr, arith}
use Rattle.std.proofs.lemmas.Bool.{cases_lt}
use Rattle.std.proofs.lemmas.List.Elements.{All-head, All-tail}
use Rattle.std.proofs.lemmas.List.Sums.{sum_by-cons}
use Rattle.std.specs.List.{sum_by}
use Rattle.rsb_integer.specs.Runs.{Interval, covers, members, length_of, IsCanonicalFrom, AllEndBelow}
use Rattle.rsb_integer.specs.Selection.{Selection, Agree, count}
use Rattle.rsb_integer.proofs.lemmas.Members.{covers-bounds, covers-cases, members-cons, members-below}

-- What one rank adds to a count: 1 if it is selected, and 0 otherwise.
abbrev once : Bool → ℕ
once test = cond test 1 0

-- If a test passes only when another does, it adds no more to a count than the other.
once-at_most : (small large : Bool) → (small ≡ true → large ≡ true) → once small ≤ once large
once-at_most true large within = let same : once large ≡ 1 = ap once (within refl) in omega arith
once-at_most false true within = omega arith
once-at_most false false within = omega arith

-- If two tests do not both pass, their disjunction adds to a count what the two add together.
once-or : (left right : Bool) → (left ≡ true → right ≡ false) → once (left || right)
    ≡ once left + once right
once-or true right apart = let none : once right ≡ 0 = ap once (apart refl) in omega arith
once-or false true apart = refl
once-or false false apart = refl

-- Sets that agree have the same count.
pub count-agree : (n : ℕ) (left right : Selection) → Agree n left right → count n left
    ≡ count n right
unfolding count
count-agree zero left right same = refl
count-agree (suc n) left right same =
    let before = count-agree n left right (λ rank below. same rank (omega arith)) in
    let here : once (left n) ≡ once (right n) = ap once (same n (omega arith)) in
    omega arith

-- The count of a set with no rank below n is 0.
pub count-none : (n : ℕ) (selected : Selection) → ((rank : ℕ) → rank < n → selected rank ≡ false)
    → count n selected ≡ 0
unfolding count
count-none zero selected none = refl
count-none (suc n) selected none =
    let before = count-none n selected (λ rank below. none rank (omega arith)) in
    let here : once (selected n) ≡ 0 = ap once (none n (omega arith)) in
    omega arith

-- The count of a set with every rank below n is n.
pub count-all : (n : ℕ) (selected : Selection) → ((rank : ℕ) → rank < n → selected rank ≡ true)
    → count n selected ≡ n
unfolding count
count-all zero selected all = refl
count-all (suc n) selected all =
    let before = count-all n selected (λ rank below. all rank (omega arith)) in
    let here : once (selected n) ≡ 1 = ap once (all n (omega arith)) in
    omega arith

-- The count of a set is at most n.
pub count-within : (n : ℕ) (selected : Selection) → count n selected ≤ n
unfolding count
count-within zero selected = omega arith
count-within (suc n) selected =
    let before = count-within n selected in
    let here : once (selected n) ≤ 1 = once-at_most (selected n) true (λ holds. refl) in
    omega arith

-- If a set lies within another, its count is no larger.
pub count-at_most : (n : ℕ) (small large : Selection)
    → ((rank : ℕ) → small rank ≡ true → large rank ≡ true) → count n small ≤ count n large
unfolding count
count-at_most zero small large within = omega arith
count-at_most (suc n) small large within =
    let before = count-at_most n small large within in
    let here = once-at_most (small n) (large n) (within n) in
    omega arith

-- If a set lies within another that has a rank below n which the set lacks, its count is smaller.
pub count-less : (n : ℕ) (small large : Selection)
    → ((rank : ℕ) → small rank ≡ true → large rank ≡ true)
    → (rank : ℕ) → rank < n → large rank ≡ true → small rank ≡ false → count n small < count n large
unfolding count
count-less zero small large within rank below has lacks = absurd (omega arith)
count-less (suc n) small large within rank below has lacks = elim (cases_lt rank n) [
  | inl earlier ↦
      let before = count-less n small large within rank earlier has lacks in
      let here = once-at_most (small n) (large n) (within n) in
      omega arith
  | inr last ↦
      let same : rank ≡ n = omega arith in
      let before = count-at_most n small large within in
      let none : once (small n) ≡ 0 = ap once (sym (ap small same) ∙ lacks) in
      let one : once (large n) ≡ 1 = ap once (sym (ap large same) ∙ has) in
      omega arith
]

-- The count of two sets with no common rank is the sum of their counts.
pub count-union : (n : ℕ) (both left right : Selection)
    → ((rank : ℕ) → both rank ≡ (left rank || right rank))
    → ((rank : ℕ) → left rank ≡ true → right rank ≡ false) → count n both
    ≡ count n left + count n right
unfolding count
count-union zero both left right are apart = refl
count-union (suc n) both left right are apart =
    let before = count-union n both left right are apart in
    let here : once (both n) ≡ once (left n) + once (right n) =
    ap once (are n) ∙ once-or (left n) (right n) (apart n) in
    omega arith

-- The count of an interval is the number of its ranks below n.
pub count-covers : (n : ℕ) (run : Interval)
    → count n (covers run) ≡ min n (run.last + 1) - run.first
unfolding count
count-covers zero run = omega arith
count-covers (suc n) run =
    let before = count-covers n run in
    elim (covers-cases run n) [
      | inl inside ↦
          let one : once (covers run n) ≡ 1 = ap once inside.2 in
          let low = inside.0 in
          let high = inside.1 in
          omega arith
      | inr outside ↦
          let none : once (covers run n) ≡ 0 = ap once outside.1 in
          elim outside.0 [ inl below ↦ omega arith | inr past ↦ omega arith ]
    ]

-- The number of members of a canonical list is the sum of the lengths of its intervals.
pub count-members : (n low : ℕ) (runs : List Interval) → IsCanonicalFrom low runs
    → AllEndBelow n runs
    → count n (members runs) ≡ sum_by length_of runs
count-members n low [] canonical below = count-none n (members []) (λ rank here. refl)
count-members n low (run ∷ runs) canonical below =
    let ends : run.last < n = All-head (λ (each : Interval). each.last < n) run runs below in
    let tail = All-tail (λ (each : Interval). each.last < n) run runs below in
    let rest = count-members n (run.last + 2) runs canonical.rest tail in
    let both = count-union n (members (run ∷ runs)) (covers run) (members runs)
    (members-cons run runs)
    (λ rank here. let bounds = covers-bounds run rank here in
    members-below (run.last + 2) runs rank canonical.rest (omega (arith, bounds.1))) in
    let one = count-covers n run in
    let sum = sum_by-cons length_of run runs in
    omega arith
