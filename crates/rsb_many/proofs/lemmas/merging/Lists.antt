-- Merges of what any number of streams may give.
use Rattle.std.proofs.Common.{◌≡◌, ℕ, zero, suc, pred, ◌<◌, List, [], ◌∷◌, refl, ap, arith}
use Rattle.rsb_integer.specs.Runs.{Interval}
use Rattle.rsb_streams.specs.Stream.{◌⊆◌, just, merges, HasSortedStarts, HasSortedStartsFrom, Outcomes}
use Rattle.rsb_many.specs.laws.Many.{merges_all-starts}
use Rattle.rsb_streams.proofs.lemmas.merging.Answers.{head-left, head-right, no-merges}
use Rattle.rsb_many.specs.Many.{merges_all}

-- If two streams may give more, their merge may give all that it might before.
pub merges-wider : (n : ℕ) (P Q More Other : Outcomes) → P ⊆ More → Q ⊆ Other
    → merges n P Q ⊆ merges n More Other
merges-wider n P Q More Other first second runs may = λ nothing. may (λ left right at also all.
    nothing left right (first left at) (second right also) all)

-- So does the merge of many streams.
pub merges_all-wider : (n count : ℕ) (before now : ℕ → Outcomes)
    → ((place : ℕ) → place < count → now place ⊆ before place)
    → merges_all n count now ⊆ merges_all n count before
merges_all-wider n zero before now each runs may = may
merges_all-wider n (suc count) before now each runs may = merges-wider n (now zero)
    (merges_all n count (λ place. now (suc place))) (before zero)
    (merges_all n count (λ place. before (suc place))) (each zero (omega arith))
    (merges_all-wider n count (λ place. before (suc place)) (λ place. now (suc place))
    (λ place less. each (suc place) (omega (arith, less)))) runs may

-- If no stream gives anything, neither does the merge.
pub merges_all-nothing : (n count : ℕ) (may_give : ℕ → Outcomes)
    → ((place : ℕ) → place < count → may_give place ⊆ just [])
    → merges_all n count may_give ⊆ just []
merges_all-nothing n zero may_give each runs may = may
merges_all-nothing n (suc count) may_give each runs may = no-merges n (may_give zero)
    (merges_all n count (λ place. may_give (suc place))) (each zero (omega arith))
    (merges_all-nothing n count (λ place. may_give (suc place))
    (λ place less. each (suc place) (omega (arith, less)))) runs may

-- If each stream may give the empty list, so may the merge.
pub merges_all-empty : (n count : ℕ) (may_give : ℕ → Outcomes)
    → ((place : ℕ) → place < count → may_give place []) → merges_all n count may_give []
merges_all-empty n zero may_give each = refl
merges_all-empty n (suc count) may_give each = λ nothing. nothing [] [] (each zero (omega arith))
    (merges_all-empty n count (λ place. may_give (suc place))
    (λ place less. each (suc place) (omega (arith, less)))) (tt, (refl, refl))

-- A range of the stream at one place may come first in the merge if all that comes after it starts
-- no earlier.
pub merges_all-head : (n count place : ℕ) (before now : ℕ → Outcomes) (run : Interval)
    → place < count
    → ((rest : List Interval) → now place rest → before place (run ∷ rest))
    → ((other : ℕ) → other < count → ¬ (other ≡ place) → now other ⊆ before other)
    → ((each : ℕ) → each < count → before each ⊆ HasSortedStarts n)
    → ((each : ℕ) → each < count → now each ⊆ HasSortedStartsFrom n run.first)
    → (rest : List Interval) → merges_all n count now rest → merges_all n count before (run ∷ rest)
merges_all-head n zero place before now run less here others sorted past rest may =
    absurd (omega (arith, less))
merges_all-head n (suc count) zero before now run less here others sorted past rest may =
    let afters = λ (each : ℕ). now (suc each) in
    let befores = λ (each : ℕ). before (suc each) in
    head-left n (before zero) (merges_all n count befores) (now zero) (merges_all n count afters)
    run (sorted zero less) here
    (merges_all-wider n count befores afters
    (λ each most. others (suc each) (omega (arith, most)) (λ same. absurd (omega (arith, same)))))
    (merges_all-starts n run.first count afters
    (λ each most. past (suc each) (omega (arith, most)))) rest may
merges_all-head n (suc count) (suc place) before now run less here others sorted past rest may =
    let afters = λ (each : ℕ). now (suc each) in
    let befores = λ (each : ℕ). before (suc each) in
    head-right n (before zero) (merges_all n count befores) (now zero) (merges_all n count afters)
    run
    (merges_all-starts n 0 count befores (λ each most. sorted (suc each) (omega (arith, most))))
    (merges_all-head n count place befores afters run (omega (arith, less)) here
    (λ other most differs. others (suc other) (omega (arith, most))
    (λ same. differs (ap pred same)))
    (λ each most. sorted (suc each) (omega (arith, most)))
    (λ each most. past (suc each) (omega (arith, most))))
    (others zero (omega arith) (λ same. absurd (omega (arith, same))))
    (past zero (omega arith)) rest may
