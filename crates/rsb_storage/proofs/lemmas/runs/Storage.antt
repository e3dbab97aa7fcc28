-- The lengths of canonical runs, and what a failed test of two numbers shows.
use Rattle.std.proofs.Common.{◌≡◌, ◌↔◌, Bool, false, IsTrue, inl, inr, ℕ, ◌<◌, ◌≤◌, List, sym, arith}
use Rattle.std.proofs.lemmas.Bool.{cases_lt}
use Rattle.std.specs.List.{sum_by}
use Rattle.rsb_integer.specs.Runs.{Interval, length_of, members, IsCanonicalIn}
use Rattle.rsb_integer.specs.Selection.{count}
use Rattle.rsb_integer.proofs.lemmas.Count.{count-members, count-within}
use Rattle.rsb_integer.proofs.lemmas.List.{not_both}

-- The lengths of canonical runs in a type add up to the number of their members.
pub sum_by-canonical : (n : ℕ) (runs : List Interval) → IsCanonicalIn n runs
    → sum_by length_of runs ≡ count n (members runs)
sum_by-canonical n runs canonical = sym (count-members n 0 runs canonical.apart canonical.within)

-- They add up to at most n.
pub sum_by-within : (n : ℕ) (runs : List Interval) → IsCanonicalIn n runs
    → sum_by length_of runs ≤ n
sum_by-within n runs canonical =
    let sum = sum_by-canonical n runs canonical in
    let within = count-within n (members runs) in
    omega arith

-- If a test whether `left` is less than `right` fails, `right` is at most `left`.
pub lt-fails : (test : Bool) (left right : ℕ) → IsTrue test ↔ (left < right) → test ≡ false
    → right ≤ left
lt-fails test left right tells fails = elim (cases_lt left right) [
  | inl less ↦ absurd (not_both test (tells.1 less) fails)
  | inr most ↦ most
]

-- If a test whether `left` is at most `right` fails, `right` is less than `left`.
pub le-fails : (test : Bool) (left right : ℕ) → IsTrue test ↔ (left ≤ right) → test ≡ false
    → right < left
le-fails test left right tells fails = elim (cases_lt right left) [
  | inl less ↦ less
  | inr most ↦ absurd (not_both test (tells.1 most) fails)
]
