-- What intervals cover, and the members of lists of them.
use Rattle.std.proofs.Common.{◌≡◌, ◌⊎◌, ℕ, Bool, true, false, ◌||◌, cond, ◌+◌, ◌<◌, ◌≤◌, nat_lt, List, [], ◌∷◌, ◌++◌, refl, sym, ap, ◌∙◌, inl, inr, arith}
use Rattle.std.proofs.Math.Bool.{or-true}
use Rattle.std.proofs.lemmas.Bool.Decides.{nat_tests}
use Rattle.std.proofs.lemmas.List.Elements.{All-contains}
use Rattle.std.specs.List.{Contains}
use Rattle.rsb_integer.specs.Runs.{Interval, covers, cover, members, IsCanonicalFrom, AllEndBelow}
use Rattle.rsb_integer.proofs.lemmas.List.{true_or_false, Contains-head, Contains-tail, Contains-cases}

-- ---- what an interval covers

-- A rank inside the interval is covered.
pub covers-inside : (run : Interval) (rank : ℕ) → run.first ≤ rank → rank ≤ run.last
    → covers run rank ≡ true
covers-inside run rank low high = grind (arith, nat_tests)

-- A rank outside the interval is not covered.
pub covers-outside : (run : Interval) (rank : ℕ) → (rank < run.first) ⊎ (run.last < rank)
    → covers run rank ≡ false
covers-outside run rank outside = elim outside [
  | inl below ↦ grind (arith, nat_tests)
  | inr past ↦ grind (arith, nat_tests)
]

-- A covered rank lies inside the interval.
pub covers-bounds : (run : Interval) (rank : ℕ) → covers run rank ≡ true → (run.first ≤ rank)
    × (rank ≤ run.last)
covers-bounds run rank is = (grind (arith, nat_tests), grind (arith, nat_tests))

-- A rank is in the interval, or lies on one side of it.
pub covers-cases : (run : Interval) (rank : ℕ)
    → ((run.first ≤ rank) × (rank ≤ run.last) × (covers run rank ≡ true))
    ⊎ (((rank < run.first) ⊎ (run.last < rank)) × (covers run rank ≡ false))
covers-cases run rank = grind (arith, nat_tests)

-- Intervals with the same ends are the same.
pub same_interval : (run other : Interval) → run.first ≡ other.first → run.last ≡ other.last → run
    ≡ other
same_interval run other first last = λ i. record { first = first i; last = last i }

-- ---- members

-- A count plus 1 for a test that passes is positive if and only if the test passes or the count is
-- positive.
lt-cover : (test : Bool) (n : ℕ) → nat_lt 0 (cond test 1 0 + n) ≡ (test || nat_lt 0 n)
lt-cover true n = grind (arith, nat_tests)
lt-cover false n = grind (arith, nat_tests)

-- A rank is a member if and only if the first interval covers it or it is a member of the others.
pub members-cons : (run : Interval) (runs : List Interval) (rank : ℕ)
    → members (run ∷ runs) rank ≡ (covers run rank || members runs rank)
members-cons run runs rank = lt-cover (covers run rank) (cover runs rank)

-- A rank that the first interval covers is a member.
pub members-covered : (run : Interval) (runs : List Interval) (rank : ℕ)
    → covers run rank ≡ true → members (run ∷ runs) rank ≡ true
members-covered run runs rank here =
    members-cons run runs rank ∙ ap (λ test. test || members runs rank) here

-- A rank inside the first interval is a member.
pub members-head : (run : Interval) (runs : List Interval) (rank : ℕ)
    → run.first ≤ rank → rank ≤ run.last → members (run ∷ runs) rank ≡ true
members-head run runs rank low high =
    members-covered run runs rank (covers-inside run rank low high)

-- A rank outside the first interval is a member if and only if it is one of the others.
pub members-tail : (run : Interval) (runs : List Interval) (rank : ℕ)
    → (rank < run.first) ⊎ (run.last < rank) → members (run ∷ runs) rank ≡ members runs rank
members-tail run runs rank outside =
    members-cons run runs rank
    ∙ ap (λ test. test || members runs rank) (covers-outside run rank outside)

-- No member of a list that is canonical from `low` lies below `low`.
pub members-below : (low : ℕ) (runs : List Interval) (rank : ℕ)
    → IsCanonicalFrom low runs → rank < low → members runs rank ≡ false
members-below low [] rank canonical below = refl
members-below low (run ∷ runs) rank canonical below =
    let starts = canonical.starts in
    let ordered = canonical.in_order in
    members-tail run runs rank (inl (omega arith))
    ∙ members-below (run.last + 2) runs rank canonical.rest (omega arith)

-- A member is covered by the first interval or is a member of the others.
members-cases : (run : Interval) (runs : List Interval) (rank : ℕ) → members (run ∷ runs) rank
    ≡ true
    → (covers run rank ≡ true) ⊎ (members runs rank ≡ true)
members-cases run runs rank member = elim (covers-cases run rank) [
  | inl inside ↦ inl inside.2
  | inr outside ↦ inr (sym (members-tail run runs rank outside.0) ∙ member)
]

-- A member lies in an interval of the list.
pub members-in : (runs : List Interval) (rank : ℕ) → members runs rank ≡ true
    → (run : Interval) × Contains runs run × (covers run rank ≡ true)
members-in [] rank member = absurd (cc)
members-in (run ∷ runs) rank member = elim (members-cases run runs rank member) [
  | inl here ↦ (run, Contains-head run runs, here)
  | inr later ↦
      let found = members-in runs rank later in
      (found.0, Contains-tail run runs found.0 found.1, found.2)
]

-- A rank that an interval of the list covers is a member.
pub members-from : (runs : List Interval) (run : Interval) (rank : ℕ)
    → Contains runs run → covers run rank ≡ true → members runs rank ≡ true
members-from [] run rank found here = let below = found.1 in absurd (omega arith)
members-from (other ∷ runs) run rank found here = elim (Contains-cases other runs run found) [
  | inl same ↦ members-covered other runs rank (ap (λ found. covers found rank) same ∙ here)
  | inr later ↦
      members-cons other runs rank
      ∙ ap (λ test. covers other rank || test) (members-from runs run rank later here)
      ∙ or-true (covers other rank)
]

-- If all intervals end within the type, no rank past the end of the type is a member.
pub members-end : (n : ℕ) (runs : List Interval) (rank : ℕ)
    → AllEndBelow n runs → n ≤ rank → members runs rank ≡ false
members-end n runs rank below past = elim (true_or_false (members runs rank)) [
  | inl member ↦
      let found = members-in runs rank member in
      let ends = All-contains (λ (run : Interval). run.last < n) runs found.0 below found.1 in
      let bounds = covers-bounds found.0 rank found.2 in
      absurd (omega (arith, bounds.1))
  | inr none ↦ none
]

-- In two lists, one after the other, as many intervals cover a rank as in each list, added up.
pub cover-append : (runs others : List Interval) (rank : ℕ)
    → cover (runs ++ others) rank ≡ cover runs rank + cover others rank
cover-append [] others rank = omega arith
cover-append (run ∷ runs) others rank = let rest = cover-append runs others rank in omega arith

-- A sum is positive if and only if one of its parts is.
lt-sum : (m n : ℕ) → nat_lt 0 (m + n) ≡ (nat_lt 0 m || nat_lt 0 n)
lt-sum m n = grind (arith, nat_tests)

-- The members of two lists, one after the other, are the members of either list.
pub members-append : (runs others : List Interval) (rank : ℕ)
    → members (runs ++ others) rank ≡ (members runs rank || members others rank)
members-append runs others rank =
    ap (nat_lt 0) (cover-append runs others rank) ∙ lt-sum (cover runs rank) (cover others rank)
