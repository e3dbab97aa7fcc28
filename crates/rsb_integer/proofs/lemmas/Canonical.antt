-- Canonical lists of intervals: no two different ones have the same members.
use Rattle.std.proofs.Common.{◌≡◌, ℕ, ◌+◌, ◌<◌, ◌≤◌, List, [], ◌∷◌, ◌++◌, refl, sym, ◌∙◌, inl, inr, arith}
use Rattle.std.proofs.lemmas.Bool.{cases_lt}
use Rattle.std.proofs.lemmas.List.Elements.{All-cons, All-tail, All-nil, All-weaker}
use Rattle.std.specs.List.{All, AllPairs}
use Rattle.rsb_integer.specs.Runs.{Interval, members, IsCanonicalFrom, IsCanonical, AllEndBelow, IsCanonicalIn}
use Rattle.rsb_integer.specs.Selection.{Agree}
use Rattle.rsb_integer.proofs.lemmas.List.{not_both, AllPairs-cons, All-front}
use Rattle.rsb_integer.proofs.lemmas.Members.{members-below, members-end, members-head, members-tail, same_interval}

-- ---- canonical lists

-- Every interval of a list that is canonical from `low` starts at `low` or later.
pub canonical-starts : (low : ℕ) (runs : List Interval) → IsCanonicalFrom low runs
    → All (λ (run : Interval). low ≤ run.first) runs
canonical-starts low [] canonical = All-nil (λ (run : Interval). low ≤ run.first)
canonical-starts low (run ∷ runs) canonical =
    let ordered = canonical.in_order in
    let starts = canonical.starts in
    All-cons (λ (other : Interval). low ≤ other.first) run runs starts
    (All-weaker (λ (other : Interval). run.last + 2 ≤ other.first)
    (λ (other : Interval). low ≤ other.first) (λ other later. omega arith) runs
    (canonical-starts (run.last + 2) runs canonical.rest))

-- A list that is canonical from a rank is canonical from every lower rank.
pub canonical-lower : (low lower : ℕ) (runs : List Interval) → lower ≤ low
    → IsCanonicalFrom low runs → IsCanonicalFrom lower runs
canonical-lower low lower [] less canonical = tt
canonical-lower low lower (run ∷ runs) less canonical =
    let starts = canonical.starts in
    record { starts = omega arith; in_order = canonical.in_order; rest = canonical.rest }

-- The intervals of a canonical list ascend by their first ranks.
pub canonical-ascending : (low : ℕ) (runs : List Interval) → IsCanonicalFrom low runs
    → AllPairs (λ (before after : Interval). before.first < after.first) runs
canonical-ascending low [] canonical = λ m n d i j. absurd (omega arith)
canonical-ascending low (run ∷ runs) canonical =
    let ordered = canonical.in_order in
    AllPairs-cons (λ (before after : Interval). before.first < after.first) run runs
    (All-weaker (λ (other : Interval). run.last + 2 ≤ other.first)
    (λ (other : Interval). run.first < other.first) (λ other later. omega arith) runs
    (canonical-starts (run.last + 2) runs canonical.rest))
    (canonical-ascending (run.last + 2) runs canonical.rest)

-- The lowest rank where a canonical list may continue after these intervals.
abbrev pub next_start : ℕ → List Interval → ℕ
next_start low [] = low
next_start low (run ∷ runs) = next_start (run.last + 2) runs

-- Both parts of a canonical list are canonical, the second from where the first lets it continue.
pub canonical-parts : (low : ℕ) (runs others : List Interval) → IsCanonicalFrom low (runs ++ others)
    → IsCanonicalFrom low runs × IsCanonicalFrom (next_start low runs) others
canonical-parts low [] others canonical = (tt, canonical)
canonical-parts low (run ∷ runs) others canonical =
    let parts = canonical-parts (run.last + 2) runs others canonical.rest in
    (record { starts = canonical.starts; in_order = canonical.in_order; rest = parts.0 }, parts.1)

-- The empty list is canonical.
pub canonical-none : (n : ℕ) → IsCanonicalIn n []
canonical-none n = record { apart = tt; within = All-nil (λ (run : Interval). run.last < n) }

-- A prefix of a canonical list is canonical.
pub canonical-front : (n : ℕ) (runs others : List Interval) → IsCanonicalIn n (runs ++ others)
    → IsCanonicalIn n runs
canonical-front n runs others canonical = record {
  apart = (canonical-parts 0 runs others canonical.apart).0;
  within = All-front (λ (run : Interval). run.last < n) runs others canonical.within;
}

-- What follows the first interval of a canonical list is canonical.
pub canonical-tail : (n : ℕ) (run : Interval) (runs : List Interval) → IsCanonicalIn n (run ∷ runs)
    → IsCanonicalIn n runs
canonical-tail n run runs canonical = record {
  apart = canonical-lower (run.last + 2) 0 runs (omega arith) canonical.apart.rest;
  within = All-tail (λ (other : Interval). other.last < n) run runs canonical.within;
}

-- ---- two canonical lists with the same members are one list

-- If the members are the same, the first interval of the other list starts no later.
unique-first : (run other : Interval) (runs others : List Interval) → run.first ≤ run.last
    → IsCanonicalFrom (other.last + 2) others
    → ((rank : ℕ) → members (run ∷ runs) rank ≡ members (other ∷ others) rank)
    → other.first ≤ other.last → other.first ≤ run.first
unique-first run other runs others ordered rest same order = elim (cases_lt run.first other.first) [
  | inl less ↦
      absurd (not_both (members (run ∷ runs) run.first)
      (members-head run runs run.first (omega arith) ordered)
      (same run.first ∙ members-tail other others run.first (inl less)
      ∙ members-below (other.last + 2) others run.first rest (omega arith)))
  | inr most ↦ most
]

-- If both first intervals start at the same rank, that of the other list ends no later.
unique-last : (run other : Interval) (runs others : List Interval) → run.first ≡ other.first
    → run.first ≤ run.last → IsCanonicalFrom (run.last + 2) runs
    → ((rank : ℕ) → members (run ∷ runs) rank ≡ members (other ∷ others) rank)
    → other.last ≤ run.last
unique-last run other runs others first ordered rest same = elim (cases_lt run.last other.last) [
  | inl less ↦
      absurd (not_both (members (other ∷ others) (run.last + 1))
      (members-head other others (run.last + 1) (omega arith) (omega arith))
      (sym (same (run.last + 1)) ∙ members-tail run runs (run.last + 1) (inr (omega arith))
      ∙ members-below (run.last + 2) runs (run.last + 1) rest (omega arith)))
  | inr most ↦ most
]

-- Canonical lists that agree at every rank are the same list, wherever each may start.
pub canonical-unique : (low lower : ℕ) (runs others : List Interval) → IsCanonicalFrom low runs
    → IsCanonicalFrom lower others → ((rank : ℕ) → members runs rank ≡ members others rank) → runs
    ≡ others
canonical-unique low lower [] [] left right same = refl
canonical-unique low lower [] (other ∷ others) left right same =
    absurd (not_both (members (other ∷ others) other.first)
    (members-head other others other.first (omega arith) right.in_order) (sym (same other.first)))
canonical-unique low lower (run ∷ runs) [] left right same =
    absurd (not_both (members (run ∷ runs) run.first)
    (members-head run runs run.first (omega arith) left.in_order) (same run.first))
canonical-unique low lower (run ∷ runs) (other ∷ others) left right same =
    let ordered = left.in_order in
    let order = right.in_order in
    let back : (rank : ℕ) → members (other ∷ others) rank
    ≡ members (run ∷ runs) rank = λ rank. sym (same rank) in
    let first : run.first ≡ other.first = omega (
      arith,
      unique-first run other runs others ordered right.rest same order,
      unique-first other run others runs order left.rest back ordered,
    ) in
    let last : run.last ≡ other.last = omega (
      arith,
      unique-last run other runs others first ordered left.rest same,
      unique-last other run others runs (sym first) order right.rest back,
    ) in
    let head : run ≡ other = same_interval run other first last in
    let rest : (rank : ℕ) → members runs rank
    ≡ members others rank = λ rank. elim (cases_lt (run.last + 1) rank) [
      | inl past ↦
          sym (members-tail run runs rank (inr (omega arith))) ∙ same rank
          ∙ members-tail other others rank (inr (omega arith))
      | inr before ↦
          members-below (run.last + 2) runs rank left.rest (omega arith)
          ∙ sym (members-below (other.last + 2) others rank right.rest (omega arith))
    ] in
    let tails = canonical-unique (run.last + 2) (other.last + 2) runs others left.rest right.rest rest in
    λ i. head i ∷ tails i

-- Lists that end within the type and agree there agree at every rank.
agree-everywhere : (n : ℕ) (runs others : List Interval) → AllEndBelow n runs → AllEndBelow n others
    → Agree n (members runs) (members others) → (rank : ℕ) → members runs rank ≡ members others rank
agree-everywhere n runs others left right same rank = elim (cases_lt rank n) [
  | inl below ↦ same rank below
  | inr past ↦ members-end n runs rank left past ∙ sym (members-end n others rank right past)
]

-- Two canonical lists with the same members are the same list.
pub canonical-same : (n : ℕ) (runs others : List Interval) → IsCanonical runs → IsCanonical others
    → AllEndBelow n runs → AllEndBelow n others → Agree n (members runs) (members others) → runs
    ≡ others
canonical-same n runs others left right ends other_ends same =
    canonical-unique 0 0 runs others left right
    (agree-everywhere n runs others ends other_ends same)
