-- Lists of intervals, and the ranks in an odd number of them.
use Rattle.std.proofs.Common.{◌≡◌, ℕ, ◌+◌, ◌<◌, ◌≤◌, Bool, true, false, not, cond, max, min, nat_le, nat_lt, List, [], ◌∷◌, ◌++◌, refl, sym, ap, ◌∙◌, subst, inl, inr, arith}
use Rattle.std.proofs.lemmas.Bool.{cases_lt}
use Rattle.std.proofs.lemmas.Bool.Decides.{nat_tests}
use Rattle.rsb_integer.specs.Runs.{Interval, cover, covers, members}
use Rattle.rsb_integer.specs.Selection.{Selection, Agree, exclusive_or}
use Rattle.rsb_integer.proofs.lemmas.List.{true_or_false, not_both}
use Rattle.rsb_integer.proofs.lemmas.Members.{covers-cases, covers-inside, covers-outside, members-head, members-tail}
use Rattle.rsb_streams.specs.OddPieces.{oddly_covered, ArePieces, IsTwoDeep, IsTwofold}
use Rattle.rsb_streams.specs.laws.Stream.{sorted-lower}
use Rattle.rsb_streams.specs.Stream.{HasSortedStarts, HasSortedStartsFrom, run_if_any}

-- ---- an odd number of intervals

-- No rank below the start of a sorted list is in an odd number of its intervals.
pub odd-below : (n low : ℕ) (runs : List Interval) (rank : ℕ) → HasSortedStartsFrom n low runs
    → rank < low → oddly_covered runs rank ≡ false
odd-below n low [] rank sorted below = refl
odd-below n low (run ∷ runs) rank sorted below =
    let starts = sorted.starts in
    let under : rank < run.first = omega arith in
    ap (λ test. exclusive_or test (oddly_covered runs rank))
    (covers-outside run rank (inl under))
    ∙ odd-below n run.first runs rank sorted.rest under

-- An interval put before a list changes `oddly_covered` exactly at its own ranks.
pub odd-front : (run : Interval) (runs : List Interval) (rank : ℕ)
    → oddly_covered (run_if_any run ++ runs) rank
    ≡ exclusive_or (covers run rank) (oddly_covered runs rank)
odd-front run runs rank = elim (true_or_false (nat_le run.first run.last)) [
  | inl some ↦ ap (λ test. oddly_covered (cond test (run ∷ []) [] ++ runs) rank) some
  | inr none ↦
      let outside : covers run rank ≡ false = grind (arith, nat_tests) in
      ap (λ test. oddly_covered (cond test (run ∷ []) [] ++ runs) rank) none
      ∙ sym (ap (λ test. exclusive_or test (oddly_covered runs rank)) outside)
]

-- ---- how often a rank is covered

-- An interval put before a list counts once at its own ranks.
cover-front : (run : Interval) (runs : List Interval) (rank : ℕ)
    → cover (run_if_any run ++ runs) rank ≡ cond (covers run rank) 1 0 + cover runs rank
cover-front run runs rank = elim (true_or_false (nat_le run.first run.last)) [
  | inl some ↦ ap (λ test. cover (cond test (run ∷ []) [] ++ runs) rank) some
  | inr none ↦
      let outside : covers run rank ≡ false = grind (arith, nat_tests) in
      let nothing : ◌≡◌ {A = ℕ} (cond (covers run rank) 1 0) 0 = ap (λ test. cond test 1 0) outside in
      let rest : cover (run_if_any run ++ runs) rank ≡ cover runs rank =
      ap (λ test. cover (cond test (run ∷ []) [] ++ runs) rank) none in
      omega (arith, nothing, rest)
]

-- If no rank is in more than two intervals of a list, this also holds without the first interval.
pub deep-tail : (run : Interval) (runs : List Interval) → IsTwoDeep (run ∷ runs) → IsTwoDeep runs
deep-tail run runs deep rank = let all = deep rank in omega arith

-- If a list satisfies `IsTwofold`, it also does without its first interval.
pub twofold-tail : (n : ℕ) (run : Interval) (runs : List Interval) → IsTwofold n (run ∷ runs)
    → IsTwofold n runs
twofold-tail n run runs all = record {
  sorted = sorted-lower n run.first 0 runs (omega arith) all.sorted.rest;
  deep = deep-tail run runs all.deep;
}

-- ---- pieces

-- If no member of a sorted list is below `low`, the list starts at `low` or later.
sorted-from : (n low : ℕ) (runs : List Interval) → HasSortedStarts n runs
    → ((rank : ℕ) → rank < n → members runs rank ≡ true → low ≤ rank)
    → HasSortedStartsFrom n low runs
sorted-from n low [] sorted from = tt
sorted-from n low (run ∷ runs) sorted from =
    let ordered = sorted.in_order in
    let below = sorted.in_type in
    record {
      starts = from run.first (omega arith)
          (members-head run runs run.first (omega arith) ordered);
      in_order = ordered;
      in_type = below;
      rest = sorted.rest;
    }

-- The empty list is a list of pieces of no intervals.
pub no-pieces : (n : ℕ) → ArePieces n (oddly_covered []) []
no-pieces n = record { sorted = tt; same = λ rank below. refl }

-- It is the only one.
pub only-none : (n : ℕ) (pieces : List Interval) → ArePieces n (oddly_covered []) pieces
    → pieces ≡ []
only-none n [] all = refl
only-none n (piece ∷ pieces) all =
    let ordered = all.sorted.in_order in
    let below = all.sorted.in_type in
    absurd (not_both (members (piece ∷ pieces) piece.first)
    (members-head piece pieces piece.first (omega arith) ordered)
    (all.same piece.first (omega arith)))

-- Pieces of a set are pieces of every set with the same ranks.
pub pieces-along : (n : ℕ) (selected other : Selection) (pieces : List Interval)
    → Agree n selected other → ArePieces n selected pieces → ArePieces n other pieces
pieces-along n selected other pieces same all = record {
  sorted = all.sorted;
  same = λ rank below. all.same rank below ∙ same rank below;
}

-- If the other intervals start past the first, the first is a piece.
pub pieces-first : (n : ℕ) (run : Interval) (runs pieces : List Interval) → run.first ≤ run.last
    → run.last < n → HasSortedStartsFrom n (run.last + 1) runs
    → ArePieces n (oddly_covered runs) pieces
    → ArePieces n (oddly_covered (run ∷ runs)) (run ∷ pieces)
pieces-first n run runs pieces ordered below past all = record {
  sorted = record {
    starts = omega arith;
    in_order = ordered;
    in_type = below;
    rest = sorted-from n run.first pieces all.sorted (λ rank within here.
        elim (cases_lt rank run.first) [
          | inl under ↦ absurd (not_both (members pieces rank) here
              (all.same rank within ∙ odd-below n (run.last + 1) runs rank past (omega arith)))
          | inr from ↦ from
        ]);
  };
  same = λ rank within. elim (covers-cases run rank) [
    | inl inside ↦
        members-head run pieces rank inside.0 inside.1
        ∙ sym (ap (λ test. exclusive_or test (oddly_covered runs rank)) inside.2
        ∙ ap not (odd-below n (run.last + 1) runs rank past
        (let high = inside.1 in omega arith)))
    | inr outside ↦
        members-tail run pieces rank outside.0 ∙ all.same rank within
        ∙ sym (ap (λ test. exclusive_or test (oddly_covered runs rank)) outside.1)
  ];
}

-- ---- two intervals that overlap

module _ (run next past : Interval) (low : run.first ≤ next.first) (meets : next.first ≤ run.last)
    (ordered : next.first ≤ next.last) (from : past.first ≡ min run.last next.last + 1)
    (to : past.last ≡ max run.last next.last) where
  -- The ranks in only one of the two are those before the start of the second and those past the
  -- lesser end.
  pub odd-split : (rank : ℕ) (before : Bool) (others : Bool)
      → before ≡ cond (nat_le run.first rank) (nat_lt rank next.first) false
      → exclusive_or (covers run rank) (exclusive_or (covers next rank) others)
      ≡ exclusive_or before (exclusive_or (covers past rank) others)
  odd-split rank before others is = grind (arith, nat_tests)

  -- A rank in what is past the lesser end is in at least one of the two.
  cover-split : (rank : ℕ)
      → cond (covers past rank) 1 0 ≤ cond (covers run rank) 1 0 + cond (covers next rank) 1 0
  cover-split rank = grind (arith, nat_tests)

-- If no rank is in more than two intervals, what comes after two that overlap starts past the
-- lesser end.
past-both : (n : ℕ) (run next : Interval) (given : List Interval) → next.first ≤ run.last
    → IsTwofold n (run ∷ next ∷ given)
    → HasSortedStartsFrom n (min run.last next.last + 1) given
past-both n run next [] meets all = tt
past-both n run next (other ∷ given) meets all =
    let order = all.sorted.rest.starts in
    let starts = all.sorted.rest.rest.starts in
    let ordered = all.sorted.rest.rest.in_order in
    record {
      starts = elim (cases_lt (min run.last next.last) other.first) [
        | inl past ↦ omega (arith, past)
        | inr within ↦
            let first = covers-inside run other.first (omega arith) (omega arith) in
            let second = covers-inside next other.first (omega arith) (omega arith) in
            let third = covers-inside other other.first (omega arith) (omega arith) in
            let most = all.deep other.first in
            let one : ◌≡◌ {A = ℕ} (cond (covers run other.first) 1 0) 1 = ap (λ test. cond test 1 0) first in
            let two : ◌≡◌ {A = ℕ} (cond (covers next other.first) 1 0) 1 = ap (λ test. cond test 1 0) second in
            let three : ◌≡◌ {A = ℕ} (cond (covers other other.first) 1 0) 1 = ap (λ test. cond test 1 0) third
            in
            absurd (omega (arith, most, one, two, three))
      ];
      in_order = ordered;
      in_type = all.sorted.rest.rest.in_type;
      rest = all.sorted.rest.rest.rest;
    }

module _ (n : ℕ) (run next past : Interval) (given : List Interval)
    (all : IsTwofold n (run ∷ next ∷ given)) (meets : next.first ≤ run.last)
    (from : past.first ≡ min run.last next.last + 1)
    (to : past.last ≡ max run.last next.last) where
  -- What is left of two that overlap, and what comes after them, starts no earlier than the second.
  pub past-starts : HasSortedStartsFrom n next.first (run_if_any past ++ given)
  past-starts = front (nat_le past.first past.last) refl
    where
      -- The cases are whether anything is left.
      front : (test : Bool) → nat_le past.first past.last ≡ test
          → HasSortedStartsFrom n next.first (cond test (past ∷ []) [] ++ given)
      front true some =
          let ordered = all.sorted.rest.in_order in
          let first = all.sorted.in_type in
          let second = all.sorted.rest.in_type in
          record {
            starts = omega (arith, ordered, meets, from);
            in_order = grind (arith, nat_tests);
            in_type = omega (arith, to, first, second);
            rest = subst (λ low. HasSortedStartsFrom n low given) (sym from)
                (past-both n run next given meets all);
          }
      front false none =
          let ordered = all.sorted.rest.in_order in
          sorted-lower n (min run.last next.last + 1) next.first given
          (omega (arith, ordered, meets)) (past-both n run next given meets all)

  -- No rank is in more than two of these intervals.
  pub past-twofold : IsTwofold n (run_if_any past ++ given)
  past-twofold = record {
    sorted = sorted-lower n next.first 0 (run_if_any past ++ given) (omega arith) past-starts;
    deep = λ rank.
        let front = cover-front past given rank in
        let less = cover-split run next past all.sorted.rest.starts meets all.sorted.rest.in_order from to rank in
        let most = all.deep rank in
        omega (arith, front, less, most);
  }

  -- If both start at one rank, the pieces of what is left are the pieces of all.
  pub pieces-past : (pieces : List Interval) → next.first ≤ run.first
      → ArePieces n (oddly_covered (run_if_any past ++ given)) pieces
      → ArePieces n (oddly_covered (run ∷ next ∷ given)) pieces
  pieces-past pieces same = pieces-along n (oddly_covered (run_if_any past ++ given))
      (oddly_covered (run ∷ next ∷ given)) pieces (λ rank within.
      odd-front past given rank
      ∙ sym (odd-split run next past all.sorted.rest.starts meets all.sorted.rest.in_order from to rank false
      (oddly_covered given rank) (grind (arith, nat_tests))))

  -- Otherwise, what is before the second is the first piece.
  pub pieces-before : (piece : Interval) (pieces : List Interval) → run.first < next.first
      → piece.first ≡ run.first → piece.last + 1 ≡ next.first
      → ArePieces n (oddly_covered (run_if_any past ++ given)) pieces
      → ArePieces n (oddly_covered (run ∷ next ∷ given)) (piece ∷ pieces)
  pieces-before piece pieces less start end found =
      let below = all.sorted.rest.in_type in
      let ordered = all.sorted.rest.in_order in
      pieces-along n (oddly_covered (piece ∷ (run_if_any past ++ given)))
      (oddly_covered (run ∷ next ∷ given)) (piece ∷ pieces) (λ rank within.
      ap (λ test. exclusive_or (covers piece rank) test) (odd-front past given rank)
      ∙ sym (odd-split run next past all.sorted.rest.starts meets all.sorted.rest.in_order from to rank
      (covers piece rank) (oddly_covered given rank) (grind (arith, nat_tests))))
      (pieces-first n piece (run_if_any past ++ given) pieces (omega arith) (omega arith)
      (subst (λ low. HasSortedStartsFrom n low (run_if_any past ++ given)) (sym end) past-starts)
      found)
