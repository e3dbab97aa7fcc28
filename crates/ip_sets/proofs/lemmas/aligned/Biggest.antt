-- The biggest block at the start of a run is a maximal block of a set whose least run this is.
use Rattle.std.specs.Int.{◌∣◌}
use Rattle.std.proofs.Common.{◌≡◌, ℕ, true, false, ◌+◌, ◌-◌, ◌*◌, ◌^◌, ◌<◌, ◌≤◌, List, ◌∷◌, sym, ◌∙◌, subst, inl, inr, arith}
use Rattle.std.proofs.Math.Nat.{dvd_trans}
use Rattle.std.proofs.lemmas.Bool.{cases_lt}
use Rattle.rsb_integer.proofs.lemmas.List.{not_both}
use Rattle.range_set_blaze.specs.Runs.{Interval, members, IsCanonicalFrom}
use Rattle.range_set_blaze.proofs.MembersLemmas.{covers-bounds, covers-inside, members-below, members-head, members-tail}
use Rattle.ip_sets.specs.Blocks.{IsBlock, IsInside, IsMaximalBlock}
use Rattle.ip_sets.specs.BlocksLeft.{IsBiggest}
use Rattle.ip_sets.proofs.lemmas.aligned.Meeting.{block-ordered, meet-inside}
use Rattle.ip_sets.proofs.lemmas.aligned.OneMore.{IsPast}
use Rattle.ip_sets.proofs.lemmas.aligned.Powers.{pow-divides, pow-most, pow-under, trailing-divides, trailing-most}
use lib.Count.{count_trailing_zeros}

-- ---- how big it is

-- The exponent is the lesser of two: that of the greatest power of 2 that divides the first rank,
-- and that of the greatest one that is at most the number of ranks.
pub biggest-is : (run : Interval) (zeros fitting free : ℕ) → run.first ≤ run.last
    → run.last < 2 ^ 128 → zeros ≡ count_trailing_zeros 128 run.first
    → 2 ^ fitting ≤ run.last - run.first + 1 → run.last - run.first + 1 < 2 * 2 ^ fitting
    → free ≤ zeros → free ≤ fitting
    → ((more : ℕ) → more ≤ zeros → more ≤ fitting → more ≤ free) → IsBiggest run free
biggest-is run zeros fitting free ordered below is fits next less_zeros less_fitting most = record {
  aligned = dvd_trans (2 ^ free) (pow-divides free zeros less_zeros)
      (subst (λ k. 2 ^ k ∣ run.first) (sym is) (trailing-divides 128 run.first));
  fits =
      let power = pow-most free fitting less_fitting in
      omega (arith, power, fits, ordered);
  biggest = λ more divides within.
      let digits = pow-under more 128 (omega (arith, within, below)) in
      let by_zeros = trailing-most 128 run.first more digits divides in
      let by_fitting = pow-under more fitting (omega (arith, within, next)) in
      most more (subst (λ k. more ≤ k) (sym is) by_zeros) by_fitting;
}

-- The ranks that it counts are a block.
abbrev pub biggest-block : (run block : Interval) (free : ℕ) → IsBiggest run free
    → block.first ≡ run.first → block.last + 1 ≡ run.first + 2 ^ free → IsBlock block
biggest-block run block free is starts ends = record {
  free = free;
  size = omega (arith, starts, ends);
  aligned = subst (λ n. 2 ^ free ∣ n) (sym starts) is.aligned;
}

-- ---- it is maximal

module _ (run : Interval) (runs : List Interval) (ordered : run.first ≤ run.last)
    (canonical : IsCanonicalFrom (run.last + 2) runs) (free : ℕ) (is : IsBiggest run free)
    (block : Interval) (starts : block.first ≡ run.first)
    (ends : block.last + 1 ≡ run.first + 2 ^ free) where
  -- It is a block.
  abbrev is_block : IsBlock block
  is_block = biggest-block run block free is starts ends

  -- It ends in the run.
  biggest-ends : block.last ≤ run.last
  biggest-ends = let fits = is.fits in omega (arith, ends, fits)

  -- The set has no ranks before the run.
  members-from_run : (rank : ℕ) → members (run ∷ runs) rank ≡ true → run.first ≤ rank
  members-from_run rank at = elim (cases_lt rank run.first) [
    | inl before ↦ absurd (not_both (members (run ∷ runs) rank) at
        (members-below run.first (run ∷ runs) rank (record { starts = omega arith; in_order = ordered; rest = canonical }) before))
    | inr most ↦ most
  ]

  -- The set does not have the rank past the run.
  members-not_past : members (run ∷ runs) (run.last + 1) ≡ false
  members-not_past =
      members-tail run runs (run.last + 1) (inr (omega arith))
      ∙ members-below (run.last + 2) runs (run.last + 1) canonical (omega arith)

  -- A block of ranks of the set that contains the block has at most its size: it starts with the
  -- run and ends in it.
  none-bigger : (other : Interval) (other_is : IsBlock other)
      → IsInside (members (run ∷ runs)) other → other.first ≤ block.first
      → block.last ≤ other.last → other_is.free ≤ free
  none-bigger other other_is inside from to =
      let other_ordered = block-ordered other other_is in
      let starts_in = members-from_run other.first
      (inside other.first (covers-inside other other.first (omega arith) other_ordered)) in
      let same : other.first ≡ run.first = omega (arith, from, starts, starts_in) in
      let ends_in : other.last ≤ run.last = elim (cases_lt run.last other.last) [
        | inl past ↦ absurd (not_both (members (run ∷ runs) (run.last + 1))
            (inside (run.last + 1) (covers-inside other (run.last + 1)
            (omega (arith, same, ordered)) (omega (arith, past)))) members-not_past)
        | inr most ↦ most
      ] in
      let size = other_is.size in
      is.biggest other_is.free (subst (λ n. 2 ^ other_is.free ∣ n) same other_is.aligned)
      (omega (arith, size, same, ends_in))

  -- So it is maximal.
  pub biggest-maximal : IsMaximalBlock (members (run ∷ runs)) block
  biggest-maximal = record {
    is_block = is_block;
    inside = λ rank at.
        let bounds = covers-bounds block rank at in
        let within = biggest-ends in
        members-head run runs rank (omega (arith, starts, bounds.0))
        (omega (arith, within, bounds.1));
    maximal = λ other rank other_is inside at here.
        let bounds = covers-bounds other rank at in
        let own = covers-bounds block rank here in
        elim (cases_lt free other_is.free) [
          | inl more ↦
              let around = meet-inside block other is_block other_is rank (omega (arith, more))
              own.0 own.1 bounds.0 bounds.1 in
              let most = none-bigger other other_is inside around.0 around.1 in
              absurd (omega (arith, more, most))
          | inr most ↦
              meet-inside other block other_is is_block rank most bounds.0 bounds.1 own.0 own.1
        ];
  }

  -- ---- what comes past it

  -- If the block ends with the run, the other runs are left.
  pub past-whole : block.last ≡ run.last → IsPast (members (run ∷ runs)) block (members runs)
  past-whole end = record {
    least = λ rank at.
        let from = members-from_run rank at in
        omega (arith, starts, from);
    gone = λ rank most.
        members-below (run.last + 2) runs rank canonical (omega (arith, end, most));
    same = λ rank past. sym (members-tail run runs rank (inr (omega (arith, end, past))));
  }

  -- Past the block, a rank is in what is left of the run if and only if it is in the run.
  same-past : (rest : Interval) → rest.first ≡ block.last + 1 → rest.last ≡ run.last
      → (rank : ℕ) → block.last < rank → members (rest ∷ runs) rank ≡ members (run ∷ runs) rank
  same-past rest from to rank past = elim (cases_lt run.last rank) [
    | inl beyond ↦
        members-tail rest runs rank (inr (omega (arith, to, beyond)))
        ∙ sym (members-tail run runs rank (inr (omega (arith, beyond))))
    | inr most ↦
        members-head rest runs rank (omega (arith, from, past)) (omega (arith, to, most))
        ∙ sym (members-head run runs rank (omega (arith, starts, past, block-ordered block is_block))
        (omega (arith, most)))
  ]

  -- Otherwise what is left is the rest of the run, and the other runs.
  pub past-part : (rest : Interval) → rest.first ≡ block.last + 1 → rest.last ≡ run.last
      → IsPast (members (run ∷ runs)) block (members (rest ∷ runs))
  past-part rest from to = record {
    least = λ rank at.
        let start = members-from_run rank at in
        omega (arith, starts, start);
    gone = λ rank most.
        let within = biggest-ends in
        members-tail rest runs rank (inl (omega (arith, from, most)))
        ∙ members-below (run.last + 2) runs rank canonical (omega (arith, within, most));
    same = same-past rest from to;
  }
