-- The last piece that starts below a rank, shortened to end below it.
use Rattle.std.proofs.Common.{◌≡◌, ℕ, false, ◌==◌, ◌+◌, ◌-◌, ◌<◌, ◌≤◌, nat_le, nat_lt, List, [], ◌∷◌, ◌++◌, sym, ap, ◌∙◌, inl, inr, refl, arith, subst}
use Rattle.std.specs.List.{Contains}
use Rattle.std.proofs.lemmas.Bool.{cases_lt}
use Rattle.std.proofs.lemmas.Bool.Decides.{nat_tests}
use Rattle.std.proofs.lemmas.List.{map-append}
use Rattle.rsb_integer.specs.Runs.{Interval}
use Rattle.range_map_blaze.specs.Map.{IsMapIn}
use Rattle.range_map_blaze.specs.Parts.{before}
use Rattle.range_map_blaze.specs.Storage.{pieces_below, pieces_from, with_end, with_end_at, IsLastBelow, NoneBelow, StartsAscendFrom}
use Rattle.range_map_blaze.proofs.lemmas.Contained.{contained-maximal}
use Rattle.range_map_blaze.proofs.lemmas.Cuts.{before-all, before-shortened, below-nothing, last-ends, starting-fails, starting-passes}
use Rattle.range_map_blaze.proofs.lemmas.Starts.{ascending-all, starting-all, starting-ascending, starting-contains, Contains-starting}

module _ {V : Type 0} where
  -- Nothing starts below rank 0.
  pub below-zero : (pieces : List (Interval × V)) → pieces_below 0 pieces ≡ []
  below-zero [] = refl
  below-zero (piece ∷ pieces) =
      starting-fails (λ start. nat_lt start 0) piece pieces (grind (arith, nat_tests)) ∙ below-zero pieces

  pub short-zero : (rank : ℕ) (pieces : List (Interval × V)) → rank ≡ 0
      → pieces ≡ before rank (pieces_below rank pieces) ++ pieces_from rank pieces
  short-zero rank pieces zero =
      sym (ap (λ (low : ℕ). before low (pieces_below low pieces) ++ pieces_from low pieces) zero
      ∙ λ i. before 0 (below-zero pieces i)
      ++ starting-all (λ start. nat_le 0 start) pieces (λ piece found. grind (arith, nat_tests)) i)

module _ {V : Type 0} (n : ℕ) where
  -- A list whose starts ascend has first those below a rank, and then the others.
  pub split-starts : (low rank : ℕ) (pieces : List (Interval × V)) → StartsAscendFrom n low pieces
      → pieces ≡ pieces_below rank pieces ++ pieces_from rank pieces
  split-starts low rank [] ascending = refl
  split-starts low rank (piece ∷ pieces) ascending = elim (cases_lt piece.0.first rank) [
    | inl less ↦ λ i.
        ((ap (λ (rest : List (Interval × V)). piece ∷ rest)
        (split-starts (piece.0.first + 1) rank pieces ascending.2))
        ∙ (λ j. sym (starting-passes (λ start. nat_lt start rank) piece pieces
        (grind (arith, nat_tests, less))) j
        ++ sym (starting-fails (λ start. nat_le rank start) piece pieces
        (grind (arith, nat_tests, less))) j)) i
    | inr past ↦ λ i.
        (sym (below-nothing n piece.0.first rank (piece ∷ pieces) past
        (omega arith, ascending.1, ascending.2)) i)
        ++ (sym (ascending-all (λ start. nat_le rank start) n piece.0.first (piece ∷ pieces)
        (omega arith, ascending.1, ascending.2)
        (λ start from. grind (arith, nat_tests, from, past))) i)
  ]

  -- Pieces that all start past the rank are unchanged by another end there.
  with_end-past : (start end low : ℕ) (pieces : List (Interval × V)) → start < low
      → StartsAscendFrom n low pieces → with_end_at start end pieces ≡ pieces
  with_end-past start end low [] below ascending = refl
  with_end-past start end low (piece ∷ pieces) below ascending =
      let from = ascending.0 in
      let differs : (piece.0.first == start) ≡ false = grind (arith, nat_tests, below, from) in
      rw differs
      (ap (λ (rest : List (Interval × V)). piece ∷ rest)
      (with_end-past start end (piece.0.first + 1) pieces (omega (arith, below, from)) ascending.2))

  -- The pieces from a rank on ascend from there.
  from-ascending : (low rank : ℕ) (pieces : List (Interval × V)) → StartsAscendFrom n low pieces
      → StartsAscendFrom n rank (pieces_from rank pieces)
  from-ascending low rank [] ascending = tt
  from-ascending low rank (piece ∷ pieces) ascending = elim (cases_lt piece.0.first rank) [
    | inl less ↦
        subst (StartsAscendFrom n rank) (sym (starting-fails (λ start. nat_le rank start) piece pieces
        (grind (arith, nat_tests, less)))) (from-ascending (piece.0.first + 1) rank pieces ascending.2)
    | inr past ↦
        subst (StartsAscendFrom n rank) (sym (starting-passes (λ start. nat_le rank start) piece pieces
        (grind (arith, nat_tests, past)))) (
          past,
          ascending.1,
          starting-ascending (λ start. nat_le rank start) n (piece.0.first + 1) pieces ascending.2,
        )
  ]

  module _ (rank : ℕ) (pieces : List (Interval × V)) (ascending : StartsAscendFrom n 0 pieces)
      (canonical : IsMapIn n (pieces_below rank pieces)) where
    -- If the pieces that start below all end below, nothing has to change.
    pub short-enough : ((piece : Interval × V) → Contains (pieces_below rank pieces) piece
        → piece.0.last < rank)
        → pieces ≡ before rank (pieces_below rank pieces) ++ pieces_from rank pieces
    short-enough ends =
        split-starts 0 rank pieces ascending
        ∙ ap (λ (low : List (Interval × V)). low ++ pieces_from rank pieces)
        (sym (before-all rank (pieces_below rank pieces) ends))

    -- There are none.
    pub short-none : NoneBelow pieces rank
        → pieces ≡ before rank (pieces_below rank pieces) ++ pieces_from rank pieces
    short-none none = short-enough (λ piece found.
        let is = starting-contains (λ start. nat_lt start rank) pieces piece found in
        absurd (none piece is.0 (grind (arith, nat_tests, is.1))))

    module _ (end : ℕ) (next : end + 1 ≡ rank) (piece : Interval × V)
        (last : IsLastBelow pieces (end + 1) piece) where
      -- The last of them is one of those below.
      among-below : Contains (pieces_below rank pieces) piece
      among-below =
          let starts = last.starts in
          Contains-starting (λ start. nat_lt start rank) pieces piece last.among
          (grind (arith, nat_tests, starts, next))

      pub last-in_type : piece.0.last < n
      last-in_type =
          (contained-maximal n 0 (pieces_below rank pieces) piece canonical among-below).in_type

      -- The last of them ends below.
      pub short-last : piece.0.last < rank
          → pieces ≡ before rank (pieces_below rank pieces) ++ pieces_from rank pieces
      short-last ends = short-enough (λ other found.
          let is = starting-contains (λ start. nat_lt start rank) pieces other found in
          elim (cases_lt other.0.last rank) [
            | inl less ↦ less
            | inr most ↦
                let below : other.0.first < rank = grind (arith, nat_tests, is.1) in
                absurd (last-ends n (pieces_below rank pieces) rank piece other canonical (record {
                  among = among-below;
                  starts = let starts = last.starts in omega (arith, starts, next);
                  last = λ another also under.
                      let it = starting-contains (λ start. nat_lt start rank) pieces another also in
                      last.last another it.0 (grind (arith, nat_tests, it.1, next));
                }) ends found (omega (arith, below)) most)
          ])

      -- It extends over the rank, so it is shortened.
      pub shortened : rank ≤ piece.0.last
          → with_end_at piece.0.first end pieces
          ≡ before rank (pieces_below rank pieces) ++ pieces_from rank pieces
      shortened over =
          let starts = last.starts in
          let same : end ≡ rank - 1 = omega (arith, next) in
          ap (with_end_at piece.0.first end) (split-starts 0 rank pieces ascending)
          ∙ map-append (with_end piece.0.first end) (pieces_below rank pieces) (pieces_from rank pieces)
          ∙ (λ i. (ap (λ new. with_end_at piece.0.first new (pieces_below rank pieces)) same
          ∙ before-shortened n 0 rank (pieces_below rank pieces) piece canonical
          (λ other found.
          let is = starting-contains (λ start. nat_lt start rank) pieces other found in
          grind (arith, nat_tests, is.1)) among-below over) i
          ++ with_end-past piece.0.first end rank (pieces_from rank pieces)
          (omega (arith, starts, next)) (from-ascending 0 rank pieces ascending) i)
