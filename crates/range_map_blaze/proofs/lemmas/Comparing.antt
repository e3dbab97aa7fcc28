-- The loop that compares two maps: what is left of both has the order of the whole maps.
use Rattle.std.proofs.Common.{◌≡◌, ◌⊎◌, ℕ, true, false, min, ◌+◌, ◌<◌, ◌≤◌, List, [], ◌∷◌, ◌++◌, Option, Some, None, sym, ap, ◌∙◌, inl, inr, arith, length, subst}
use Rattle.std.specs.Prelude.{MatchOption}
use Rattle.std.specs.Ordering.{is_ne}
use Rattle.std.specs.declared.cmp.Ordering.{Ordering}
use Rattle.std.specs.declared.cmp.Ordering.TheVariants.{Less, Equal, Greater}
use Rattle.std.proofs.lemmas.Bool.{cases_lt}
use Rattle.std.proofs.lemmas.Bool.Decides.{nat_tests}
use Rattle.rsb_integer.specs.Runs.{Interval}
use Rattle.rsb_storage.specs.Storage.{run_of}
use Rattle.range_map_blaze.specs.Elements.{held}
use Rattle.range_map_blaze.specs.Map.{IsMapIn}
use Rattle.range_map_blaze.specs.Order.{map_cmp, pair_cmp}
use Rattle.range_map_blaze.specs.Parts.{after}
use Rattle.range_map_blaze.specs.declared.pieces.Piece.{Piece}
use Rattle.range_map_blaze.proofs.lemmas.Ordered.{after-canonical, both-fewer, heads-decide, heads-passed, heads-tied, none-equal, none-less, some-greater}

module _ {T V : Type 0} (rank : T → ℕ) (seen : V → V) where
  -- The piece as an interval with what is seen of its value.
  abbrev pub seen_piece : Piece T V → Interval × V
  seen_piece piece = (run_of rank piece.run, seen piece.value.now)

  -- Whether a list starts with the piece, if there is one, and goes on with these pieces. Without a
  -- piece, both are empty.
  abbrev pub StartsAt : List (Interval × V) → Option (Piece T V) → List (Interval × V) → Type 0
  StartsAt whole piece rest = MatchOption piece ((whole ≡ []) × (rest ≡ []))
      (λ each. whole ≡ seen_piece each ∷ rest)

  -- Whether what is left of two maps has their order.
  pub record IsComparing (n : ℕ) (cmp : V → V → Ordering) (left right : List (Interval × V))
      (piece : Option (Piece T V)) (rest : List (Interval × V)) (other : Option (Piece T V))
      (others : List (Interval × V)) : Type 0 where
    pub whole : List (Interval × V)
    pub counterpart : List (Interval × V)
    pub starts : StartsAt whole piece rest
    pub also : StartsAt counterpart other others
    pub one : IsMapIn n whole
    pub two : IsMapIn n counterpart
    pub same : map_cmp n cmp whole counterpart ≡ map_cmp n cmp left right

  -- The number of pieces left.
  abbrev pub left_length : Option (Piece T V) → List (Interval × V) → ℕ
  left_length piece rest = length (held rank seen piece ++ rest)

  pub starts-length : (whole : List (Interval × V)) (piece : Option (Piece T V))
      (rest : List (Interval × V)) → StartsAt whole piece rest → left_length piece rest ≡ length whole
  starts-length whole None rest starts = ap length (starts.1 ∙ sym starts.0)
  starts-length whole (Some piece) rest starts = ap length (sym starts)

  module _ {n : ℕ} {cmp : V → V → Ordering} {left right : List (Interval × V)} where
    -- A map with a piece left is greater than one with none.
    pub greater-left : (piece : Piece T V) (rest others : List (Interval × V))
        → IsComparing n cmp left right (Some piece) rest None others → Greater ≡ map_cmp n cmp left right
    greater-left piece rest others comparing =
        some-greater cmp n (seen_piece piece) rest (subst (IsMapIn n) comparing.starts comparing.one)
        ∙ (λ i. map_cmp n cmp (sym comparing.starts i) (sym comparing.also.0 i))
        ∙ comparing.same

    pub less-left : (rest : List (Interval × V)) (other : Piece T V) (others : List (Interval × V))
        → IsComparing n cmp left right None rest (Some other) others → Less ≡ map_cmp n cmp left right
    less-left rest other others comparing =
        none-less cmp n (seen_piece other) others (subst (IsMapIn n) comparing.also comparing.two)
        ∙ (λ i. map_cmp n cmp (sym comparing.starts.0 i) (sym comparing.also i))
        ∙ comparing.same

    pub equal-left : (rest others : List (Interval × V))
        → IsComparing n cmp left right None rest None others → Equal ≡ map_cmp n cmp left right
    equal-left rest others comparing =
        none-equal cmp n ∙ (λ i. map_cmp n cmp (sym comparing.starts.0 i) (sym comparing.also.0 i))
        ∙ comparing.same

    module _ {piece other : Piece T V} {rest others : List (Interval × V)}
        (comparing : IsComparing n cmp left right (Some piece) rest (Some other) others) where
      pub one-left : IsMapIn n (seen_piece piece ∷ rest)
      one-left = subst (IsMapIn n) comparing.starts comparing.one

      pub two-left : IsMapIn n (seen_piece other ∷ others)
      two-left = subst (IsMapIn n) comparing.also comparing.two

      same-left : map_cmp n cmp (seen_piece piece ∷ rest) (seen_piece other ∷ others)
          ≡ map_cmp n cmp left right
      same-left =
          (λ i. map_cmp n cmp (sym comparing.starts i) (sym comparing.also i)) ∙ comparing.same

      module _ {heads : Ordering} (is : heads ≡ pair_cmp cmp (rank piece.run.start, seen piece.value.now)
          (rank other.run.start, seen other.value.now)) where
        -- Heads that differ decide.
        pub heads-left : true ≡ is_ne heads → heads ≡ map_cmp n cmp left right
        heads-left differs =
            heads-decide cmp n (seen_piece piece) (seen_piece other) rest others heads one-left two-left is differs
            ∙ same-left

        module _ (level : false ≡ is_ne heads) (end : ℕ) where
          tied : (rank piece.run.start ≡ rank other.run.start)
              × (cmp (seen piece.value.now) (seen other.value.now) ≡ Equal)
          tied = heads-tied cmp n (rank piece.run.start) (rank other.run.start) (seen piece.value.now)
              (seen other.value.now) (level ∙ ap is_ne is)

          -- Otherwise, the parts past the end of the shorter first piece have the order.
          pub past-left : (next : Option (Piece T V)) (later : List (Interval × V))
              (found : Option (Piece T V)) (beyond : List (Interval × V))
              → end ≤ rank piece.run.end → end ≤ rank other.run.end
              → StartsAt (after end (seen_piece piece ∷ rest)) next later
              → StartsAt (after end (seen_piece other ∷ others)) found beyond
              → IsComparing n cmp left right next later found beyond
          past-left next later found beyond within inside starts also = record {
            whole = after end (seen_piece piece ∷ rest);
            counterpart = after end (seen_piece other ∷ others);
            starts = starts;
            also = also;
            one = after-canonical cmp n end (seen_piece piece ∷ rest) one-left;
            two = after-canonical cmp n end (seen_piece other ∷ others) two-left;
            same = heads-passed cmp n (seen_piece piece) (seen_piece other) rest others end one-left two-left
                tied.0 tied.1 within inside ∙ same-left;
          }

          -- Fewer pieces are left.
          pub fewer-left : (next : Option (Piece T V)) (later : List (Interval × V))
              (found : Option (Piece T V)) (beyond : List (Interval × V))
              → end ≡ min (rank piece.run.end) (rank other.run.end)
              → StartsAt (after end (seen_piece piece ∷ rest)) next later
              → StartsAt (after end (seen_piece other ∷ others)) found beyond
              → left_length next later + left_length found beyond
              < length (seen_piece piece ∷ rest) + length (seen_piece other ∷ others)
          fewer-left next later found beyond least starts also =
              let shorter : (rank piece.run.end ≤ end) ⊎ (rank other.run.end ≤ end) =
              elim (cases_lt (rank piece.run.end) (rank other.run.end)) [
                | inl less ↦ inl (grind (arith, nat_tests, least, less))
                | inr most ↦ inr (grind (arith, nat_tests, least, most))
              ] in
              let fewer = both-fewer cmp n end (seen_piece piece) (seen_piece other) rest others one-left
              two-left shorter in
              let one = starts-length (after end (seen_piece piece ∷ rest)) next later starts in
              let two = starts-length (after end (seen_piece other ∷ others)) found beyond also in
              omega (arith, fewer, one, two)
