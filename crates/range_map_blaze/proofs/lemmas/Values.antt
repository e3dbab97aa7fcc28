-- What a list of pieces has at each rank. No two canonical lists have the same values.
use Rattle.std.proofs.Common.{◌≡◌, ◌⊎◌, ℕ, ◌+◌, ◌<◌, ◌≤◌, List, [], ◌∷◌, Some, None, refl, sym, ap, ◌∙◌, inl, inr, arith}
use Rattle.std.proofs.lemmas.Bool.{cases_lt}
use Rattle.std.proofs.lemmas.Option.{none-some, same_Some}
use Rattle.rsb_integer.specs.Runs.{Interval}
use Rattle.rsb_integer.proofs.lemmas.Members.{covers-inside, covers-outside, same_interval}
use Rattle.range_map_blaze.specs.Map.{value_at, IsMapFrom, IsMapIn}

module _ {V : Type 0} where
  -- ---- the value at a rank

  -- A rank inside the first piece has its value.
  pub value-here : (piece : Interval × V) (pieces : List (Interval × V)) (rank : ℕ)
      → piece.0.first ≤ rank → rank ≤ piece.0.last → value_at (piece ∷ pieces) rank ≡ Some piece.1
  value-here piece pieces rank low high = rw (covers-inside piece.0 rank low high) refl

  -- A rank outside the first piece has what the others have.
  pub value-later : (piece : Interval × V) (pieces : List (Interval × V)) (rank : ℕ)
      → (rank < piece.0.first) ⊎ (piece.0.last < rank)
      → value_at (piece ∷ pieces) rank ≡ value_at pieces rank
  value-later piece pieces rank outside = rw (covers-outside piece.0 rank outside) refl

  -- A canonical list may start at any lower rank.
  pub map-lower : (n low lower : ℕ) (pieces : List (Interval × V)) → lower ≤ low
      → IsMapFrom n low pieces → IsMapFrom n lower pieces
  map-lower n low lower [] less canonical = tt
  map-lower n low lower (piece ∷ pieces) less canonical =
      let starts = canonical.0 in
      (omega (arith, starts, less), canonical.1, canonical.2, canonical.3, canonical.4)

  -- It may start where its first piece does.
  pub map-first : (n low : ℕ) (piece : Interval × V) (pieces : List (Interval × V))
      → IsMapFrom n low (piece ∷ pieces) → IsMapFrom n piece.0.first (piece ∷ pieces)
  map-first n low piece pieces canonical =
      (omega arith, canonical.1, canonical.2, canonical.3, canonical.4)

  -- Below its start, a canonical list has no value.
  pub value-below : (n low : ℕ) (pieces : List (Interval × V)) (rank : ℕ)
      → IsMapFrom n low pieces → rank < low → value_at pieces rank ≡ None
  value-below n low [] rank canonical below = refl
  value-below n low (piece ∷ pieces) rank canonical below =
      let starts = canonical.0 in
      let ordered = canonical.1 in
      value-later piece pieces rank (inl (omega (arith, starts, below)))
      ∙ value-below n (piece.0.last + 1) pieces rank canonical.4
      (omega (arith, starts, ordered, below))

  -- Past the end of the type, it has none either.
  pub value-past : (n low : ℕ) (pieces : List (Interval × V)) (rank : ℕ)
      → IsMapFrom n low pieces → n ≤ rank → value_at pieces rank ≡ None
  value-past n low [] rank canonical past = refl
  value-past n low (piece ∷ pieces) rank canonical past =
      let ends = canonical.2 in
      value-later piece pieces rank (inr (omega (arith, ends, past)))
      ∙ value-past n (piece.0.last + 1) pieces rank canonical.4 past

  -- Right past the first piece of a canonical list, there is not the same value.
  pub value-differs : (n low : ℕ) (piece : Interval × V) (pieces : List (Interval × V))
      → IsMapFrom n low (piece ∷ pieces)
      → value_at (piece ∷ pieces) (piece.0.last + 1) ≡ Some piece.1 → ⊥
  value-differs n low piece [] canonical same =
      none-some piece.1 (sym (value-later piece [] (piece.0.last + 1) (inr (omega arith))) ∙ same)
  value-differs n low piece (next ∷ pieces) canonical same =
      let starts = canonical.4.0 in
      let ordered = canonical.4.1 in
      let found = sym (value-later piece (next ∷ pieces) (piece.0.last + 1) (inr (omega arith))) ∙ same in
      elim (cases_lt (piece.0.last + 1) next.0.first) [
        | inl apart ↦
            none-some piece.1
            (sym (value-below n next.0.first (next ∷ pieces) (piece.0.last + 1)
            (map-first n (piece.0.last + 1) next pieces canonical.4) apart) ∙ found)
        | inr most ↦
            let touch : piece.0.last + 1 ≡ next.0.first = omega (arith, starts, most) in
            canonical.3 touch
            (same_Some piece.1 next.1 (sym found
            ∙ value-here next pieces (piece.0.last + 1) most (omega (arith, touch, ordered))))
      ]

  -- ---- two canonical lists with the same values are one list

  -- If the values are the same, the first piece of the other list starts no later.
  unique-first : (n low lower : ℕ) (piece other : Interval × V) (pieces others : List (Interval × V))
      → IsMapFrom n low (piece ∷ pieces) → IsMapFrom n lower (other ∷ others)
      → ((rank : ℕ) → value_at (piece ∷ pieces) rank ≡ value_at (other ∷ others) rank)
      → other.0.first ≤ piece.0.first
  unique-first n low lower piece other pieces others left right same =
      elim (cases_lt piece.0.first other.0.first) [
        | inl less ↦
            absurd (none-some piece.1
            (sym (value-below n other.0.first (other ∷ others) piece.0.first (map-first n lower other others right) less)
            ∙ sym (same piece.0.first)
            ∙ value-here piece pieces piece.0.first (omega arith) left.1))
        | inr most ↦ most
      ]

  -- If the first pieces start at the same rank with the same value, that of the other list ends no
  -- later.
  unique-last : (n low lower : ℕ) (piece other : Interval × V) (pieces others : List (Interval × V))
      → IsMapFrom n low (piece ∷ pieces) → IsMapFrom n lower (other ∷ others)
      → ((rank : ℕ) → value_at (piece ∷ pieces) rank ≡ value_at (other ∷ others) rank)
      → piece.0.first ≡ other.0.first → piece.1 ≡ other.1 → other.0.last ≤ piece.0.last
  unique-last n low lower piece other pieces others left right same first value =
      let ordered = left.1 in
      elim (cases_lt piece.0.last other.0.last) [
        | inl less ↦
            absurd (value-differs n low piece pieces left
            (same (piece.0.last + 1)
            ∙ value-here other others (piece.0.last + 1) (omega (arith, ordered, first)) (omega (arith, less))
            ∙ ap Some (sym value)))
        | inr most ↦ most
      ]

  -- Canonical lists with the same value at every rank are the same list, wherever each may start.
  pub same-pieces : (n low lower : ℕ) (pieces others : List (Interval × V))
      → IsMapFrom n low pieces → IsMapFrom n lower others
      → ((rank : ℕ) → value_at pieces rank ≡ value_at others rank) → pieces ≡ others
  same-pieces n low lower [] [] left right same = refl
  same-pieces n low lower [] (other ∷ others) left right same =
      absurd (none-some other.1 (same other.0.first
      ∙ value-here other others other.0.first (omega arith) right.1))
  same-pieces n low lower (piece ∷ pieces) [] left right same =
      absurd (none-some piece.1 (sym (same piece.0.first)
      ∙ value-here piece pieces piece.0.first (omega arith) left.1))
  same-pieces n low lower (piece ∷ pieces) (other ∷ others) left right same =
      let back : (rank : ℕ) → value_at (other ∷ others) rank
      ≡ value_at (piece ∷ pieces) rank = λ rank. sym (same rank) in
      let ordered = left.1 in
      let first : piece.0.first ≡ other.0.first = omega (
        arith,
        unique-first n low lower piece other pieces others left right same,
        unique-first n lower low other piece others pieces right left back,
      ) in
      let order = right.1 in
      let value : piece.1 ≡ other.1 = same_Some piece.1 other.1
      (sym (value-here piece pieces piece.0.first (omega arith) left.1) ∙ same piece.0.first
      ∙ value-here other others piece.0.first (omega (arith, first)) (omega (arith, first, order))) in
      let last : piece.0.last ≡ other.0.last = omega (
        arith,
        unique-last n low lower piece other pieces others left right same first value,
        unique-last n lower low other piece others pieces right left back (sym first) (sym value),
      ) in
      let head = same_interval piece.0 other.0 first last in
      let rest : (rank : ℕ) → value_at pieces rank ≡ value_at others rank = λ rank.
      elim (cases_lt piece.0.last rank) [
        | inl past ↦
            sym (value-later piece pieces rank (inr past)) ∙ same rank
            ∙ value-later other others rank (inr (omega (arith, past, last)))
        | inr before ↦
            value-below n (piece.0.last + 1) pieces rank left.4 (omega (arith, before))
            ∙ sym (value-below n (other.0.last + 1) others rank right.4 (omega (arith, before, last)))
      ] in
      let tails = same-pieces n (piece.0.last + 1) (other.0.last + 1) pieces others left.4 right.4 rest in
      λ i. (head i, value i) ∷ tails i

  -- Lists that agree within the type agree everywhere.
  pub same-in_type : (n : ℕ) (pieces others : List (Interval × V)) → IsMapIn n pieces
      → IsMapIn n others → ((rank : ℕ) → rank < n → value_at pieces rank ≡ value_at others rank)
      → pieces ≡ others
  same-in_type n pieces others left right same =
      same-pieces n 0 0 pieces others left right (λ rank. elim (cases_lt rank n) [
        | inl below ↦ same rank below
        | inr past ↦ value-past n 0 pieces rank left past ∙ sym (value-past n 0 others rank right past)
      ])
