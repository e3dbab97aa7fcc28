-- The pieces of a canonical list are the maximal pieces of its values.
use Rattle.std.proofs.Common.{◌≡◌, ℕ, true, ◌+◌, ◌-◌, ◌<◌, ◌≤◌, List, [], ◌∷◌, Option, Some, sym, ap, ◌∙◌, inl, inr, arith, subst}
use Rattle.std.proofs.lemmas.Bool.{cases_lt}
use Rattle.std.proofs.lemmas.List.Elements.{All-weaker, All-contains_itself}
use Rattle.std.proofs.lemmas.Option.{none-some, same_Some}
use Rattle.std.specs.List.{AllPairs, Contains}
use Rattle.rsb_integer.specs.Runs.{Interval, covers}
use Rattle.rsb_integer.proofs.lemmas.List.{AllPairs-cons, Contains-cases, Contains-head, Contains-tail}
use Rattle.rsb_integer.proofs.lemmas.Members.{covers-bounds, covers-cases, covers-inside, same_interval}
use Rattle.range_map_blaze.specs.Map.{value_at, ArePieces, IsMapFrom, IsMapIn, IsMaximalPiece}
use Rattle.range_map_blaze.proofs.lemmas.Values.{map-first, value-below, value-differs, value-here, value-later}

module _ {V : Type 0} where
  -- Each piece of a canonical list starts at its start or later.
  pub contained-from : (n low : ℕ) (pieces : List (Interval × V)) (piece : Interval × V)
      → IsMapFrom n low pieces → Contains pieces piece → low ≤ piece.0.first
  contained-from n low [] piece canonical found = let none = found.1 in absurd (omega arith)
  contained-from n low (first ∷ pieces) piece canonical found =
      let starts = canonical.0 in
      let ordered = canonical.1 in
      elim (Contains-cases first pieces piece found) [
        | inl same ↦ subst (λ (each : Interval × V). low ≤ each.0.first) same starts
        | inr later ↦
            let from = contained-from n (first.0.last + 1) pieces piece canonical.4 later in
            omega (arith, starts, ordered, from)
      ]

  -- A later piece that starts right past the first one has another value.
  contained-differs : (n low : ℕ) (first : Interval × V) (pieces : List (Interval × V))
      (piece : Interval × V) → IsMapFrom n low (first ∷ pieces) → Contains pieces piece
      → piece.0.first ≡ first.0.last + 1 → first.1 ≡ piece.1 → ⊥
  contained-differs n low first [] piece canonical found touch same =
      let none = found.1 in absurd (omega arith)
  contained-differs n low first (next ∷ pieces) piece canonical found touch same =
      let ordered = canonical.4.1 in
      let starts = canonical.4.0 in
      elim (Contains-cases next pieces piece found) [
        | inl is ↦
            canonical.3 (subst (λ (each : Interval × V). first.0.last + 1 ≡ each.0.first) (sym is) (sym touch))
            (same ∙ ap (λ (each : Interval × V). each.1) (sym is))
        | inr later ↦
            let from = contained-from n (next.0.last + 1) pieces piece canonical.4.4 later in
            absurd (omega (arith, ordered, starts, from, touch))
      ]

  -- The first piece of a canonical list is maximal.
  head-maximal : (n low : ℕ) (piece : Interval × V) (pieces : List (Interval × V))
      → IsMapFrom n low (piece ∷ pieces) → IsMaximalPiece n (value_at (piece ∷ pieces)) piece
  head-maximal n low piece pieces canonical = record {
    in_order = canonical.1;
    in_type = canonical.2;
    whole = λ rank within.
        let bounds = covers-bounds piece.0 rank within in
        value-here piece pieces rank bounds.0 bounds.1;
    begins_here = λ above same.
        none-some piece.1
        (sym (value-below n piece.0.first (piece ∷ pieces) (piece.0.first - 1)
        (map-first n low piece pieces canonical) (omega (arith, above))) ∙ same);
    ends_here = λ below same. value-differs n low piece pieces canonical same;
  }

  -- So is each later one.
  tail-maximal : (n low : ℕ) (first : Interval × V) (pieces : List (Interval × V))
      (piece : Interval × V) → IsMapFrom n low (first ∷ pieces) → Contains pieces piece
      → IsMaximalPiece n (value_at pieces) piece
      → IsMaximalPiece n (value_at (first ∷ pieces)) piece
  tail-maximal n low first pieces piece canonical found maximal =
      let from = contained-from n (first.0.last + 1) pieces piece canonical.4 found in
      let ordered = canonical.1 in
      let order = maximal.in_order in
      record {
        in_order = maximal.in_order;
        in_type = maximal.in_type;
        whole = λ rank within.
            let bounds = covers-bounds piece.0 rank within in
            let low = bounds.0 in
            value-later first pieces rank (inr (omega (arith, from, low))) ∙ maximal.whole rank within;
        begins_here = λ above same. elim (cases_lt first.0.last (piece.0.first - 1)) [
          | inl past ↦
              maximal.begins_here above (sym (value-later first pieces (piece.0.first - 1) (inr past)) ∙ same)
          | inr before ↦
              let touch : piece.0.first ≡ first.0.last + 1 = omega (arith, before, from) in
              contained-differs n low first pieces piece canonical found touch
              (same_Some first.1 piece.1
              (sym (value-here first pieces (piece.0.first - 1) (omega (arith, touch, ordered)) before)
              ∙ same))
        ];
        ends_here = λ below same.
            maximal.ends_here below
            (sym (value-later first pieces (piece.0.last + 1) (inr (omega (arith, from, order)))) ∙ same);
      }

  pub contained-maximal : (n low : ℕ) (pieces : List (Interval × V)) (piece : Interval × V)
      → IsMapFrom n low pieces → Contains pieces piece → IsMaximalPiece n (value_at pieces) piece
  contained-maximal n low [] piece canonical found = let none = found.1 in absurd (omega arith)
  contained-maximal n low (first ∷ pieces) piece canonical found =
      elim (Contains-cases first pieces piece found) [
        | inl same ↦
            subst (IsMaximalPiece n (value_at (first ∷ pieces))) same
            (head-maximal n low first pieces canonical)
        | inr later ↦
            tail-maximal n low first pieces piece canonical later
            (contained-maximal n (first.0.last + 1) pieces piece canonical.4 later)
      ]

  -- ---- there is no other maximal piece

  -- A rank with a value lies in a piece with that value.
  pub found-piece : (pieces : List (Interval × V)) (rank : ℕ) (value : V)
      → value_at pieces rank ≡ Some value
      → (piece : Interval × V) × Contains pieces piece × (covers piece.0 rank ≡ true)
      × (piece.1 ≡ value)
  found-piece [] rank value found = absurd (none-some value found)
  found-piece (piece ∷ pieces) rank value found = elim (covers-cases piece.0 rank) [
    | inl inside ↦ (
      piece,
      Contains-head piece pieces,
      inside.2,
      same_Some piece.1 value (sym (value-here piece pieces rank inside.0 inside.1) ∙ found),
    )
    | inr outside ↦
        let rest = found-piece pieces rank value (sym (value-later piece pieces rank outside.0) ∙ found) in
        (rest.0, Contains-tail piece pieces rest.0 rest.1, rest.2, rest.3)
  ]

  module _ (n : ℕ) (value : ℕ → Option V) (rank : ℕ) (piece other : Interval × V)
      (left : IsMaximalPiece n value piece) (right : IsMaximalPiece n value other)
      (in_left : covers piece.0 rank ≡ true) (in_right : covers other.0 rank ≡ true) where
    -- Two maximal pieces that share a rank have one value.
    pub one-value : piece.1 ≡ other.1
    one-value = same_Some piece.1 other.1 (sym (left.whole rank in_left) ∙ right.whole rank in_right)

    -- The second starts no later, and ends no earlier.
    pub starts-first : other.0.first ≤ piece.0.first
    starts-first =
        let inside = covers-bounds piece.0 rank in_left in
        let within = covers-bounds other.0 rank in_right in
        let low = within.0 in
        let high = within.1 in
        let from = inside.0 in
        elim (cases_lt piece.0.first other.0.first) [
          | inl less ↦
              absurd (right.begins_here (omega (arith, less))
              (left.whole (other.0.first - 1)
              (covers-inside piece.0 (other.0.first - 1) (omega (arith, less))
              (omega (arith, low, inside.1)))
              ∙ ap Some one-value))
          | inr most ↦ most
        ]

    pub ends-last : piece.0.last ≤ other.0.last
    ends-last =
        let inside = covers-bounds piece.0 rank in_left in
        let within = covers-bounds other.0 rank in_right in
        let low = within.0 in
        let high = within.1 in
        let type = left.in_type in
        elim (cases_lt other.0.last piece.0.last) [
          | inl less ↦
              absurd (right.ends_here (omega (arith, less, type))
              (left.whole (other.0.last + 1)
              (covers-inside piece.0 (other.0.last + 1) (omega (arith, inside.0, high))
              (omega (arith, less)))
              ∙ ap Some one-value))
          | inr most ↦ most
        ]

  -- Two maximal pieces that share a rank are the same.
  pub maximal-one : (n : ℕ) (value : ℕ → Option V) (rank : ℕ) (piece other : Interval × V)
      → IsMaximalPiece n value piece → IsMaximalPiece n value other
      → covers piece.0 rank ≡ true → covers other.0 rank ≡ true → piece ≡ other
  maximal-one n value rank piece other left right in_left in_right =
      let run = same_interval piece.0 other.0
      (omega (
        arith,
        starts-first n value rank piece other left right in_left in_right,
        starts-first n value rank other piece right left in_right in_left,
      ))
      (omega (
        arith,
        ends-last n value rank piece other left right in_left in_right,
        ends-last n value rank other piece right left in_right in_left,
      )) in
      let same = one-value n value rank piece other left right in_left in_right in
      λ i. (run i, same i)

  -- The pieces ascend.
  pub map-ascends : (n low : ℕ) (pieces : List (Interval × V)) → IsMapFrom n low pieces
      → AllPairs (λ (before after : Interval × V). before.0.first < after.0.first) pieces
  map-ascends n low [] canonical = λ m n d i j. absurd (omega arith)
  map-ascends n low (piece ∷ pieces) canonical =
      let ordered = canonical.1 in
      AllPairs-cons (λ (before after : Interval × V). before.0.first < after.0.first) piece pieces
      (All-weaker (Contains pieces) (λ (other : Interval × V). piece.0.first < other.0.first)
      (λ other found.
      let from = contained-from n (piece.0.last + 1) pieces other canonical.4 found in
      omega (arith, ordered, from)) pieces (All-contains_itself pieces))
      (map-ascends n (piece.0.last + 1) pieces canonical.4)

  -- So a canonical list has exactly the maximal pieces of its values.
  pub map-pieces : (n : ℕ) (pieces : List (Interval × V)) → IsMapIn n pieces
      → ArePieces n (value_at pieces) pieces
  map-pieces n pieces canonical = record {
    ascending = map-ascends n 0 pieces canonical;
    maximal = All-weaker (Contains pieces) (IsMaximalPiece n (value_at pieces))
        (λ piece found. contained-maximal n 0 pieces piece canonical found) pieces
        (All-contains_itself pieces);
    complete = λ piece maximal.
        let order = maximal.in_order in
        let inside = covers-inside piece.0 piece.0.first (omega arith) maximal.in_order in
        let found = found-piece pieces piece.0.first piece.1 (maximal.whole piece.0.first inside) in
        subst (Contains pieces)
        (maximal-one n (value_at pieces) piece.0.first found.0 piece
        (contained-maximal n 0 pieces found.0 canonical found.1) maximal found.2 inside) found.1;
  }
