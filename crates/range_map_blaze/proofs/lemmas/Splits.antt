-- A map split at a rank, and its first and last keys.
use Rattle.std.proofs.Common.{◌≡◌, ℕ, true, false, ◌+◌, ◌<◌, ◌≤◌, nat_le, nat_lt, cond, List, [], ◌∷◌, ◌++◌, append-nil, Option, Some, None, refl, sym, ap, ◌∙◌, inl, inr, arith, subst}
use Rattle.std.specs.List.{Contains}
use Rattle.std.specs.Option.{is_some}
use Rattle.std.proofs.lemmas.Bool.{cases_lt}
use Rattle.std.proofs.lemmas.Bool.Decides.{nat_tests}
use Rattle.std.proofs.lemmas.List.Elements.{Contains-append_right}
use Rattle.rsb_integer.specs.Runs.{Interval, covers}
use Rattle.rsb_integer.proofs.lemmas.List.{not_both, Contains-cases, Contains-head}
use Rattle.rsb_integer.proofs.lemmas.Members.{covers-bounds, covers-inside}
use Rattle.rsb_storage.specs.Set.{IsGreatest, IsLeast}
use Rattle.rsb_storage.specs.Split.{from_on}
use Rattle.rsb_storage.specs.Starts.{EndsWith, StartsWith}
use Rattle.range_map_blaze.specs.Map.{keys, value_at, IsMapFrom, IsMapIn, IsWithin, IsWithout}
use Rattle.range_map_blaze.specs.Parts.{after, before}
use Rattle.range_map_blaze.specs.Storage.{pieces_below, pieces_from}
use Rattle.range_map_blaze.proofs.lemmas.Contained.{contained-from, contained-maximal, found-piece}
use Rattle.range_map_blaze.proofs.lemmas.Cuts.{before-below, below-map, starting-none}
use Rattle.range_map_blaze.proofs.lemmas.Parted.{after-map, after-value, before-map, before-value, is-less, is-not-less, map-wider}
use Rattle.range_map_blaze.proofs.lemmas.Shortened.{below-zero}
use Rattle.range_map_blaze.proofs.lemmas.Starts.{starting-all, starting-starting}
use Rattle.range_map_blaze.proofs.lemmas.Values.{map-first, map-lower, value-below, value-here}

module _ {V : Type 0} (n : ℕ) (pieces : List (Interval × V)) (canonical : IsMapIn n pieces) where
  -- ---- the first and the last key

  -- A rank with a value is a key, and no other is.
  pub key-value : (rank : ℕ) (value : V) → value_at pieces rank ≡ Some value
      → keys pieces rank ≡ true
  key-value rank value at = ap is_some at

  key-piece : (rank : ℕ) → keys pieces rank ≡ true
      → (piece : Interval × V) × Contains pieces piece × (covers piece.0 rank ≡ true)
  key-piece rank has = by (value_at pieces rank) refl
    where
      by : (found : Option V) → value_at pieces rank ≡ found
          → (piece : Interval × V) × Contains pieces piece × (covers piece.0 rank ≡ true)
      by None is = absurd (not_both (keys pieces rank) has (ap is_some is))
      by (Some value) is =
          let found = found-piece pieces rank value is in (found.0, found.1, found.2)

  -- The last piece ends last.
  pub ends-last : (low : ℕ) (front : List (Interval × V)) (last other : Interval × V)
      → IsMapFrom n low (front ++ last ∷ []) → Contains (front ++ last ∷ []) other
      → other.0.last ≤ last.0.last
  ends-last low [] last other canon found = elim (Contains-cases last [] other found) [
    | inl same ↦
        let is = ap (λ (each : Interval × V). each.0.last) same in omega (arith, is)
    | inr none ↦ let nothing = none.1 in absurd (omega arith)
  ]
  ends-last low (first ∷ front) last other canon found =
      elim (Contains-cases first (front ++ last ∷ []) other found) [
        | inl same ↦
            let is = ap (λ (each : Interval × V). each.0.last) same in
            let among = Contains-append_right front (last ∷ []) last (Contains-head last []) in
            let from = contained-from n (first.0.last + 1) (front ++ last ∷ []) last canon.4 among in
            let order = (contained-maximal n (first.0.last + 1) (front ++ last ∷ []) last canon.4
            among).in_order in
            omega (arith, is, from, order)
        | inr later ↦ ends-last (first.0.last + 1) front last other canon.4 later
      ]

  module _ (piece : Interval × V) (last : EndsWith pieces piece) where
    last-among : Contains pieces piece
    last-among =
        subst (λ (items : List (Interval × V)). Contains items piece) (sym last.parts)
        (Contains-append_right last.front (piece ∷ []) piece (Contains-head piece []))

    pub last-at : value_at pieces piece.0.last ≡ Some piece.1
    last-at =
        let maximal = contained-maximal n 0 pieces piece canonical last-among in
        maximal.whole piece.0.last (covers-inside piece.0 piece.0.last maximal.in_order (omega arith))

    pub greatest-key : IsGreatest n (keys pieces) piece.0.last
    greatest-key =
        let maximal = contained-maximal n 0 pieces piece canonical last-among in
        record {
          in_type = maximal.in_type;
          here = key-value piece.0.last piece.1 last-at;
          greatest = λ other has.
              let found = key-piece other has in
              let high = (covers-bounds found.0.0 other found.2).1 in
              let ends = ends-last 0 last.front piece found.0
              (subst (IsMapFrom n 0) last.parts canonical)
              (subst (λ (items : List (Interval × V)). Contains items found.0) last.parts found.1) in
              omega (arith, high, ends);
        }

  module _ (piece : Interval × V) (first : StartsWith pieces piece) where
    first-canonical : IsMapFrom n 0 (piece ∷ first.rest)
    first-canonical = subst (IsMapFrom n 0) first.parts canonical

    pub first-at : value_at pieces piece.0.first ≡ Some piece.1
    first-at =
        ap (λ items. value_at items piece.0.first) first.parts
        ∙ value-here piece first.rest piece.0.first (omega arith) first-canonical.1

    pub least-key : IsLeast n (keys pieces) piece.0.first
    least-key =
        let ordered = first-canonical.1 in
        let ends = first-canonical.2 in
        record {
          in_type = omega (arith, ordered, ends);
          here = key-value piece.0.first piece.1 first-at;
          least = λ other has. elim (cases_lt other piece.0.first) [
            | inl less ↦
                absurd (not_both (keys pieces other) has
                (ap is_some (ap (λ items. value_at items other) first.parts
                ∙ value-below n piece.0.first (piece ∷ first.rest) other
                (map-first n 0 piece first.rest first-canonical) less)))
            | inr most ↦ most
          ];
        }

  -- ---- the two parts

  module _ (end rank : ℕ) (next : end + 1 ≡ rank) (value : rank < n) where
    pub low-map : IsMapIn n (before rank pieces)
    low-map =
        map-wider rank n 0 (before rank pieces) (omega (arith, value)) (before-map n 0 rank pieces canonical)

    pub high-map : IsMapIn n (after end pieces)
    high-map =
        map-lower n (end + 1) 0 (after end pieces) (omega arith) (after-map n 0 end pieces canonical)

    pub low-value : IsWithout (value_at pieces) (from_on rank) (value_at (before rank pieces))
    low-value other =
        before-value n 0 rank pieces other canonical
        ∙ elim (cases_lt other rank) [
          | inl less ↦
              let is : nat_le rank other ≡ false = grind (arith, nat_tests, less) in
              rw (is, is-less other rank less) refl
          | inr most ↦
              let is : nat_le rank other ≡ true = grind (arith, nat_tests, most) in
              rw (is, is-not-less other rank most) refl
        ]

    pub high-value : IsWithin (value_at pieces) (from_on rank) (value_at (after end pieces))
    high-value other =
        after-value n 0 end pieces other canonical
        ∙ ap (λ test. cond test (value_at pieces other) None)
        (grind (arith, nat_tests, next))

  -- If the rank is the least, one part is empty, and the other is the map.
  module _ (rank : ℕ) (zero : rank ≡ 0) where
    pub zero-low : pieces_below rank pieces ≡ []
    zero-low = ap (λ low. pieces_below low pieces) zero ∙ below-zero pieces

    pub zero-high : pieces_from rank pieces ≡ pieces
    zero-high =
        starting-all (λ start. nat_le rank start) pieces (λ piece found. grind (arith, nat_tests, zero))

    pub zero-without : IsWithout (value_at pieces) (from_on rank) (value_at (pieces_below rank pieces))
    zero-without other =
        let is : nat_le rank other ≡ true = grind (arith, nat_tests, zero) in
        rw (zero-low, is) refl

    pub zero-within : IsWithin (value_at pieces) (from_on rank) (value_at (pieces_from rank pieces))
    zero-within other =
        let is : nat_le rank other ≡ true = grind (arith, nat_tests, zero) in
        rw (zero-high, is) refl

module _ {V : Type 0} (n : ℕ) (pieces opened : List (Interval × V)) (canonical : IsMapIn n pieces)
    (rank : ℕ) (below : pieces_below rank opened ≡ pieces_below rank pieces) where
  twice : pieces_below rank (pieces_below rank opened) ≡ pieces_below rank pieces
  twice =
      starting-starting (λ start. nat_lt start rank) (λ start. nat_lt start rank)
      (λ start. nat_lt start rank) opened (λ start. grind (arith, nat_lt start rank))
      ∙ below

  -- The pieces that start below a rank, once the others are gone.
  pub split-below : IsMapIn n (pieces_below rank (pieces_below rank opened))
  split-below = subst (IsMapIn n) (sym twice) (below-map n 0 rank pieces canonical)

  pub split-low : before rank (pieces_below rank (pieces_below rank opened))
      ++ pieces_from rank (pieces_below rank opened) ≡ before rank pieces
  split-low =
      (λ i. (ap (before rank) twice ∙ before-below n 0 rank pieces canonical) i
      ++ (starting-starting (λ start. nat_le rank start) (λ start. nat_lt start rank) (λ start. false)
      opened (λ start. grind (arith, nat_tests)) ∙ starting-none opened) i)
      ∙ append-nil (before rank pieces)
