-- A map with one more piece, or without some ranks, is canonical, and has the values that it should.
use Rattle.std.proofs.Common.{◌≡◌, ℕ, false, not, ◌==◌, ◌&&◌, ◌+◌, ◌-◌, ◌<◌, ◌≤◌, nat_le, nat_lt, cond, length, List, [], ◌∷◌, ◌++◌, Option, Some, None, refl, sym, ap, ◌∙◌, inl, inr, arith}
use Rattle.std.proofs.lemmas.Bool.{cases_lt}
use Rattle.std.proofs.lemmas.Bool.Decides.{nat_tests}
use Rattle.std.proofs.lemmas.List.{length-append}
use Rattle.std.proofs.lemmas.Option.{none-some}
use Rattle.rsb_integer.specs.Runs.{Interval, covers, from_to}
use Rattle.rsb_integer.proofs.lemmas.Members.{covers-inside, covers-outside}
use Rattle.rsb_storage.specs.Set.{only}
use Rattle.range_map_blaze.specs.Map.{value_at, IsJoinedEnd, IsJoinedStart, IsMapFrom, IsMapIn, IsPut, IsWithout}
use Rattle.range_map_blaze.specs.Parts.{after, before}
use Rattle.range_map_blaze.specs.Storage.{pieces_below, pieces_from, pieces_past, with_piece, without_inside, without_start}
use Rattle.range_map_blaze.proofs.lemmas.Cuts.{starting-none}
use Rattle.range_map_blaze.proofs.lemmas.Parted.{after-cut, after-later, after-map, after-value, after-whole, append-map, append-value, before-cut, before-map, before-none, before-value, before-whole, differs-at, is-less, is-not-less}
use Rattle.range_map_blaze.proofs.lemmas.Starts.{starting-starting, starting-with_piece, starting-with_piece_not}
use Rattle.range_map_blaze.proofs.lemmas.Values.{map-lower, value-below, value-here}

module _ {V : Type 0} (n : ℕ) (pieces : List (Interval × V)) (canonical : IsMapIn n pieces)
    (first last : ℕ) where
  -- What the parts below `first` and past `last` have at a rank.
  below-at : (rank : ℕ) → rank < first → value_at (before first pieces) rank ≡ value_at pieces rank
  below-at rank less =
      before-value n 0 first pieces rank canonical
      ∙ ap (λ test. cond test (value_at pieces rank) None) (is-less rank first less)

  past-at : (rank : ℕ) → last < rank → value_at (after last pieces) rank ≡ value_at pieces rank
  past-at rank less =
      after-value n 0 last pieces rank canonical
      ∙ ap (λ test. cond test (value_at pieces rank) None) (is-less last rank less)

  past-none : (rank : ℕ) → rank ≤ last → value_at (after last pieces) rank ≡ None
  past-none rank less =
      value-below n (last + 1) (after last pieces) rank (after-map n 0 last pieces canonical)
      (omega (arith, less))

  -- ---- without the ranks from `first` to `last`

  module _ (order : first ≤ last) (in_type : last < n) where
    after-from : IsMapFrom n first (after last pieces)
    after-from =
        map-lower n (last + 1) first (after last pieces) (omega (arith, order))
        (after-map n 0 last pieces canonical)

    pub removed-map : IsMapIn n (before first pieces ++ after last pieces)
    removed-map =
        append-map n first 0 (before first pieces) (after last pieces) (omega arith)
        (omega (arith, order, in_type)) (before-map n 0 first pieces canonical) after-from
        (λ value above before at. none-some value (sym (past-none first order) ∙ at))

    pub removed-value : IsWithout (value_at pieces) (covers (from_to first last))
        (value_at (before first pieces ++ after last pieces))
    removed-value rank =
        append-value n first 0 (before first pieces) (after last pieces) rank
        (before-map n 0 first pieces canonical) after-from
        ∙ elim (cases_lt rank first) [
          | inl less ↦
              rw (is-less rank first less, covers-outside (from_to first last) rank (inl less))
              (below-at rank less)
          | inr from ↦ elim (cases_lt last rank) [
            | inl past ↦
                rw (is-not-less rank first from, covers-outside (from_to first last) rank (inr past))
                (past-at rank past)
            | inr to ↦
                rw (is-not-less rank first from, covers-inside (from_to first last) rank from to)
                (past-none rank to)
          ]
        ]

    -- ---- with a value at these ranks

    module _ (value : V) (low : 0 < first → value_at pieces (first - 1) ≡ Some value → ⊥)
        (high : value_at pieces (last + 1) ≡ Some value → ⊥) where
      placed-from : IsMapFrom n first ((from_to first last, value) ∷ after last pieces)
      placed-from = (
        omega arith,
        order,
        in_type,
        differs-at n (from_to first last, value) (after last pieces) (after-map n 0 last pieces canonical)
            (λ same. high (sym (past-at (last + 1) (omega arith)) ∙ same)),
        after-map n 0 last pieces canonical,
      )

      pub placed-map : IsMapIn n (before first pieces ++ (from_to first last, value) ∷ after last pieces)
      placed-map =
          append-map n first 0 (before first pieces) ((from_to first last, value) ∷ after last pieces) (omega arith)
          (omega (arith, order, in_type)) (before-map n 0 first pieces canonical) placed-from
          (λ other above before at. low above
          (sym (below-at (first - 1) (omega (arith, above))) ∙ before
          ∙ sym at ∙ value-here (from_to first last, value) (after last pieces) first (omega arith) order))

      pub placed-value : IsPut (value_at pieces) (covers (from_to first last)) value
          (value_at (before first pieces ++ (from_to first last, value) ∷ after last pieces))
      placed-value rank =
          append-value n first 0 (before first pieces) ((from_to first last, value) ∷ after last pieces) rank
          (before-map n 0 first pieces canonical) placed-from
          ∙ elim (cases_lt rank first) [
            | inl less ↦
                rw (is-less rank first less, covers-outside (from_to first last) rank (inl less))
                (below-at rank less)
            | inr from ↦ elim (cases_lt last rank) [
              | inl past ↦
                  rw (is-not-less rank first from, covers-outside (from_to first last) rank (inr past))
                  (past-at rank past)
              | inr to ↦
                  rw (is-not-less rank first from, covers-inside (from_to first last) rank from to) refl
            ]
          ]

module _ {V : Type 0} (pieces opened : List (Interval × V)) (first last : ℕ) (order : first ≤ last)
    (below : pieces_below first opened ≡ pieces_below first pieces)
    (past : pieces_past last opened ≡ after last pieces) where
  -- Once a piece is put, and those that start inside it are removed, the pieces from its start on
  -- are those of the new map, and those below are as before.
  pub put-below : (piece : Interval × V) → piece.0.first ≡ first
      → pieces_below first (without_inside first last (with_piece piece opened))
      ≡ pieces_below first pieces
  put-below piece starts =
      starting-starting (λ start. nat_lt start first)
      (λ start. not (nat_lt first start && nat_le start last)) (λ start. nat_lt start first)
      (with_piece piece opened) (λ start. grind (arith, nat_tests))
      ∙ starting-with_piece_not (λ start. nat_lt start first) piece opened
      (grind (arith, nat_tests, starts)) (λ start more. grind (arith, nat_tests, starts, more))
      ∙ below

  pub put-from : (piece : Interval × V) → piece.0.first ≡ first
      → pieces_from first (without_inside first last (with_piece piece opened))
      ≡ piece ∷ after last pieces
  put-from piece starts =
      starting-starting (λ start. nat_le first start)
      (λ start. not (nat_lt first start && nat_le start last))
      (λ start. not (nat_lt first start && nat_le start last) && nat_le first start)
      (with_piece piece opened) (λ start. refl)
      ∙ starting-with_piece
      (λ start. not (nat_lt first start && nat_le start last) && nat_le first start)
      piece opened (grind (arith, nat_tests, starts))
      ∙ (λ i. (starting-starting (λ start. nat_lt start piece.0.first)
      (λ start. not (nat_lt first start && nat_le start last) && nat_le first start)
      (λ start. false) opened (λ start. grind (arith, nat_tests, starts)) ∙ starting-none opened) i
      ++ piece ∷ (starting-starting (λ start. nat_lt piece.0.first start)
      (λ start. not (nat_lt first start && nat_le start last) && nat_le first start)
      (λ start. nat_lt last start) opened (λ start. grind (arith, nat_tests, starts, order)) ∙ past) i)

  -- The same without any piece from `first` to `last`.
  pub cleared-below : pieces_below first (without_inside first last (without_start first opened))
      ≡ pieces_below first pieces
  cleared-below =
      starting-starting (λ start. nat_lt start first)
      (λ start. not (nat_lt first start && nat_le start last)) (λ start. nat_lt start first)
      (without_start first opened) (λ start. grind (arith, nat_tests))
      ∙ starting-starting (λ start. nat_lt start first) (λ start. not (start == first))
      (λ start. nat_lt start first) opened (λ start. grind (arith, nat_tests))
      ∙ below

  pub cleared-from : pieces_from first (without_inside first last (without_start first opened))
      ≡ after last pieces
  cleared-from =
      starting-starting (λ start. nat_le first start)
      (λ start. not (nat_lt first start && nat_le start last))
      (λ start. not (nat_lt first start && nat_le start last) && nat_le first start)
      (without_start first opened) (λ start. refl)
      ∙ starting-starting
      (λ start. not (nat_lt first start && nat_le start last) && nat_le first start)
      (λ start. not (start == first)) (λ start. nat_lt last start) opened
      (λ start. grind (arith, nat_tests, order))
      ∙ past

module _ {V : Type 0} where
  -- ---- how many pieces

  before-fewer : (rank : ℕ) (pieces : List (Interval × V)) → length (before rank pieces) ≤ length pieces
  before-fewer rank [] = omega arith
  before-fewer rank (piece ∷ pieces) =
      let rest = before-fewer rank pieces in
      elim (cases_lt piece.0.last rank) [
        | inl below ↦ let is = ap length (before-whole rank piece pieces below) in omega (arith, is, rest)
        | inr over ↦ elim (cases_lt piece.0.first rank) [
          | inl starts ↦
              let is = ap length (before-cut rank piece pieces over starts) in omega (arith, is)
          | inr past ↦ let is = ap length (before-none rank piece pieces over past) in omega (arith, is)
        ]
      ]

  after-fewer : (rank : ℕ) (pieces : List (Interval × V)) → length (after rank pieces) ≤ length pieces
  after-fewer rank [] = omega arith
  after-fewer rank (piece ∷ pieces) =
      let rest = after-fewer rank pieces in
      elim (cases_lt rank piece.0.last) [
        | inl over ↦ elim (cases_lt rank piece.0.first) [
          | inl starts ↦
              let is = ap length (after-whole rank piece pieces over starts) in omega (arith, is)
          | inr within ↦
              let is = ap length (after-cut rank piece pieces over within) in omega (arith, is)
        ]
        | inr below ↦ let is = ap length (after-later rank piece pieces below) in omega (arith, is, rest)
      ]

  -- Both parts together have at most one piece more than the whole.
  pub parts-count : (first last : ℕ) (pieces : List (Interval × V)) → first ≤ last + 1
      → length (before first pieces) + length (after last pieces) ≤ length pieces + 1
  parts-count first last [] order = omega arith
  parts-count first last (piece ∷ pieces) order =
      let rest = parts-count first last pieces order in
      let fewer = after-fewer last pieces in
      elim (cases_lt last piece.0.last) [
        | inl over ↦
            let more : length (after last (piece ∷ pieces)) ≡ length pieces + 1 =
            elim (cases_lt last piece.0.first) [
              | inl starts ↦ let is = ap length (after-whole last piece pieces over starts) in omega (arith, is)
              | inr within ↦ let is = ap length (after-cut last piece pieces over within) in omega (arith, is)
            ] in
            elim (cases_lt piece.0.last first) [
              | inl below ↦ absurd (omega (arith, below, over, order))
              | inr reaches ↦ elim (cases_lt piece.0.first first) [
                | inl starts ↦
                    let is = ap length (before-cut first piece pieces reaches starts) in
                    omega (arith, is, more)
                | inr past ↦
                    let is = ap length (before-none first piece pieces reaches past) in
                    omega (arith, is, more)
              ]
            ]
        | inr below ↦
            let here = ap length (after-later last piece pieces below) in
            elim (cases_lt piece.0.last first) [
              | inl whole ↦
                  let is = ap length (before-whole first piece pieces whole) in omega (arith, is, here, rest)
              | inr reaches ↦ elim (cases_lt piece.0.first first) [
                | inl starts ↦
                    let is = ap length (before-cut first piece pieces reaches starts) in
                    omega (arith, is, here, fewer)
                | inr past ↦
                    let is = ap length (before-none first piece pieces reaches past) in
                    omega (arith, is, here, fewer)
              ]
            ]
      ]

  -- So a map with one more piece has at most two more, and one without some ranks at most one.
  pub placed-count : (first last : ℕ) (pieces : List (Interval × V)) (piece : Interval × V)
      → first ≤ last + 1
      → length (before first pieces ++ piece ∷ after last pieces) ≤ length pieces + 2
  placed-count first last pieces piece order =
      let parts = parts-count first last pieces order in
      omega (arith, parts, length-append (before first pieces) (piece ∷ after last pieces))

  pub removed-count : (first last : ℕ) (pieces : List (Interval × V)) → first ≤ last + 1
      → length (before first pieces ++ after last pieces) ≤ length pieces + 1
  removed-count first last pieces order =
      let parts = parts-count first last pieces order in
      omega (arith, parts, length-append (before first pieces) (after last pieces))

  -- ---- a joined run

  -- A run that is joined with the pieces next to it changes only its own ranks.
  pub joined-put : (n : ℕ) (pieces : List (Interval × V)) (start end joined_start joined_end : ℕ)
      (value : V) (new : ℕ → Option V) → IsJoinedStart pieces start value joined_start
      → IsJoinedEnd n pieces end value joined_end
      → IsPut (value_at pieces) (covers (from_to joined_start joined_end)) value new
      → IsPut (value_at pieces) (covers (from_to start end)) value new
  joined-put n pieces start end joined_start joined_end value new low high put rank =
      let below = low.below in
      let above = high.above in
      put rank
      ∙ elim (cases_lt rank start) [
        | inl less ↦
            rw (covers-outside (from_to start end) rank (inl less))
            (elim (cases_lt rank joined_start) [
              | inl lower ↦ rw (covers-outside (from_to joined_start joined_end) rank (inl lower)) refl
              | inr from ↦ elim (cases_lt joined_end rank) [
                | inl past ↦ rw (covers-outside (from_to joined_start joined_end) rank (inr past)) refl
                | inr to ↦
                    rw (covers-inside (from_to joined_start joined_end) rank from to)
                    (sym (low.same rank from less))
              ]
            ])
        | inr from ↦ elim (cases_lt end rank) [
          | inl past ↦
              rw (covers-outside (from_to start end) rank (inr past))
              (elim (cases_lt joined_end rank) [
                | inl later ↦ rw (covers-outside (from_to joined_start joined_end) rank (inr later)) refl
                | inr to ↦
                    rw (covers-inside (from_to joined_start joined_end) rank
                    (omega (arith, from, below)) to)
                    (sym (high.same rank past to))
              ])
          | inr to ↦
              rw (
                covers-inside (from_to start end) rank from to,
                covers-inside (from_to joined_start joined_end) rank (omega (arith, from, below))
                    (omega (arith, to, above)),
              ) refl
        ]
      ]

-- The run of a single rank covers only that rank.
pub covers-only : (rank other : ℕ) → covers (from_to rank rank) other ≡ only rank other
covers-only rank other = grind (arith, nat_tests)

module _ {V : Type 0} (old new : ℕ → Option V) (rank : ℕ) where
  -- So what is put there, or removed, is put or removed at only that rank.
  pub put-only : (value : V) → IsPut old (covers (from_to rank rank)) value new
      → IsPut old (only rank) value new
  put-only value put other =
      put other ∙ ap (λ test. cond test (Some value) (old other)) (covers-only rank other)

  pub without-only : IsWithout old (covers (from_to rank rank)) new → IsWithout old (only rank) new
  without-only without other =
      without other ∙ ap (λ test. cond test None (old other)) (covers-only rank other)
