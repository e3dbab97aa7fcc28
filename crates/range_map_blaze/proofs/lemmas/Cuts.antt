-- The parts of a map below and past a rank, in terms of the starts of its pieces.
use Rattle.std.proofs.Common.{◌≡◌, ℕ, Bool, true, false, ◌==◌, ◌+◌, ◌-◌, ◌<◌, ◌≤◌, nat_lt, List, [], ◌∷◌, ◌++◌, Option, Some, None, refl, sym, ap, ◌∙◌, inl, inr, arith, subst}
use Rattle.std.specs.List.{Contains}
use Rattle.std.proofs.lemmas.Bool.{cases_lt}
use Rattle.std.proofs.lemmas.Bool.Decides.{nat_tests}
use Rattle.rsb_integer.specs.Runs.{Interval, from_to}
use Rattle.rsb_integer.proofs.lemmas.List.{Contains-cases, Contains-head, Contains-tail}
use Rattle.rsb_integer.proofs.lemmas.Members.{covers-bounds, covers-inside}
use Rattle.range_map_blaze.specs.Map.{value_at, DiffersFromNext, IsMapFrom, IsMapIn}
use Rattle.range_map_blaze.specs.Parts.{after, before}
use Rattle.range_map_blaze.specs.Storage.{pieces_below, pieces_past, pieces_starting, with_end_at, with_piece, without_start, IsLastBelow, NoneBelow, StartsAscendFrom}
use Rattle.range_map_blaze.proofs.lemmas.Contained.{contained-from, contained-maximal, found-piece, maximal-one}
use Rattle.range_map_blaze.proofs.lemmas.Parted.{after-cut, after-later, after-whole, before-cut, before-none, before-whole}
use Rattle.range_map_blaze.proofs.lemmas.Starts.{ascending-all, ascending-lower, ascending-none, starting-starting, starting-with_piece, starting-with_piece_not, without_start-with_piece}
use Rattle.range_map_blaze.proofs.lemmas.Values.{map-first}

module _ {V : Type 0} where
  -- ---- the piece that contains a rank

  -- The starts of a canonical list ascend.
  pub map-rises : (n low : ℕ) (pieces : List (Interval × V)) → IsMapFrom n low pieces
      → StartsAscendFrom n low pieces
  map-rises n low [] canonical = tt
  map-rises n low (piece ∷ pieces) canonical =
      let ordered = canonical.1 in
      let ends = canonical.2 in (
        canonical.0,
        omega (arith, ordered, ends),
        ascending-lower n (piece.0.last + 1) (piece.0.first + 1) pieces (omega (arith, ordered))
            (map-rises n (piece.0.last + 1) pieces canonical.4),
      )

  -- Two pieces of a canonical list that share a rank are the same.
  pub pieces-one : (n : ℕ) (pieces : List (Interval × V)) (rank : ℕ) (piece other : Interval × V)
      → IsMapIn n pieces → Contains pieces piece → Contains pieces other
      → piece.0.first ≤ rank → rank ≤ piece.0.last → other.0.first ≤ rank → rank ≤ other.0.last
      → piece ≡ other
  pieces-one n pieces rank piece other canonical left right low high from to =
      maximal-one n (value_at pieces) rank piece other
      (contained-maximal n 0 pieces piece canonical left)
      (contained-maximal n 0 pieces other canonical right)
      (covers-inside piece.0 rank low high) (covers-inside other.0 rank from to)

  -- If no piece starts at or below a rank, it has no value.
  pub none-value : (pieces : List (Interval × V)) (rank : ℕ) → NoneBelow pieces (rank + 1)
      → value_at pieces rank ≡ None
  none-value pieces rank none = by (value_at pieces rank) refl
    where
      by : (found : Option V) → value_at pieces rank ≡ found → value_at pieces rank ≡ None
      by None is = is
      by (Some value) is =
          let found = found-piece pieces rank value is in
          let low = (covers-bounds found.0.0 rank found.2).0 in
          absurd (none found.0 found.1 (omega (arith, low)))

  -- If the last of these pieces ends below the rank, no piece starts at or below the rank and ends
  -- at or past it.
  pub last-ends : (n : ℕ) (pieces : List (Interval × V)) (rank : ℕ) (piece other : Interval × V)
      → IsMapIn n pieces → IsLastBelow pieces (rank + 1) piece → piece.0.last < rank
      → Contains pieces other → other.0.first ≤ rank → rank ≤ other.0.last → ⊥
  last-ends n pieces rank piece other canonical last ends found low high =
      let order = (contained-maximal n 0 pieces piece canonical last.among).in_order in
      let from = last.last other found (omega (arith, low)) in
      let same = pieces-one n pieces piece.0.first piece other canonical last.among found (omega arith)
      order from (omega (arith, order, ends, high)) in
      let end = ap (λ (each : Interval × V). each.0.last) same in
      omega (arith, end, ends, high)

  -- So the rank has no value.
  pub last-value : (n : ℕ) (pieces : List (Interval × V)) (rank : ℕ) (piece : Interval × V)
      → IsMapIn n pieces → IsLastBelow pieces (rank + 1) piece → piece.0.last < rank
      → value_at pieces rank ≡ None
  last-value n pieces rank piece canonical last ends = by (value_at pieces rank) refl
    where
      by : (found : Option V) → value_at pieces rank ≡ found → value_at pieces rank ≡ None
      by None is = is
      by (Some value) is =
          let found = found-piece pieces rank value is in
          let bounds = covers-bounds found.0.0 rank found.2 in
          absurd (last-ends n pieces rank piece found.0 canonical last ends found.1 bounds.0 bounds.1)

  -- ---- the part past a rank

  -- If no piece extends over the rank, the part past it has the pieces that start there.
  pub after-past : (n low rank : ℕ) (pieces : List (Interval × V)) → IsMapFrom n low pieces
      → ((piece : Interval × V) → Contains pieces piece → piece.0.first ≤ rank → rank < piece.0.last → ⊥)
      → after rank pieces ≡ pieces_past rank pieces
  after-past n low rank [] canonical none = refl
  after-past n low rank (piece ∷ pieces) canonical none = elim (cases_lt rank piece.0.first) [
    | inl past ↦
        let ordered = canonical.1 in
        let here : nat_lt rank piece.0.first ≡ true = grind (arith, nat_tests, past) in
        after-whole rank piece pieces (omega (arith, past, ordered)) past
        ∙ rw here
        (ap (λ (rest : List (Interval × V)). piece ∷ rest)
        (sym (ascending-all (λ start. nat_lt rank start) n (piece.0.last + 1) pieces
        (map-rises n (piece.0.last + 1) pieces canonical.4)
        (λ start from. grind (arith, nat_tests, from, past, ordered)))))
    | inr starts ↦ elim (cases_lt rank piece.0.last) [
      | inl over ↦ absurd (none piece (Contains-head piece pieces) starts over)
      | inr below ↦
          let not_here : nat_lt rank piece.0.first ≡ false = grind (arith, nat_tests, starts) in
          after-later rank piece pieces below
          ∙ rw not_here
          (after-past n (piece.0.last + 1) rank pieces canonical.4
          (λ other found. none other (Contains-tail piece pieces other found)))
    ]
  ]

  -- If a piece extends over the rank, that part begins with what is left of the piece.
  pub after-over : (n low rank : ℕ) (pieces : List (Interval × V)) (piece : Interval × V)
      → IsMapFrom n low pieces → Contains pieces piece → piece.0.first ≤ rank → rank < piece.0.last
      → after rank pieces ≡ (from_to (rank + 1) piece.0.last, piece.1) ∷ pieces_past (rank + 1) pieces
  after-over n low rank [] piece canonical found starts over =
      let none = found.1 in absurd (omega arith)
  after-over n low rank (first ∷ pieces) piece canonical found starts over =
      elim (Contains-cases first pieces piece found) [
        | inl same ↦
            let here = ap (λ (each : Interval × V). each.0.first) same in
            let there = ap (λ (each : Interval × V). each.0.last) same in
            let not_past : nat_lt (rank + 1) first.0.first ≡ false = grind (arith, nat_tests, here, starts) in
            after-cut rank first pieces (omega (arith, there, over)) (omega (arith, here, starts))
            ∙ rw not_past
            (λ i. (from_to (rank + 1) (there i), (same i).1)
            ∷ sym (ascending-all (λ start. nat_lt (rank + 1) start) n (first.0.last + 1) pieces
            (map-rises n (first.0.last + 1) pieces canonical.4)
            (λ start from. grind (arith, nat_tests, from, there, over))) i)
        | inr later ↦
            let from = contained-from n (first.0.last + 1) pieces piece canonical.4 later in
            let ordered = canonical.1 in
            let not_past : nat_lt (rank + 1) first.0.first ≡ false =
            grind (arith, nat_tests, from, starts, ordered) in
            after-later rank first pieces (omega (arith, from, starts))
            ∙ rw not_past (after-over n (first.0.last + 1) rank pieces piece canonical.4 later starts over)
      ]

  -- No piece passes a test that always fails.
  pub starting-none : (pieces : List (Interval × V)) → pieces_starting (λ start. false) pieces ≡ []
  starting-none [] = refl
  starting-none (piece ∷ pieces) = starting-none pieces

  -- Once what is left of that piece is inserted, the part past the rank has the pieces that start
  -- there.
  pub opened-past : (n rank : ℕ) (pieces : List (Interval × V)) (piece : Interval × V)
      → IsMapIn n pieces → Contains pieces piece → piece.0.first ≤ rank → rank < piece.0.last
      → pieces_past rank (with_piece (from_to (rank + 1) piece.0.last, piece.1) pieces)
      ≡ after rank pieces
  opened-past n rank pieces piece canonical found starts over =
      let rest : Interval × V = (from_to (rank + 1) piece.0.last, piece.1) in
      starting-with_piece (λ start. nat_lt rank start) rest pieces (grind (arith, nat_tests))
      ∙ (λ i. (starting-starting (λ start. nat_lt start (rank + 1)) (λ start. nat_lt rank start)
      (λ start. false) pieces (λ start. grind (arith, nat_tests)) ∙ starting-none pieces) i
      ++ rest ∷ starting-starting (λ start. nat_lt (rank + 1) start) (λ start. nat_lt rank start)
      (λ start. nat_lt (rank + 1) start) pieces (λ start. grind (arith, nat_tests)) i)
      ∙ sym (after-over n 0 rank pieces piece canonical found starts over)

  -- The pieces that start below are unchanged.
  pub opened-below : (rank below : ℕ) (pieces : List (Interval × V)) (piece : Interval × V)
      → below ≤ piece.0.first
      → pieces_below below (with_piece piece pieces) ≡ pieces_below below pieces
  opened-below rank below pieces piece less =
      starting-with_piece_not (λ start. nat_lt start below) piece pieces
      (grind (arith, nat_tests, less)) (λ start past. grind (arith, nat_tests, less, past))

  -- Without it, the pieces are as before.
  pub opened-undone : (n rank : ℕ) (pieces : List (Interval × V)) (piece : Interval × V)
      → IsMapIn n pieces → Contains pieces piece → piece.0.first ≤ rank → rank < piece.0.last
      → without_start (rank + 1) (with_piece (from_to (rank + 1) piece.0.last, piece.1) pieces)
      ≡ pieces
  opened-undone n rank pieces piece canonical found starts over =
      without_start-with_piece n 0 (from_to (rank + 1) piece.0.last, piece.1) pieces
      (map-rises n 0 pieces canonical)
      (λ other also at.
      let order = (contained-maximal n 0 pieces other canonical also).in_order in
      let same = pieces-one n pieces other.0.first piece other canonical found also
      (omega (arith, at, starts)) (omega (arith, at, over)) (omega arith) order in
      let first = ap (λ (each : Interval × V). each.0.first) same in
      omega (arith, first, at, starts))

  -- ---- the part below a rank

  -- If all pieces end below the rank, it has them all.
  pub before-all : (rank : ℕ) (pieces : List (Interval × V))
      → ((piece : Interval × V) → Contains pieces piece → piece.0.last < rank)
      → before rank pieces ≡ pieces
  before-all rank [] ends = refl
  before-all rank (piece ∷ pieces) ends =
      before-whole rank piece pieces (ends piece (Contains-head piece pieces))
      ∙ ap (λ (rest : List (Interval × V)). piece ∷ rest)
      (before-all rank pieces (λ other found. ends other (Contains-tail piece pieces other found)))

  -- The first piece passes a test of starts, or does not.
  pub starting-passes : (test : ℕ → Bool) (piece : Interval × V) (pieces : List (Interval × V))
      → test piece.0.first ≡ true
      → pieces_starting test (piece ∷ pieces) ≡ piece ∷ pieces_starting test pieces
  starting-passes test piece pieces passes = rw passes refl

  pub starting-fails : (test : ℕ → Bool) (piece : Interval × V) (pieces : List (Interval × V))
      → test piece.0.first ≡ false
      → pieces_starting test (piece ∷ pieces) ≡ pieces_starting test pieces
  starting-fails test piece pieces fails = rw fails refl

  -- Pieces that all start at the rank or later do not start below it.
  pub below-nothing : (n low rank : ℕ) (pieces : List (Interval × V)) → rank ≤ low
      → StartsAscendFrom n low pieces → pieces_below rank pieces ≡ []
  below-nothing n low rank pieces past ascending =
      ascending-none (λ start. nat_lt start rank) n low pieces ascending
      (λ start from. grind (arith, nat_tests, from, past))

  -- The part below a rank depends only on the pieces that start below the rank.
  pub before-below : (n low rank : ℕ) (pieces : List (Interval × V)) → IsMapFrom n low pieces
      → before rank (pieces_below rank pieces) ≡ before rank pieces
  before-below n low rank [] canonical = refl
  before-below n low rank (piece ∷ pieces) canonical =
      let ordered = canonical.1 in
      let rest = before-below n (piece.0.last + 1) rank pieces canonical.4 in
      elim (cases_lt piece.0.first rank) [
        | inl starts ↦
            ap (before rank) (starting-passes (λ start. nat_lt start rank) piece pieces
            (grind (arith, nat_tests, starts)))
            ∙ elim (cases_lt piece.0.last rank) [
              | inl below ↦
                  before-whole rank piece (pieces_below rank pieces) below
                  ∙ ap (λ (each : List (Interval × V)). piece ∷ each) rest
                  ∙ sym (before-whole rank piece pieces below)
              | inr over ↦
                  before-cut rank piece (pieces_below rank pieces) over starts
                  ∙ sym (before-cut rank piece pieces over starts)
            ]
        | inr past ↦
            ap (before rank) (below-nothing n piece.0.first rank (piece ∷ pieces) past
            (map-rises n piece.0.first (piece ∷ pieces) (map-first n low piece pieces canonical)))
            ∙ sym (before-none rank piece pieces (omega (arith, past, ordered)) past)
      ]

  -- The pieces of a canonical list that start below a rank are canonical.
  below-differs : (n low rank : ℕ) (piece : Interval × V) (pieces : List (Interval × V))
      → IsMapFrom n low pieces → DiffersFromNext piece pieces
      → DiffersFromNext piece (pieces_below rank pieces)
  below-differs n low rank piece [] canonical differs = tt
  below-differs n low rank piece (next ∷ pieces) canonical differs =
      elim (cases_lt next.0.first rank) [
        | inl starts ↦
            subst (DiffersFromNext piece) (sym (starting-passes (λ start. nat_lt start rank) next pieces
            (grind (arith, nat_tests, starts)))) differs
        | inr past ↦
            subst (DiffersFromNext piece)
            (sym (below-nothing n next.0.first rank (next ∷ pieces) past
            (map-rises n next.0.first (next ∷ pieces) (map-first n low next pieces canonical)))) tt
      ]

  pub below-map : (n low rank : ℕ) (pieces : List (Interval × V)) → IsMapFrom n low pieces
      → IsMapFrom n low (pieces_below rank pieces)
  below-map n low rank [] canonical = tt
  below-map n low rank (piece ∷ pieces) canonical =
      let rest = below-map n (piece.0.last + 1) rank pieces canonical.4 in
      elim (cases_lt piece.0.first rank) [
        | inl starts ↦
            subst (IsMapFrom n low) (sym (starting-passes (λ start. nat_lt start rank) piece pieces
            (grind (arith, nat_tests, starts)))) (
              canonical.0,
              canonical.1,
              canonical.2,
              below-differs n (piece.0.last + 1) rank piece pieces canonical.4 canonical.3,
              rest,
            )
        | inr past ↦
            subst (IsMapFrom n low)
            (sym (below-nothing n piece.0.first rank (piece ∷ pieces) past
            (map-rises n piece.0.first (piece ∷ pieces) (map-first n low piece pieces canonical)))) tt
      ]

  -- If a piece of those that start below the rank extends over it, the part below it has that piece
  -- with another end.
  pub before-shortened : (n low rank : ℕ) (pieces : List (Interval × V)) (piece : Interval × V)
      → IsMapFrom n low pieces → ((other : Interval × V) → Contains pieces other → other.0.first < rank)
      → Contains pieces piece → rank ≤ piece.0.last
      → with_end_at piece.0.first (rank - 1) pieces ≡ before rank pieces
  before-shortened n low rank [] piece canonical below found over =
      let none = found.1 in absurd (omega arith)
  before-shortened n low rank (first ∷ pieces) piece canonical below found over =
      elim (Contains-cases first pieces piece found) [
        | inl same ↦ last pieces canonical.4 (λ other also. below other (Contains-tail first pieces other also))
            (ap (λ (each : Interval × V). each.0.first) same) (ap (λ (each : Interval × V). each.0.last) same)
        | inr later ↦
            let from = contained-from n (first.0.last + 1) pieces piece canonical.4 later in
            let starts = below piece found in
            let ordered = canonical.1 in
            let differs : (first.0.first == piece.0.first) ≡ false = grind (arith, nat_tests, from, ordered) in
            rw differs
            (ap (λ (rest : List (Interval × V)). first ∷ rest)
            (before-shortened n (first.0.last + 1) rank pieces piece canonical.4
            (λ other also. below other (Contains-tail first pieces other also)) later over))
            ∙ sym (before-whole rank first pieces (omega (arith, from, starts)))
      ]
    where
      last : (others : List (Interval × V)) → IsMapFrom n (first.0.last + 1) others
          → ((other : Interval × V) → Contains others other → other.0.first < rank)
          → first.0.first ≡ piece.0.first → first.0.last ≡ piece.0.last
          → with_end_at piece.0.first (rank - 1) (first ∷ others) ≡ before rank (first ∷ others)
      last [] canon under here there =
          let meets : (first.0.first == piece.0.first) ≡ true = grind (arith, nat_tests, here) in
          rw meets
          (sym (before-cut rank first [] (omega (arith, there, over))
          (below first (Contains-head first pieces))))
      last (other ∷ others) canon under here there =
          let starts = under other (Contains-head other others) in
          let from = canon.0 in
          absurd (omega (arith, starts, from, there, over))
