-- The parts of a map below and past a rank, and two maps, one after the other, as one.
use Rattle.std.proofs.Common.{◌≡◌, ℕ, true, false, ◌+◌, ◌-◌, ◌<◌, ◌≤◌, nat_lt, cond, List, [], ◌∷◌, ◌++◌, Some, None, refl, sym, ap, ◌∙◌, inl, inr, arith}
use Rattle.std.proofs.lemmas.Bool.{cases_lt}
use Rattle.std.proofs.lemmas.Bool.Decides.{nat_tests}
use Rattle.std.proofs.lemmas.Option.{none-some}
use Rattle.rsb_integer.specs.Runs.{Interval, covers, from_to}
use Rattle.rsb_integer.proofs.lemmas.Members.{covers-cases}
use Rattle.range_map_blaze.specs.Map.{value_at, DiffersFromNext, IsMapFrom}
use Rattle.range_map_blaze.specs.Parts.{after, before}
use Rattle.range_map_blaze.proofs.lemmas.Values.{map-first, map-lower, value-below, value-here, value-later, value-past}

-- The tests of two numbers.
pub is-less : (left right : ℕ) → left < right → nat_lt left right ≡ true
is-less left right less = grind (arith, nat_tests)

pub is-not-less : (left right : ℕ) → right ≤ left → nat_lt left right ≡ false
is-not-less left right most = grind (arith, nat_tests)

module _ {V : Type 0} where
  -- ---- the part below a rank, by the place of the first piece

  pub before-whole : (rank : ℕ) (piece : Interval × V) (pieces : List (Interval × V))
      → piece.0.last < rank → before rank (piece ∷ pieces) ≡ piece ∷ before rank pieces
  before-whole rank piece pieces below = rw (is-less piece.0.last rank below) refl

  pub before-cut : (rank : ℕ) (piece : Interval × V) (pieces : List (Interval × V))
      → rank ≤ piece.0.last → piece.0.first < rank
      → before rank (piece ∷ pieces) ≡ (from_to piece.0.first (rank - 1), piece.1) ∷ []
  before-cut rank piece pieces over starts =
      rw (is-not-less piece.0.last rank over, is-less piece.0.first rank starts) refl

  pub before-none : (rank : ℕ) (piece : Interval × V) (pieces : List (Interval × V))
      → rank ≤ piece.0.last → rank ≤ piece.0.first → before rank (piece ∷ pieces) ≡ []
  before-none rank piece pieces over starts =
      rw (is-not-less piece.0.last rank over, is-not-less piece.0.first rank starts) refl

  -- Its first piece starts where that of the map does, with the same value.
  before-differs : (rank : ℕ) (piece : Interval × V) (pieces : List (Interval × V))
      → DiffersFromNext piece pieces → DiffersFromNext piece (before rank pieces)
  before-differs rank piece [] differs = tt
  before-differs rank piece (next ∷ pieces) differs = elim (cases_lt next.0.last rank) [
    | inl below ↦ rw (before-whole rank next pieces below) differs
    | inr over ↦ elim (cases_lt next.0.first rank) [
      | inl starts ↦ rw (before-cut rank next pieces over starts) differs
      | inr past ↦ rw (before-none rank next pieces over past) tt
    ]
  ]

  -- It is canonical, and ends below the rank.
  pub before-map : (n low rank : ℕ) (pieces : List (Interval × V)) → IsMapFrom n low pieces
      → IsMapFrom rank low (before rank pieces)
  before-map n low rank [] canonical = tt
  before-map n low rank (piece ∷ pieces) canonical = elim (cases_lt piece.0.last rank) [
    | inl below ↦
        rw (before-whole rank piece pieces below) (
          canonical.0,
          canonical.1,
          below,
          before-differs rank piece pieces canonical.3,
          before-map n (piece.0.last + 1) rank pieces canonical.4,
        )
    | inr over ↦ elim (cases_lt piece.0.first rank) [
      | inl starts ↦
          rw (before-cut rank piece pieces over starts)
          (canonical.0, omega (arith, starts), omega (arith, starts), tt, tt)
      | inr past ↦ rw (before-none rank piece pieces over past) tt
    ]
  ]

  -- It has what the map has below the rank, and nothing else.
  pub before-value : (n low rank : ℕ) (pieces : List (Interval × V)) (other : ℕ)
      → IsMapFrom n low pieces
      → value_at (before rank pieces) other ≡ cond (nat_lt other rank) (value_at pieces other) None
  before-value n low rank [] other canonical = grind (arith, nat_lt other rank)
  before-value n low rank (piece ∷ pieces) other canonical =
      elim (cases_lt other rank) [
        | inl less ↦ rw (is-less other rank less)
            (inside less (before-value n (piece.0.last + 1) rank pieces other canonical.4))
        | inr most ↦ rw (is-not-less other rank most)
            (value-past rank low (before rank (piece ∷ pieces)) other
            (before-map n low rank (piece ∷ pieces) canonical) most)
      ]
    where
      inside : other < rank
          → value_at (before rank pieces) other ≡ cond (nat_lt other rank) (value_at pieces other) None
          → value_at (before rank (piece ∷ pieces)) other ≡ value_at (piece ∷ pieces) other
      inside less rest = elim (cases_lt piece.0.last rank) [
        | inl below ↦
            let same : value_at (before rank pieces) other ≡ value_at pieces other =
            rest ∙ ap (λ test. cond test (value_at pieces other) None) (is-less other rank less) in
            rw (before-whole rank piece pieces below)
            (ap (λ found. cond (covers piece.0 other) (Some piece.1) found) same)
        | inr over ↦ elim (cases_lt other piece.0.first) [
          | inl earlier ↦
              value-below rank piece.0.first (before rank (piece ∷ pieces)) other
              (before-map n piece.0.first rank (piece ∷ pieces) (map-first n low piece pieces canonical))
              earlier
              ∙ sym (value-below n piece.0.first (piece ∷ pieces) other
              (map-first n low piece pieces canonical) earlier)
          | inr from ↦
              rw (before-cut rank piece pieces over (omega (arith, from, less)))
              (value-here (from_to piece.0.first (rank - 1), piece.1) [] other from
              (omega (arith, less))
              ∙ sym (value-here piece pieces other from (omega (arith, less, over))))
        ]
      ]

  -- ---- the part past a rank

  pub after-whole : (rank : ℕ) (piece : Interval × V) (pieces : List (Interval × V))
      → rank < piece.0.last → rank < piece.0.first → after rank (piece ∷ pieces) ≡ piece ∷ pieces
  after-whole rank piece pieces over starts =
      rw (is-less rank piece.0.last over, is-less rank piece.0.first starts) refl

  pub after-cut : (rank : ℕ) (piece : Interval × V) (pieces : List (Interval × V))
      → rank < piece.0.last → piece.0.first ≤ rank
      → after rank (piece ∷ pieces) ≡ (from_to (rank + 1) piece.0.last, piece.1) ∷ pieces
  after-cut rank piece pieces over starts =
      rw (is-less rank piece.0.last over, is-not-less rank piece.0.first starts) refl

  pub after-later : (rank : ℕ) (piece : Interval × V) (pieces : List (Interval × V))
      → piece.0.last ≤ rank → after rank (piece ∷ pieces) ≡ after rank pieces
  after-later rank piece pieces below = rw (is-not-less rank piece.0.last below) refl

  -- It is canonical.
  pub after-map : (n low rank : ℕ) (pieces : List (Interval × V)) → IsMapFrom n low pieces
      → IsMapFrom n (rank + 1) (after rank pieces)
  after-map n low rank [] canonical = tt
  after-map n low rank (piece ∷ pieces) canonical = elim (cases_lt rank piece.0.last) [
    | inl over ↦ elim (cases_lt rank piece.0.first) [
      | inl starts ↦
          rw (after-whole rank piece pieces over starts)
          (omega (arith, starts), canonical.1, canonical.2, canonical.3, canonical.4)
      | inr within ↦
          rw (after-cut rank piece pieces over within)
          (omega arith, omega (arith, over), canonical.2, differs pieces canonical.3, canonical.4)
    ]
    | inr below ↦
        rw (after-later rank piece pieces below)
        (after-map n (piece.0.last + 1) rank pieces canonical.4)
  ]
    where
      differs : (others : List (Interval × V)) → DiffersFromNext piece others
          → DiffersFromNext (from_to (rank + 1) piece.0.last, piece.1) others
      differs [] apart = tt
      differs (next ∷ others) apart = apart

  -- It has what the map has past the rank, and nothing else.
  pub after-value : (n low rank : ℕ) (pieces : List (Interval × V)) (other : ℕ)
      → IsMapFrom n low pieces
      → value_at (after rank pieces) other ≡ cond (nat_lt rank other) (value_at pieces other) None
  after-value n low rank [] other canonical = grind (arith, nat_lt rank other)
  after-value n low rank (piece ∷ pieces) other canonical =
      elim (cases_lt rank other) [
        | inl less ↦ rw (is-less rank other less)
            (inside less (after-value n (piece.0.last + 1) rank pieces other canonical.4))
        | inr most ↦ rw (is-not-less rank other most)
            (value-below n (rank + 1) (after rank (piece ∷ pieces)) other
            (after-map n low rank (piece ∷ pieces) canonical) (omega (arith, most)))
      ]
    where
      inside : rank < other
          → value_at (after rank pieces) other ≡ cond (nat_lt rank other) (value_at pieces other) None
          → value_at (after rank (piece ∷ pieces)) other ≡ value_at (piece ∷ pieces) other
      inside less rest = elim (cases_lt rank piece.0.last) [
        | inl over ↦ elim (cases_lt rank piece.0.first) [
          | inl starts ↦ rw (after-whole rank piece pieces over starts) refl
          | inr within ↦ elim (cases_lt piece.0.last other) [
            | inl past ↦
                rw (after-cut rank piece pieces over within)
                (value-later (from_to (rank + 1) piece.0.last, piece.1) pieces other (inr past)
                ∙ sym (value-later piece pieces other (inr past)))
            | inr to ↦
                rw (after-cut rank piece pieces over within)
                (value-here (from_to (rank + 1) piece.0.last, piece.1) pieces other
                (omega (arith, less)) to
                ∙ sym (value-here piece pieces other (omega (arith, within, less)) to))
          ]
        ]
        | inr below ↦
            rw (after-later rank piece pieces below)
            (rest
            ∙ ap (λ test. cond test (value_at pieces other) None) (is-less rank other less)
            ∙ sym (value-later piece pieces other (inr (omega (arith, below, less)))))
      ]

  -- ---- two maps, one after the other

  -- A canonical list that ends below a rank ends below any higher one.
  pub map-wider : (n wider low : ℕ) (pieces : List (Interval × V)) → n ≤ wider
      → IsMapFrom n low pieces → IsMapFrom wider low pieces
  map-wider n wider low [] more canonical = tt
  map-wider n wider low (piece ∷ pieces) more canonical =
      let ends = canonical.2 in (
        canonical.0,
        canonical.1,
        omega (arith, ends, more),
        canonical.3,
        map-wider n wider (piece.0.last + 1) pieces more canonical.4,
      )

  -- The first piece of a list differs from the piece before if its value there differs.
  pub differs-at : (n : ℕ) (piece : Interval × V) (pieces : List (Interval × V))
      → IsMapFrom n (piece.0.last + 1) pieces
      → (value_at pieces (piece.0.last + 1) ≡ Some piece.1 → ⊥) → DiffersFromNext piece pieces
  differs-at n piece [] canonical apart = tt
  differs-at n piece (next ∷ pieces) canonical apart = λ touch same.
      let ordered = canonical.1 in
      apart (value-here next pieces (piece.0.last + 1) (omega (arith, touch))
      (omega (arith, touch, ordered)) ∙ ap Some (sym same))

  -- What two lists have, one after the other, at each rank.
  pub append-value : (n rank low : ℕ) (pieces others : List (Interval × V)) (other : ℕ)
      → IsMapFrom rank low pieces → IsMapFrom n rank others
      → value_at (pieces ++ others) other
      ≡ cond (nat_lt other rank) (value_at pieces other) (value_at others other)
  append-value n rank low [] others other left right = elim (cases_lt other rank) [
    | inl less ↦ rw (is-less other rank less) (value-below n rank others other right less)
    | inr most ↦ rw (is-not-less other rank most) refl
  ]
  append-value n rank low (piece ∷ pieces) others other left right =
      let ends = left.2 in
      let rest = append-value n rank (piece.0.last + 1) pieces others other left.4 right in
      elim (covers-cases piece.0 other) [
        | inl inside ↦
            let high = inside.1 in
            rw (inside.2, is-less other rank (omega (arith, ends, high))) refl
        | inr outside ↦ rw outside.1 rest
      ]

  -- Two maps, one after the other, are canonical if they do not touch with one value.
  pub append-map : (n rank low : ℕ) (pieces others : List (Interval × V)) → low ≤ rank → rank ≤ n
      → IsMapFrom rank low pieces → IsMapFrom n rank others
      → ((value : V) → 0 < rank → value_at pieces (rank - 1) ≡ Some value
      → value_at others rank ≡ Some value → ⊥)
      → IsMapFrom n low (pieces ++ others)
  append-map n rank low [] others from within left right apart = map-lower n rank low others from right
  append-map n rank low (piece ∷ pieces) others from within left right apart =
      let ends = left.2 in
      let ordered = left.1 in (
        left.0,
        left.1,
        omega (arith, ends, within),
        differs pieces left.3 left.4,
        append-map n rank (piece.0.last + 1) pieces others (omega (arith, ends)) within left.4 right
            (λ value above before at. elim (cases_lt piece.0.last (rank - 1)) [
              | inl past ↦
                  apart value above (value-later piece pieces (rank - 1) (inr past) ∙ before) at
              | inr most ↦
                  none-some value (sym (value-below rank (piece.0.last + 1) pieces (rank - 1) left.4
                  (omega (arith, most))) ∙ before)
            ]),
      )
    where
      differs : (rest : List (Interval × V)) → DiffersFromNext piece rest
          → IsMapFrom rank (piece.0.last + 1) rest → DiffersFromNext piece (rest ++ others)
      differs (next ∷ rest) here after = here
      differs [] here after =
          let ends = left.2 in
          let ordered = left.1 in
          elim (cases_lt (piece.0.last + 1) rank) [
            | inl gap ↦
                differs-at n piece others (map-lower n rank (piece.0.last + 1) others (omega (arith, gap)) right)
                (λ same. none-some piece.1
                (sym (value-below n rank others (piece.0.last + 1) right gap) ∙ same))
            | inr most ↦
                let touch : rank ≡ piece.0.last + 1 = omega (arith, ends, most) in
                differs-at n piece others
                (map-lower n rank (piece.0.last + 1) others (omega (arith, touch)) right)
                (λ same. apart piece.1 (omega (arith, touch))
                (value-here piece pieces (rank - 1) (omega (arith, touch, ordered)) (omega (arith, touch)))
                (ap (value_at others) touch ∙ same))
          ]
