-- Lists of pieces by their starts: those that pass a test, and a piece at its place among others.
-- (Those of rsb_storage are about lists of runs, which have no values.)
use Rattle.std.proofs.Common.{◌≡◌, ℕ, Bool, true, false, not, ◌==◌, nat_lt, ◌&&◌, ◌+◌, ◌<◌, ◌≤◌, cond, List, [], ◌∷◌, ◌++◌, append-nil, refl, sym, ap, ◌∙◌, inl, inr, arith, subst}
use Rattle.std.specs.List.{Contains}
use Rattle.std.proofs.lemmas.Bool.{cases_lt}
use Rattle.std.proofs.lemmas.Bool.Decides.{nat_tests}
use Rattle.std.proofs.lemmas.List.Elements.{filter-append, filter_passes, All-contains, All-contains_itself, All-filter, Contains-append_cases, Contains-append_right}
use Rattle.rsb_integer.specs.Runs.{Interval}
use Rattle.rsb_integer.proofs.lemmas.List.{Contains-cases, Contains-head, Contains-tail}
use Rattle.rsb_storage.specs.Starts.{EndsWith}
use Rattle.range_map_blaze.specs.Storage.{pieces_below, pieces_past, pieces_starting, with_piece, without_start, StartsAscendFrom, IsLastBelow, NoneBelow}

module _ {V : Type 0} where
  -- The pieces that pass one test and then another are those that pass both.
  pub starting-starting : (outer inner both : ℕ → Bool) (pieces : List (Interval × V))
      → ((start : ℕ) → (inner start && outer start) ≡ both start)
      → pieces_starting outer (pieces_starting inner pieces) ≡ pieces_starting both pieces
  starting-starting outer inner both [] same = refl
  starting-starting outer inner both (piece ∷ pieces) same =
      by (inner piece.0.first) refl (starting-starting outer inner both pieces same)
    where
      by : (test : Bool) → inner piece.0.first ≡ test
          → pieces_starting outer (pieces_starting inner pieces) ≡ pieces_starting both pieces
          → pieces_starting outer (pieces_starting inner (piece ∷ pieces)) ≡ pieces_starting both (piece ∷ pieces)
      by true is rest =
          let one : outer piece.0.first ≡ both piece.0.first =
          ap (λ test. test && outer piece.0.first) (sym is) ∙ same piece.0.first in
          rw is (λ i. cond (one i) (piece ∷ rest i) (rest i))
      by false is rest =
          let none : false ≡ both piece.0.first =
          ap (λ test. test && outer piece.0.first) (sym is) ∙ same piece.0.first in
          rw is (λ i. cond (none i) (piece ∷ rest i) (rest i))

  -- If all pieces pass a test, the pieces that pass are the whole list.
  pub starting-all : (test : ℕ → Bool) (pieces : List (Interval × V))
      → ((piece : Interval × V) → Contains pieces piece → test piece.0.first ≡ true) → pieces_starting test pieces
      ≡ pieces
  starting-all test [] passes = refl
  starting-all test (piece ∷ pieces) passes =
      rw (passes piece (Contains-head piece pieces))
      (ap (λ (rest : List (Interval × V)). piece ∷ rest)
      (starting-all test pieces (λ other found. passes other (Contains-tail piece pieces other found))))

  -- A piece of the list that passes is among those that pass.
  pub Contains-starting : (test : ℕ → Bool) (pieces : List (Interval × V)) (piece : Interval × V)
      → Contains pieces piece → test piece.0.first ≡ true → Contains (pieces_starting test pieces) piece
  Contains-starting test [] piece found passes = let none = found.1 in absurd (omega arith)
  Contains-starting test (first ∷ pieces) piece found passes =
      by (test first.0.first) refl (Contains-starting test pieces piece)
    where
      by : (here : Bool) → test first.0.first ≡ here
          → (Contains pieces piece → test piece.0.first ≡ true → Contains (pieces_starting test pieces) piece)
          → Contains (pieces_starting test (first ∷ pieces)) piece
      by true is rest = elim (Contains-cases first pieces piece found) [
        | inl same ↦ rw is (subst (Contains (first ∷ pieces_starting test pieces)) same
            (Contains-head first (pieces_starting test pieces)))
        | inr later ↦ rw is (Contains-tail first (pieces_starting test pieces) piece (rest later passes))
      ]
      by false is rest = elim (Contains-cases first pieces piece found) [
        | inl same ↦
            let fails : test piece.0.first ≡ false = ap (λ (each : Interval × V). test each.0.first) (sym same) ∙ is
            in absurd (cc)
        | inr later ↦ rw is (rest later passes)
      ]

  -- Each piece that passes is one of the list, and its start passes the test.
  pub starting-contains : (test : ℕ → Bool) (pieces : List (Interval × V)) (piece : Interval × V)
      → Contains (pieces_starting test pieces) piece → Contains pieces piece × (test piece.0.first ≡ true)
  starting-contains test pieces piece found = (
    All-contains (Contains pieces) (pieces_starting test pieces) piece
        (All-filter (λ (each : Interval × V). test each.0.first) (Contains pieces) pieces
        (All-contains_itself pieces)) found,
    All-contains (λ (each : Interval × V). test each.0.first ≡ true) (pieces_starting test pieces) piece
        (filter_passes (λ (each : Interval × V). test each.0.first) pieces) found,
  )

  -- Starts that ascend from `low` on also ascend from a lower rank on.
  pub ascending-lower : (n low lower : ℕ) (pieces : List (Interval × V)) → lower ≤ low
      → StartsAscendFrom n low pieces → StartsAscendFrom n lower pieces
  ascending-lower n low lower [] less ascending = tt
  ascending-lower n low lower (piece ∷ pieces) less ascending =
      let starts = ascending.0 in (omega (arith, starts, less), ascending.1, ascending.2)

  -- If the starts of a list ascend, so do those of the pieces that pass a test.
  pub starting-ascending : (test : ℕ → Bool) (n low : ℕ) (pieces : List (Interval × V))
      → StartsAscendFrom n low pieces → StartsAscendFrom n low (pieces_starting test pieces)
  starting-ascending test n low [] ascending = tt
  starting-ascending test n low (piece ∷ pieces) ascending =
      let starts = ascending.0 in
      let rest = starting-ascending test n (piece.0.first + 1) pieces ascending.2 in
      by (test piece.0.first) refl rest
      (ascending-lower n (piece.0.first + 1) low (pieces_starting test pieces) (omega (arith, starts)) rest)
    where
      by : (passes : Bool) → test piece.0.first ≡ passes
          → StartsAscendFrom n (piece.0.first + 1) (pieces_starting test pieces)
          → StartsAscendFrom n low (pieces_starting test pieces)
          → StartsAscendFrom n low (pieces_starting test (piece ∷ pieces))
      by true is rest all = rw is (ascending.0, ascending.1, rest)
      by false is rest all = rw is all

  -- If all ranks from `low` on pass a test, the pieces that pass are the whole list.
  pub ascending-all : (test : ℕ → Bool) (n low : ℕ) (pieces : List (Interval × V)) → StartsAscendFrom n low pieces
      → ((start : ℕ) → low ≤ start → test start ≡ true) → pieces_starting test pieces ≡ pieces
  ascending-all test n low [] ascending passes = refl
  ascending-all test n low (piece ∷ pieces) ascending passes =
      rw (passes piece.0.first ascending.0)
      (ap (λ (rest : List (Interval × V)). piece ∷ rest)
      (ascending-all test n (piece.0.first + 1) pieces ascending.2
      (λ start from. passes start (omega (arith, from, ascending.0)))))

  -- If all of those ranks fail it, no piece passes.
  pub ascending-none : (test : ℕ → Bool) (n low : ℕ) (pieces : List (Interval × V)) → StartsAscendFrom n low pieces
      → ((start : ℕ) → low ≤ start → test start ≡ false) → pieces_starting test pieces ≡ []
  ascending-none test n low [] ascending fails = refl
  ascending-none test n low (piece ∷ pieces) ascending fails =
      rw (fails piece.0.first ascending.0)
      (ascending-none test n (piece.0.first + 1) pieces ascending.2
      (λ start from. fails start (omega (arith, from, ascending.0))))

  -- Each piece starts at `low` or later.
  pub ascending-contains : (n low : ℕ) (pieces : List (Interval × V)) (piece : Interval × V) → StartsAscendFrom n low pieces
      → Contains pieces piece → low ≤ piece.0.first
  ascending-contains n low [] piece ascending found = let none = found.1 in absurd (omega arith)
  ascending-contains n low (first ∷ pieces) piece ascending found =
      let starts = ascending.0 in
      elim (Contains-cases first pieces piece found) [
        | inl same ↦ subst (λ (each : Interval × V). low ≤ each.0.first) same starts
        | inr later ↦
            let more = ascending-contains n (first.0.first + 1) pieces piece ascending.2 later in
            omega (arith, starts, more)
      ]

  -- Each piece before the last starts below it.
  pub ascending-before : (n low : ℕ) (front : List (Interval × V)) (last : Interval × V) (piece : Interval × V)
      → StartsAscendFrom n low (front ++ last ∷ []) → Contains front piece → piece.0.first < last.0.first
  ascending-before n low [] last piece ascending found = let none = found.1 in absurd (omega arith)
  ascending-before n low (first ∷ front) last piece ascending found =
      elim (Contains-cases first front piece found) [
        | inl same ↦
            let later = ascending-contains n (first.0.first + 1) (front ++ last ∷ []) last ascending.2
            (Contains-append_right front (last ∷ []) last (Contains-head last [])) in
            subst (λ (each : Interval × V). each.0.first < last.0.first) same (omega (arith, later))
        | inr later ↦ ascending-before n (first.0.first + 1) front last piece ascending.2 later
      ]

  -- The last of the pieces that start below a bound is as `IsLastBelow` states.
  pub EndsWith-last : (n : ℕ) (bound : ℕ) (pieces : List (Interval × V)) (piece : Interval × V)
      → StartsAscendFrom n 0 pieces → EndsWith (pieces_below bound pieces) piece → IsLastBelow pieces bound piece
  EndsWith-last n bound pieces piece ascending found =
      let has = starting-contains (λ start. nat_lt start bound) pieces piece
      (subst (λ (items : List (Interval × V)). Contains items piece) (sym found.parts)
      (Contains-append_right found.front (piece ∷ []) piece (Contains-head piece []))) in
      record {
        among = has.0;
        starts = grind (arith, nat_tests, has.1);
        last = λ other also less.
            let under : nat_lt other.0.first bound ≡ true = grind (arith, nat_tests, less) in
            let there = subst (λ (items : List (Interval × V)). Contains items other) found.parts
            (Contains-starting (λ start. nat_lt start bound) pieces other also under) in
            elim (Contains-append_cases found.front (piece ∷ []) other there) [
              | inl front ↦
                  let before = ascending-before n 0 found.front piece other
                  (subst (StartsAscendFrom n 0) found.parts
                  (starting-ascending (λ start. nat_lt start bound) n 0 pieces ascending)) front in
                  omega (arith, before)
              | inr last ↦ elim (Contains-cases piece [] other last) [
                | inl same ↦ subst (λ (each : Interval × V). each.0.first ≤ piece.0.first) same (omega arith)
                | inr none ↦ let nothing = none.1 in absurd (omega arith)
              ]
            ];
      }

  -- If the list of these pieces is empty, no piece starts below the bound.
  pub below-none : (bound : ℕ) (pieces : List (Interval × V)) → pieces_below bound pieces ≡ []
      → NoneBelow pieces bound
  below-none bound pieces none piece found less =
      let under : nat_lt piece.0.first bound ≡ true = grind (arith, nat_tests, less) in
      let there = subst (λ (items : List (Interval × V)). Contains items piece) none
      (Contains-starting (λ start. nat_lt start bound) pieces piece found under) in
      let nothing = there.1 in omega arith

  -- A piece that is inserted before pieces that all start past it comes first.
  pub with_piece-first : (n : ℕ) (piece : Interval × V) (pieces : List (Interval × V))
      → StartsAscendFrom n (piece.0.first + 1) pieces → with_piece piece pieces ≡ piece ∷ pieces
  with_piece-first n piece pieces ascending = λ i.
      ascending-none (λ start. nat_lt start piece.0.first) n (piece.0.first + 1) pieces ascending
      (λ start from. grind (arith, nat_tests, from)) i
      ++ piece ∷ ascending-all (λ start. nat_lt piece.0.first start) n (piece.0.first + 1) pieces ascending
      (λ start from. grind (arith, nat_tests, from)) i

  -- If the first piece of a list starts below the inserted one, this goes among the others.
  pub with_piece-later : (piece first : Interval × V) (pieces : List (Interval × V)) → first.0.first < piece.0.first
      → with_piece piece (first ∷ pieces) ≡ first ∷ with_piece piece pieces
  with_piece-later piece first pieces less =
      let is_below : nat_lt first.0.first piece.0.first ≡ true = grind (arith, nat_tests, less) in
      let not_past : nat_lt piece.0.first first.0.first ≡ false = grind (arith, nat_tests, less) in
      rw (is_below, not_past) refl

  -- If the first piece of a list has the start of the inserted one, the result is as without that first
  -- piece.
  pub with_piece-here : (piece first : Interval × V) (pieces : List (Interval × V)) → piece.0.first ≡ first.0.first
      → with_piece piece (first ∷ pieces) ≡ with_piece piece pieces
  with_piece-here piece first pieces same =
      let not_below : nat_lt first.0.first piece.0.first ≡ false = grind (arith, nat_tests, same) in
      let not_past : nat_lt piece.0.first first.0.first ≡ false = grind (arith, nat_tests, same) in
      rw (not_below, not_past) refl

  -- After the insertion, the starts still ascend.
  pub with_piece-ascending : (n low : ℕ) (piece : Interval × V) (pieces : List (Interval × V)) → StartsAscendFrom n low pieces
      → low ≤ piece.0.first → piece.0.first < n → StartsAscendFrom n low (with_piece piece pieces)
  with_piece-ascending n low piece [] ascending from value = (from, value, tt)
  with_piece-ascending n low piece (first ∷ pieces) ascending from value =
      let starts = ascending.0 in
      elim (cases_lt first.0.first piece.0.first) [
        | inl less ↦
            rw (with_piece-later piece first pieces less) (
              ascending.0,
              ascending.1,
              with_piece-ascending n (first.0.first + 1) piece pieces ascending.2 (omega (arith, less)) value,
            )
        | inr reaches ↦ elim (cases_lt piece.0.first first.0.first) [
          | inl more ↦
              rw (with_piece-first n piece (first ∷ pieces) (omega (arith, more), ascending.1, ascending.2))
              (from, value, (omega (arith, more), ascending.1, ascending.2))
          | inr less ↦
              let same : piece.0.first ≡ first.0.first = omega (arith, reaches, less) in
              let rest = ascending-lower n (first.0.first + 1) (piece.0.first + 1) pieces (omega (arith, same))
              ascending.2 in
              rw (with_piece-here piece first pieces same, with_piece-first n piece pieces rest)
              (from, value, rest)
        ]
      ]

  -- If a piece is inserted where no other starts, removing it again gives the old list.
  pub without_start-with_piece : (n low : ℕ) (piece : Interval × V) (pieces : List (Interval × V))
      → StartsAscendFrom n low pieces
      → ((other : Interval × V) → Contains pieces other → other.0.first ≡ piece.0.first → ⊥)
      → without_start piece.0.first (with_piece piece pieces) ≡ pieces
  without_start-with_piece n low piece [] ascending elsewhere =
      let same : (piece.0.first == piece.0.first) ≡ true = grind (arith, nat_tests) in rw same refl
  without_start-with_piece n low piece (first ∷ pieces) ascending elsewhere =
      elim (cases_lt first.0.first piece.0.first) [
        | inl less ↦
            let differs : (first.0.first == piece.0.first) ≡ false = grind (arith, nat_tests, less) in
            rw (with_piece-later piece first pieces less, differs)
            (ap (λ (rest : List (Interval × V)). first ∷ rest)
            (without_start-with_piece n (first.0.first + 1) piece pieces ascending.2
            (λ other found. elsewhere other (Contains-tail first pieces other found))))
        | inr reaches ↦ elim (cases_lt piece.0.first first.0.first) [
          | inl more ↦
              let same : (piece.0.first == piece.0.first) ≡ true = grind (arith, nat_tests) in
              rw (
                with_piece-first n piece (first ∷ pieces)
                    (omega (arith, more), ascending.1, ascending.2),
                same,
              )
              (ascending-all (λ start. not (start == piece.0.first)) n first.0.first (first ∷ pieces)
              (omega arith, ascending.1, ascending.2)
              (λ start from. grind (arith, nat_tests, from, more)))
          | inr less ↦ absurd (elsewhere first (Contains-head first pieces) (omega (arith, reaches, less)))
        ]
      ]

  -- Two tests may change places.
  pub starting-swap : (outer inner : ℕ → Bool) (pieces : List (Interval × V))
      → pieces_starting outer (pieces_starting inner pieces)
      ≡ pieces_starting inner (pieces_starting outer pieces)
  starting-swap outer inner pieces =
      starting-starting outer inner (λ start. inner start && outer start) pieces (λ start. refl)
      ∙ sym (starting-starting inner outer (λ start. inner start && outer start) pieces
      (λ start. grind (arith, outer start, inner start)))

  -- If the inserted piece passes a test, the test may be applied before the insertion.
  pub starting-with_piece : (test : ℕ → Bool) (piece : Interval × V) (pieces : List (Interval × V))
      → test piece.0.first ≡ true → pieces_starting test (with_piece piece pieces)
      ≡ with_piece piece (pieces_starting test pieces)
  starting-with_piece test piece pieces passes =
      filter-append (λ (each : Interval × V). test each.0.first) (pieces_below piece.0.first pieces)
      (piece ∷ pieces_past piece.0.first pieces)
      ∙ rw passes (λ i. starting-swap test (λ start. nat_lt start piece.0.first) pieces i
      ++ piece ∷ starting-swap test (λ start. nat_lt piece.0.first start) pieces i)

  -- If the inserted piece and all starts past it fail a test, the insertion does not change which pieces
  -- pass.
  pub starting-with_piece_not : (test : ℕ → Bool) (piece : Interval × V) (pieces : List (Interval × V))
      → test piece.0.first ≡ false → ((start : ℕ) → piece.0.first < start → test start ≡ false)
      → pieces_starting test (with_piece piece pieces) ≡ pieces_starting test pieces
  starting-with_piece_not test piece pieces fails above =
      filter-append (λ (each : Interval × V). test each.0.first) (pieces_below piece.0.first pieces)
      (piece ∷ pieces_past piece.0.first pieces)
      ∙ rw fails (λ i. starting-starting test (λ start. nat_lt start piece.0.first) test pieces
      (λ start. elim (cases_lt start piece.0.first) [
        | inl less ↦
            let is : nat_lt start piece.0.first ≡ true = grind (arith, nat_tests, less) in rw is refl
        | inr reaches ↦ elim (cases_lt piece.0.first start) [
          | inl more ↦ let none = above start more in grind (arith, none)
          | inr same ↦
              let is : start ≡ piece.0.first = omega (arith, reaches, same) in
              let none = ap test is ∙ fails in grind (arith, none)
        ]
      ]) i
      ++ starting-starting test (λ start. nat_lt piece.0.first start) (λ start. false) pieces
      (λ start. elim (cases_lt piece.0.first start) [
        | inl more ↦ let none = above start more in grind (arith, none)
        | inr less ↦
            let not_past : nat_lt piece.0.first start ≡ false = grind (arith, nat_tests, less) in
            rw not_past refl
      ]) i)
      ∙ ap (λ (rest : List (Interval × V)). pieces_starting test pieces ++ rest) (starting-none pieces)
      ∙ append-nil (pieces_starting test pieces)
    where
      -- No piece passes a test that always fails.
      starting-none : (items : List (Interval × V)) → pieces_starting (λ start. false) items ≡ []
      starting-none [] = refl
      starting-none (item ∷ items) = starting-none items
