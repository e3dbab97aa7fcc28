-- A run that lies past all pieces, joined with the last of them.
use Rattle.std.proofs.Common.{◌≡◌, ℕ, false, nat_lt, ◌+◌, ◌-◌, ◌<◌, ◌≤◌, cond, List, [], ◌∷◌, ◌++◌, Some, None, refl, sym, ap, ◌∙◌, inl, inr, arith, subst}
use Rattle.std.specs.List.{Contains}
use Rattle.std.proofs.lemmas.Bool.{cases_lt}
use Rattle.std.proofs.lemmas.Bool.Decides.{nat_tests}
use Rattle.std.proofs.lemmas.Option.{none-some}
use Rattle.std.proofs.lemmas.List.Elements.{Contains-append_right}
use Rattle.rsb_integer.specs.Runs.{Interval, from_to}
use Rattle.rsb_integer.proofs.lemmas.List.{Contains-head, Contains-tail}
use Rattle.rsb_integer.proofs.lemmas.Members.{covers-bounds, covers-inside}
use Rattle.rsb_storage.specs.Starts.{EndsWith}
use Rattle.range_map_blaze.specs.Ends.{IsStartPast}
use Rattle.range_map_blaze.specs.Map.{value_at, IsJoinedEnd, IsMapIn}
use Rattle.range_map_blaze.specs.Parts.{after, before}
use Rattle.range_map_blaze.specs.Storage.{pieces_below, pieces_past, with_piece}
use Rattle.range_map_blaze.proofs.lemmas.Contained.{contained-maximal, found-piece}
use Rattle.range_map_blaze.proofs.lemmas.Cuts.{before-all, before-below, pieces-one, starting-none}
use Rattle.range_map_blaze.proofs.lemmas.Joined.{joined-start}
use Rattle.range_map_blaze.proofs.lemmas.Parted.{after-later, after-value, is-less}
use Rattle.range_map_blaze.proofs.lemmas.Splits.{ends-last}
use Rattle.range_map_blaze.proofs.lemmas.Starts.{starting-all, starting-contains}
use Rattle.range_map_blaze.proofs.lemmas.Windows.{starting-agree}

module _ {V : Type 0} where
  -- If all pieces end at or below a rank, nothing is left past it.
  after-nothing : (rank : ℕ) (pieces : List (Interval × V))
      → ((piece : Interval × V) → Contains pieces piece → piece.0.last ≤ rank) → after rank pieces ≡ []
  after-nothing rank [] ends = refl
  after-nothing rank (piece ∷ pieces) ends =
      after-later rank piece pieces (ends piece (Contains-head piece pieces))
      ∙ after-nothing rank pieces (λ other found. ends other (Contains-tail piece pieces other found))

  -- If no piece starts past a rank, no piece is among those that do.
  past-nothing : (rank : ℕ) (pieces : List (Interval × V))
      → ((piece : Interval × V) → Contains pieces piece → piece.0.first ≤ rank) → pieces_past rank pieces ≡ []
  past-nothing rank pieces starts =
      starting-agree (λ start. nat_lt rank start) (λ start. false) pieces
      (λ piece found. let low = starts piece found in grind (arith, nat_tests, low))
      ∙ starting-none pieces

  -- There are no pieces.
  pub past-empty : (pieces : List (Interval × V)) (start : ℕ) (value : V) → pieces ≡ []
      → IsStartPast pieces start value start
  past-empty pieces start value none =
      subst (λ list. IsStartPast list start value start) (sym none) (record {
        joins = record {
          below = omega arith;
          same = λ rank from less. absurd (omega (arith, from, less));
          apart = λ above at. none-some value at;
        };
        below = refl;
        none_past = refl;
        none_after = λ rank from. refl;
      })

module _ {V : Type 0} (n : ℕ) (pieces : List (Interval × V)) (canonical : IsMapIn n pieces)
    (last : Interval × V) (is : EndsWith pieces last) where
  among : Contains pieces last
  among =
      subst (λ (items : List (Interval × V)). Contains items last) (sym is.parts)
      (Contains-append_right is.front (last ∷ []) last (Contains-head last []))

  order : (piece : Interval × V) → Contains pieces piece → piece.0.first ≤ piece.0.last
  order piece found = (contained-maximal n 0 pieces piece canonical found).in_order

  -- All pieces end where the last one does, or before.
  ends : (piece : Interval × V) → Contains pieces piece → piece.0.last ≤ last.0.last
  ends piece found =
      ends-last n pieces canonical 0 is.front last piece (subst (IsMapIn n) is.parts canonical)
      (subst (λ (items : List (Interval × V)). Contains items piece) is.parts found)

  -- The last piece is within the type.
  pub last-within : last.0.last < n
  last-within = (contained-maximal n 0 pieces last canonical among).in_type

  module _ (start : ℕ) (past : last.0.last < start) where
    none-after : (rank : ℕ) → start ≤ rank → after rank pieces ≡ []
    none-after rank from =
        after-nothing rank pieces
        (λ piece found. let end = ends piece found in omega (arith, end, past, from))

    -- The last piece ends right below the start, and has the value.
    pub past-joined : (value : V) → start ≤ last.0.last + 1 → last.1 ≡ value
        → IsStartPast pieces start value last.0.first
    past-joined value touches same = record {
      joins = joined-start n pieces start last.0.last value last (record {
        maximal = contained-maximal n 0 pieces last canonical among;
        around = covers-inside last.0 last.0.last (order last among) (omega arith);
      }) (omega (arith, touches, past)) same;
      below =
          sym (before-all last.0.first (pieces_below last.0.first pieces) lower)
          ∙ before-below n 0 last.0.first pieces canonical;
      none_past = past-nothing last.0.first pieces starts;
      none_after = none-after;
    }
      where
        starts : (piece : Interval × V) → Contains pieces piece → piece.0.first ≤ last.0.first
        starts piece found = elim (cases_lt last.0.first piece.0.first) [
          | inl more ↦
              let here = order piece found in
              let end = ends piece found in
              let one = pieces-one n pieces piece.0.first last piece canonical among found
              (omega (arith, more)) (omega (arith, here, end)) (omega arith) here in
              let first = ap (λ (each : Interval × V). each.0.first) one in
              omega (arith, first)
          | inr most ↦ most
        ]

        lower : (piece : Interval × V) → Contains (pieces_below last.0.first pieces) piece
            → piece.0.last < last.0.first
        lower piece found =
            let has = starting-contains (λ rank. nat_lt rank last.0.first) pieces piece found in
            let less : piece.0.first < last.0.first = grind (arith, nat_tests, has.1) in
            elim (cases_lt piece.0.last last.0.first) [
              | inl below ↦ below
              | inr over ↦
                  let one = pieces-one n pieces last.0.first piece last canonical has.0 among
                  (omega (arith, less)) over (omega arith) (order last among) in
                  let first = ap (λ (each : Interval × V). each.0.first) one in
                  absurd (omega (arith, first, less))
            ]

    -- It does not touch the start, or has another value.
    pub past-apart : (value : V) → (last.0.last + 1 ≡ start → last.1 ≡ value → ⊥)
        → IsStartPast pieces start value start
    past-apart value differs = record {
      joins = record {
        below = omega arith;
        same = λ rank from less. absurd (omega (arith, from, less));
        apart = apart;
      };
      below =
          starting-all (λ rank. nat_lt rank start) pieces
          (λ piece found.
          let here = order piece found in
          let end = ends piece found in
          grind (arith, nat_tests, here, end, past))
          ∙ sym (before-all start pieces
          (λ piece found. let end = ends piece found in omega (arith, end, past)));
      none_past = past-nothing start pieces
          (λ piece found.
          let here = order piece found in
          let end = ends piece found in
          omega (arith, here, end, past));
      none_after = none-after;
    }
      where
        apart : 0 < start → value_at pieces (start - 1) ≡ Some value → ⊥
        apart above at =
            let found = found-piece pieces (start - 1) value at in
            let high = (covers-bounds found.0.0 (start - 1) found.2).1 in
            let end = ends found.0 found.1 in
            let one = pieces-one n pieces (start - 1) found.0 last canonical found.1 among
            ((covers-bounds found.0.0 (start - 1) found.2).0) high
            (let low = order last among in omega (arith, low, past, above)) (omega (arith, high, end)) in
            differs (omega (arith, above, high, end, past))
            (sym (ap (λ (each : Interval × V). each.1) one) ∙ found.3)

module _ {V : Type 0} (n : ℕ) (pieces : List (Interval × V)) (canonical : IsMapIn n pieces)
    (start end joined : ℕ) (value : V) (is : IsStartPast pieces start value joined) (order : start ≤ end)
    (in_type : end < n) where
  -- The run ends where it does, since no key lies past it.
  pub past-end : IsJoinedEnd n pieces end value end
  past-end = record {
    above = omega arith;
    in_type = in_type;
    same = λ rank above to. absurd (omega (arith, above, to));
    apart = λ at.
        none-some value (ap (λ list. value_at list (end + 1)) (sym (is.none_after end order))
        ∙ after-value n 0 end pieces (end + 1) canonical
        ∙ ap (λ test. cond test (value_at pieces (end + 1)) None) (is-less end (end + 1) (omega arith))
        ∙ at);
  }

  -- Once it is put, the pieces are those below its start, and the run.
  pub past-put : with_piece (from_to joined end, value) pieces
      ≡ before joined pieces ++ (from_to joined end, value) ∷ after end pieces
  past-put =
      λ i. is.below i ++ (from_to joined end, value) ∷ (is.none_past ∙ sym (is.none_after end order)) i
