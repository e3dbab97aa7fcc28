-- The pieces between two ranks, where the first and the last of them may be cut.
use Rattle.std.proofs.Common.{◌≡◌, ℕ, zero, suc, Bool, true, false, min, nat_le, nat_lt, ◌+◌, ◌-◌, ◌<◌, ◌≤◌, cond, List, [], ◌∷◌, ◌++◌, append-nil, append_assoc, Option, Some, None, refl, sym, ap, ◌∙◌, inl, inr, arith, subst}
use Rattle.std.specs.List.{Contains}
use Rattle.std.specs.Prelude.{IfSome, MatchOption}
use Rattle.std.proofs.lemmas.Bool.{cases_lt}
use Rattle.std.proofs.lemmas.Bool.Decides.{nat_tests}
use Rattle.std.proofs.lemmas.List.Elements.{filter-append, Contains-append_right}
use Rattle.rsb_integer.specs.Runs.{Interval, covers, from_to}
use Rattle.rsb_integer.proofs.lemmas.List.{Contains-head, Contains-tail}
use Rattle.rsb_integer.proofs.lemmas.Members.{covers-inside, covers-outside}
use Rattle.rsb_storage.specs.Storage.{run_of}
use Rattle.range_map_blaze.specs.Elements.{held, pieces_left, HasTakenLast}
use Rattle.range_map_blaze.specs.Ends.{from_rank}
use Rattle.range_map_blaze.specs.Map.{value_at, IsMapFrom, IsMapIn, IsPieceAround, IsWithin}
use Rattle.range_map_blaze.specs.Parts.{after, before}
use Rattle.range_map_blaze.specs.Storage.{pieces_below, pieces_from, pieces_of, pieces_past, pieces_starting}
use Rattle.range_map_blaze.specs.declared.pieces.Piece.{Piece}
use Rattle.range_map_blaze.proofs.lemmas.Contained.{contained-from, contained-maximal}
use Rattle.range_map_blaze.proofs.lemmas.Cuts.{after-over, before-below, below-map, pieces-one}
use Rattle.range_map_blaze.proofs.lemmas.Joined.{past-none, past-starts}
use Rattle.range_map_blaze.proofs.lemmas.Parted.{after-map, after-value, before-cut, before-map, before-value, before-whole, is-less, is-not-less, map-wider}
use Rattle.range_map_blaze.proofs.lemmas.Starts.{starting-all, starting-contains}
use Rattle.range_map_blaze.proofs.lemmas.Values.{map-lower}

module _ {V : Type 0} where
  -- Two tests that agree at the starts of the pieces keep the same pieces.
  pub starting-agree : (test other : ℕ → Bool) (pieces : List (Interval × V))
      → ((piece : Interval × V) → Contains pieces piece → test piece.0.first ≡ other piece.0.first)
      → pieces_starting test pieces ≡ pieces_starting other pieces
  starting-agree test other [] same = refl
  starting-agree test other (piece ∷ pieces) same =
      let here = same piece (Contains-head piece pieces) in
      let rest = starting-agree test other pieces
      (λ each found. same each (Contains-tail piece pieces each found)) in
      λ i. cond (here i) (piece ∷ rest i) (rest i)

  -- ---- the part from a rank on

  -- It is canonical.
  pub from-map : (n rank : ℕ) (pieces : List (Interval × V)) → IsMapIn n pieces
      → IsMapIn n (from_rank rank pieces)
  from-map n zero pieces canonical = canonical
  from-map n (suc rank) pieces canonical =
      map-lower n (rank + 1) 0 (after rank pieces) (omega arith) (after-map n 0 rank pieces canonical)

  -- It has what the map has from the rank on, and nothing else.
  pub from-value : (n rank : ℕ) (pieces : List (Interval × V)) (other : ℕ) → IsMapIn n pieces
      → value_at (from_rank rank pieces) other ≡ cond (nat_le rank other) (value_at pieces other) None
  from-value n zero pieces other canonical =
      let is : nat_le 0 other ≡ true = grind (arith, nat_tests) in rw is refl
  from-value n (suc rank) pieces other canonical =
      let is : nat_lt rank other ≡ nat_le (suc rank) other = grind (arith, nat_tests) in
      after-value n 0 rank pieces other canonical
      ∙ ap (λ test. cond test (value_at pieces other) None) is

  -- The part from the least rank on is the whole list.
  pub from-least : (rank : ℕ) (pieces : List (Interval × V)) → rank ≡ 0
      → pieces_from rank pieces ≡ from_rank rank pieces
  from-least rank pieces least =
      subst (λ low. pieces_from low pieces ≡ from_rank low pieces) (sym least)
      (starting-all (λ start. nat_le 0 start) pieces (λ piece found. grind (arith, nat_tests)))

  module _ (n end next : ℕ) (pieces : List (Interval × V)) (canonical : IsMapIn n pieces)
      (is : end + 1 ≡ next) where
    from-next : from_rank next pieces ≡ after end pieces
    from-next =
        let here : next ≡ suc end = omega (arith, is) in ap (λ rank. from_rank rank pieces) here

    starts-past : pieces_from next pieces ≡ pieces_past end pieces
    starts-past =
        starting-agree (λ start. nat_le next start) (λ start. nat_lt end start) pieces
        (λ piece found. grind (arith, nat_tests, is))

    -- If the rank has no value, or its piece starts there, that part has the pieces that start there.
    pub from-none : value_at pieces next ≡ None → pieces_from next pieces ≡ from_rank next pieces
    from-none none =
        starts-past ∙ past-none n pieces end next canonical (omega (arith, is)) none ∙ sym from-next

    pub from-starts : (piece : Interval × V) → IsPieceAround n (value_at pieces) next piece
        → next ≤ piece.0.first → pieces_from next pieces ≡ from_rank next pieces
    from-starts piece around starts =
        starts-past ∙ past-starts n pieces end next piece canonical (omega (arith, is)) around starts
        ∙ sym from-next

    -- If a piece extends over the rank, that part begins with what is left of the piece.
    pub from-over : (piece : Interval × V) → Contains pieces piece → piece.0.first < next
        → next ≤ piece.0.last
        → (from_to next piece.0.last, piece.1) ∷ pieces_from next pieces ≡ from_rank next pieces
    from-over piece found starts over =
        (λ i. (from_to (sym is i) piece.0.last, piece.1) ∷ later i)
        ∙ sym (after-over n 0 end pieces piece canonical found (omega (arith, is, starts))
        (omega (arith, is, over)))
        ∙ sym from-next
      where
        later : pieces_from next pieces ≡ pieces_past (end + 1) pieces
        later =
            starting-agree (λ start. nat_le next start) (λ start. nat_lt (end + 1) start) pieces
            (λ other also. elim (cases_lt other.0.first next) [
              | inl less ↦ grind (arith, nat_tests, is, less)
              | inr most ↦ elim (cases_lt next other.0.first) [
                | inl more ↦ grind (arith, nat_tests, is, more)
                | inr to ↦
                    let order = (contained-maximal n 0 pieces other canonical also).in_order in
                    let same = pieces-one n pieces next piece other canonical found also
                    (omega (arith, starts)) over to (omega (arith, most, order)) in
                    let first = ap (λ (each : Interval × V). each.0.first) same in
                    absurd (omega (arith, first, starts, most))
              ]
            ])

  -- ---- the last piece, without what lies past a rank

  pub before-last : (n low end : ℕ) (front : List (Interval × V)) (last : Interval × V)
      → IsMapFrom n low (front ++ last ∷ []) → last.0.first ≤ end
      → before (end + 1) (front ++ last ∷ [])
      ≡ front ++ (from_to last.0.first (min last.0.last end), last.1) ∷ []
  before-last n low end [] last canonical starts = elim (cases_lt last.0.last (end + 1)) [
    | inl below ↦
        let is : last.0.last ≡ min last.0.last end = grind (arith, below) in
        before-whole (end + 1) last [] below
        ∙ λ i. (from_to last.0.first (is i), last.1) ∷ []
    | inr over ↦
        let is : end + 1 - 1 ≡ min last.0.last end = grind (arith, over) in
        before-cut (end + 1) last [] over (omega (arith, starts))
        ∙ λ i. (from_to last.0.first (is i), last.1) ∷ []
  ]
  before-last n low end (piece ∷ front) last canonical starts =
      let from = contained-from n (piece.0.last + 1) (front ++ last ∷ []) last canonical.4
      (Contains-append_right front (last ∷ []) last (Contains-head last [])) in
      before-whole (end + 1) piece (front ++ last ∷ []) (omega (arith, from, starts))
      ∙ ap (λ (rest : List (Interval × V)). piece ∷ rest)
      (before-last n (piece.0.last + 1) end front last canonical.4 starts)

module _ {V : Type 0} (n : ℕ) (pieces : List (Interval × V)) (canonical : IsMapIn n pieces)
    (first last : ℕ) (order : first ≤ last) (in_type : last < n) where
  -- ---- the window from `first` to `last`

  -- It is canonical.
  pub window-map : IsMapIn n (before (last + 1) (from_rank first pieces))
  window-map =
      map-wider (last + 1) n 0 (before (last + 1) (from_rank first pieces)) (omega (arith, in_type))
      (before-map n 0 (last + 1) (from_rank first pieces) (from-map n first pieces canonical))

  -- It has what the map has there, and nothing else.
  pub window-value : IsWithin (value_at pieces) (covers (from_to first last))
      (value_at (before (last + 1) (from_rank first pieces)))
  window-value other =
      before-value n 0 (last + 1) (from_rank first pieces) other (from-map n first pieces canonical)
      ∙ ap (λ found. cond (nat_lt other (last + 1)) found None)
      (from-value n first pieces other canonical)
      ∙ elim (cases_lt other first) [
        | inl less ↦
            let is : nat_le first other ≡ false = grind (arith, nat_tests, less) in
            rw (
              covers-outside (from_to first last) other (inl less),
              is-less other (last + 1) (omega (arith, less, order)),
              is,
            ) refl
        | inr from ↦
            let is : nat_le first other ≡ true = grind (arith, nat_tests, from) in
            elim (cases_lt last other) [
              | inl past ↦
                  rw (
                    covers-outside (from_to first last) other (inr past),
                    is-not-less other (last + 1) (omega (arith, past)),
                  ) refl
              | inr to ↦
                  rw (
                    covers-inside (from_to first last) other from to,
                    is-less other (last + 1) (omega (arith, to)),
                    is,
                  ) refl
            ]
      ]

  -- The piece that reaches in, if there is one, and the pieces that start in the window are the part
  -- from its start on that starts in it.
  module _ (held starting : List (Interval × V))
      (reaches : held ++ pieces_from first pieces ≡ from_rank first pieces)
      (starts : pieces_starting (λ start. nat_lt start (last + 1)) held ≡ held)
      (within : starting ≡ pieces_below (last + 1) (pieces_from first pieces)) where
    window-starts : held ++ starting ≡ pieces_below (last + 1) (from_rank first pieces)
    window-starts =
        (λ i. sym starts i ++ within i)
        ∙ sym (filter-append (λ (each : Interval × V). nat_lt each.0.first (last + 1)) held
        (pieces_from first pieces))
        ∙ ap (pieces_below (last + 1)) reaches

    -- Without what lies past the window, they are the window.
    pub window-none : held ++ starting ≡ [] → before (last + 1) (from_rank first pieces) ≡ []
    window-none none =
        sym (before-below n 0 (last + 1) (from_rank first pieces) (from-map n first pieces canonical))
        ∙ ap (before (last + 1)) (sym window-starts ∙ none)

    pub window-some : (front : List (Interval × V)) (piece : Interval × V)
        → held ++ starting ≡ front ++ piece ∷ []
        → before (last + 1) (from_rank first pieces)
        ≡ front ++ (from_to piece.0.first (min piece.0.last last), piece.1) ∷ []
    window-some front piece is =
        let whole = from-map n first pieces canonical in
        let among : Contains (pieces_below (last + 1) (from_rank first pieces)) piece =
        subst (λ (items : List (Interval × V)). Contains items piece) (sym is ∙ window-starts)
        (Contains-append_right front (piece ∷ []) piece (Contains-head piece [])) in
        let starts_there = (starting-contains (λ start. nat_lt start (last + 1)) (from_rank first pieces) piece
        among).1 in
        sym (before-below n 0 (last + 1) (from_rank first pieces) whole)
        ∙ ap (before (last + 1)) (sym window-starts ∙ is)
        ∙ before-last n 0 last front piece
        (subst (IsMapIn n) (sym window-starts ∙ is)
        (below-map n 0 (last + 1) (from_rank first pieces) whole))
        (grind (arith, nat_tests, starts_there))

-- ---- the same for the pieces that a walk holds

module _ {T V : Type 0} (rank : T → ℕ) (seen : V → V) (last : ℕ) where
  -- A piece that starts at or before `last` starts before the next rank.
  pub held-starts : (front : Option (Piece T V)) (start : T) → IfSome front (λ piece. piece.run.start ≡ start)
      → rank start ≤ last
      → pieces_starting (λ each. nat_lt each (last + 1)) (held rank seen front) ≡ held rank seen front
  held-starts None start same order = refl
  held-starts (Some piece) start same order =
      let at = ap rank same in
      let is : nat_lt (rank piece.run.start) (last + 1) ≡ true = grind (arith, nat_tests, at, order) in
      rw is refl

  module _ (n first : ℕ) (pieces : List (Interval × V)) (canonical : IsMapIn n pieces)
      (order : first ≤ last) (in_type : last < n) (front : Option (Piece T V))
      (entries : List (T × (T × V)))
      (reaches : held rank seen front ++ pieces_from first pieces ≡ from_rank first pieces)
      (starts : pieces_starting (λ each. nat_lt each (last + 1)) (held rank seen front)
      ≡ held rank seen front)
      (within : pieces_of rank seen entries ≡ pieces_below (last + 1) (pieces_from first pieces))
      (left : Option (Piece T V)) (rest : List (T × (T × V))) (back : Option (Piece T V)) where
    no_back : pieces_left rank seen front entries None ≡ held rank seen front ++ pieces_of rank seen entries
    no_back = ap (λ list. held rank seen front ++ list) (append-nil (pieces_of rank seen entries))

    -- Once the last piece was taken and put back without what lies past the window, they are the
    -- window.
    pub window-left : (taken : Option (Piece T V)) → HasTakenLast rank seen front entries None taken left rest
        → MatchOption taken (held rank seen back ≡ [])
        (λ piece. held rank seen back
        ≡ (from_to (rank piece.run.start) (min (rank piece.run.end) last), seen piece.value.now) ∷ [])
        → pieces_left rank seen left rest back ≡ before (last + 1) (from_rank first pieces)
    window-left None took none =
        sym (append_assoc (held rank seen left) (pieces_of rank seen rest) (held rank seen back))
        ∙ (λ i. took.1 i ++ none i)
        ∙ sym (window-none n pieces canonical first last order in_type (held rank seen front)
        (pieces_of rank seen entries) reaches starts within (sym no_back ∙ took.0))
    window-left (Some piece) took cut =
        sym (append_assoc (held rank seen left) (pieces_of rank seen rest) (held rank seen back))
        ∙ ap (λ list. (held rank seen left ++ pieces_of rank seen rest) ++ list) cut
        ∙ sym (window-some n pieces canonical first last order in_type (held rank seen front)
        (pieces_of rank seen entries) reaches starts within (held rank seen left ++ pieces_of rank seen rest)
        (run_of rank piece.run, seen piece.value.now) (sym no_back ∙ took))
