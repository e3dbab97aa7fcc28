-- A key that is taken from the front or the back of the pieces that are left.
use Rattle.std.proofs.Common.{◌≡◌, ℕ, Bool, true, false, cond, not, ◌&&◌, ◌+◌, ◌-◌, ◌<◌, ◌≤◌, List, [], ◌∷◌, ◌++◌, append_assoc, Option, Some, None, refl, sym, ap, ◌∙◌, inl, inr, arith, subst}
use Rattle.std.specs.Iterator.{MakesProgress, at_most}
use Rattle.std.specs.Option.{is_some}
use Rattle.std.specs.Prelude.{⊤}
use Rattle.std.proofs.lemmas.Bool.{cases_lt}
use Rattle.std.proofs.lemmas.Bool.Decides.{nat_tests}
use Rattle.rsb_integer.specs.Runs.{Interval, from_to}
use Rattle.rsb_integer.specs.Selection.{Selection, count}
use Rattle.rsb_integer.proofs.lemmas.Count.{count-less}
use Rattle.rsb_integer.proofs.lemmas.List.{not_both}
use Rattle.rsb_storage.specs.Set.{only, IsGreatest, IsLeast}
use Rattle.rsb_storage.specs.Starts.{EndsWith, StartsWith}
use Rattle.range_set_blaze.specs.BothEnds.{Takes}
use Rattle.range_map_blaze.specs.Elements.{cut_first, cut_last, TakesPair}
use Rattle.range_map_blaze.specs.Map.{keys, value_at, IsMapFrom, IsMapIn, IsWithout}
use Rattle.range_map_blaze.specs.Parts.{after, before}
use Rattle.range_map_blaze.proofs.lemmas.Parted.{after-cut, after-later, after-map, after-value, after-whole, before-cut, before-map, before-none, before-value, before-whole, is-less, is-not-less, map-wider}
use Rattle.range_map_blaze.proofs.lemmas.Splits.{first-at, greatest-key, last-at, least-key}
use Rattle.range_map_blaze.proofs.lemmas.Values.{map-first, map-lower, value-below}

module _ {V : Type 0} where
  -- ---- what is left is the part past the first key, or below the last one

  -- All of a canonical list lies past a rank below its start.
  pub after-all : (n low rank : ℕ) (pieces : List (Interval × V)) → IsMapFrom n low pieces → rank < low
      → after rank pieces ≡ pieces
  after-all n low rank [] canonical below = refl
  after-all n low rank (piece ∷ pieces) canonical below =
      let starts = canonical.0 in
      let ordered = canonical.1 in
      after-whole rank piece pieces (omega (arith, starts, ordered, below)) (omega (arith, starts, below))

  -- What is left of a piece of several ranks, or of one.
  first-more : (piece : Interval × V) → piece.0.first < piece.0.last
      → cut_first piece ≡ (from_to (piece.0.first + 1) piece.0.last, piece.1) ∷ []
  first-more piece less = rw (is-less piece.0.first piece.0.last less) refl

  first-none : (piece : Interval × V) → piece.0.last ≤ piece.0.first → cut_first piece ≡ []
  first-none piece most = rw (is-not-less piece.0.first piece.0.last most) refl

  last-more : (piece : Interval × V) → piece.0.first < piece.0.last
      → cut_last piece ≡ (from_to piece.0.first (piece.0.last - 1), piece.1) ∷ []
  last-more piece less = rw (is-less piece.0.first piece.0.last less) refl

  last-none : (piece : Interval × V) → piece.0.last ≤ piece.0.first → cut_last piece ≡ []
  last-none piece most = rw (is-not-less piece.0.first piece.0.last most) refl

  first-after : (n low : ℕ) (piece : Interval × V) (pieces : List (Interval × V))
      → IsMapFrom n low (piece ∷ pieces)
      → cut_first piece ++ pieces ≡ after piece.0.first (piece ∷ pieces)
  first-after n low piece pieces canonical = elim (cases_lt piece.0.first piece.0.last) [
    | inl less ↦
        ap (λ left. left ++ pieces) (first-more piece less)
        ∙ sym (after-cut piece.0.first piece pieces less (omega arith))
    | inr most ↦
        let ordered = canonical.1 in
        ap (λ left. left ++ pieces) (first-none piece most)
        ∙ sym (after-later piece.0.first piece pieces most
        ∙ after-all n (piece.0.last + 1) piece.0.first pieces canonical.4 (omega (arith, ordered)))
  ]

  -- A piece before the last one ends below it.
  earlier-ends : (n low : ℕ) (front : List (Interval × V)) (last : Interval × V)
      → IsMapFrom n low (front ++ last ∷ []) → low ≤ last.0.first
  earlier-ends n low [] last canonical = canonical.0
  earlier-ends n low (piece ∷ front) last canonical =
      let starts = canonical.0 in
      let ordered = canonical.1 in
      let rest = earlier-ends n (piece.0.last + 1) front last canonical.4 in
      omega (arith, starts, ordered, rest)

  last-order : (n low : ℕ) (front : List (Interval × V)) (last : Interval × V)
      → IsMapFrom n low (front ++ last ∷ []) → last.0.first ≤ last.0.last
  last-order n low [] last canonical = canonical.1
  last-order n low (piece ∷ front) last canonical =
      last-order n (piece.0.last + 1) front last canonical.4

  last-before : (n low : ℕ) (front : List (Interval × V)) (last : Interval × V)
      → IsMapFrom n low (front ++ last ∷ [])
      → front ++ cut_last last ≡ before last.0.last (front ++ last ∷ [])
  last-before n low [] last canonical = elim (cases_lt last.0.first last.0.last) [
    | inl less ↦ last-more last less ∙ sym (before-cut last.0.last last [] (omega arith) less)
    | inr most ↦ last-none last most ∙ sym (before-none last.0.last last [] (omega arith) most)
  ]
  last-before n low (piece ∷ front) last canonical =
      let from = earlier-ends n (piece.0.last + 1) front last canonical.4 in
      let order = last-order n (piece.0.last + 1) front last canonical.4 in
      rw (before-whole last.0.last piece (front ++ last ∷ []) (omega (arith, from, order)))
      (ap (λ rest. piece ∷ rest) (last-before n (piece.0.last + 1) front last canonical.4))

  -- ---- what is taken

  -- Nothing is taken from an empty map.
  pub none-taken : {T : Type 0} (rank : T → ℕ) (IsFound : Selection → ℕ → Type 0)
      (old new : List (Interval × V)) → old ≡ [] → new ≡ []
      → TakesPair {T = T} {V = V} rank IsFound old None new
  none-taken rank IsFound old new empty ended = record {
    key = record {
      none = ((λ is point. rw empty refl), (λ is. refl));
      found = tt;
      rest = λ point. rw (empty, ended) refl;
    };
    value = tt;
    rest = λ other has. rw (empty, ended) refl;
  }

  without-key : (test : Bool) (found : Option V)
      → is_some (cond test None found) ≡ (is_some found && not test)
  without-key true None = refl
  without-key true (Some value) = refl
  without-key false None = refl
  without-key false (Some value) = refl

  kept : (test : Bool) (found : Option V) → is_some (cond test None found) ≡ true
      → cond test None found ≡ found
  kept true found has = absurd (cc)
  kept false found has = refl

  -- The pair at a key is taken, if all other keys keep their values.
  pub pair-taken : {T : Type 0} (rank : T → ℕ) (IsFound : Selection → ℕ → Type 0)
      (old new : List (Interval × V)) (pair : T × V) → IsFound (keys old) (rank pair.0)
      → value_at old (rank pair.0) ≡ Some pair.1
      → IsWithout (value_at old) (only (rank pair.0)) (value_at new)
      → TakesPair rank IsFound old (Some pair) new
  pair-taken rank IsFound old new pair found at without = record {
    key = record {
      none = (
        (λ is. absurd (cc)),
        (λ is. absurd (not_both (keys old (rank pair.0)) (ap is_some at) (is (rank pair.0)))),
      );
      found = found;
      rest = λ point. ap is_some (without point)
          ∙ without-key (only (rank pair.0) point) (value_at old point);
    };
    value = at;
    rest = λ other has. without other
        ∙ kept (only (rank pair.0) other) (value_at old other) (sym (ap is_some (without other)) ∙ has);
  }

  -- ---- the first and the last key

  module _ (n : ℕ) (piece : Interval × V) (pieces : List (Interval × V))
      (canonical : IsMapIn n (piece ∷ pieces)) where
    pub first-map : IsMapIn n (cut_first piece ++ pieces)
    first-map =
        subst (IsMapIn n) (sym (first-after n 0 piece pieces canonical))
        (map-lower n (piece.0.first + 1) 0 (after piece.0.first (piece ∷ pieces)) (omega arith)
        (after-map n 0 piece.0.first (piece ∷ pieces) canonical))

    first-without : IsWithout (value_at (piece ∷ pieces)) (only piece.0.first)
        (value_at (cut_first piece ++ pieces))
    first-without other =
        ap (λ list. value_at list other) (first-after n 0 piece pieces canonical)
        ∙ after-value n 0 piece.0.first (piece ∷ pieces) other canonical
        ∙ elim (cases_lt piece.0.first other) [
          | inl past ↦
              let is : only piece.0.first other ≡ false = grind (arith, nat_tests, past) in
              rw (is-less piece.0.first other past, is) refl
          | inr most ↦ rw (is-not-less piece.0.first other most) (elim (cases_lt other piece.0.first) [
            | inl below ↦
                let none = value-below n piece.0.first (piece ∷ pieces) other
                (map-first n 0 piece pieces canonical) below in
                let is : only piece.0.first other ≡ false = grind (arith, nat_tests, below) in
                rw is (sym none)
            | inr same ↦
                let is : only piece.0.first other ≡ true = grind (arith, nat_tests, most, same) in
                rw is refl
          ])
        ]

    -- The pair at the first key is taken.
    pub first-taken : {T : Type 0} (rank : T → ℕ) (key : T) → rank key ≡ piece.0.first
        → TakesPair rank (IsLeast n) (piece ∷ pieces) (Some (key, piece.1)) (cut_first piece ++ pieces)
    first-taken rank key is =
        let starts : StartsWith (piece ∷ pieces) piece = record { rest = pieces; parts = refl } in
        pair-taken rank (IsLeast n) (piece ∷ pieces) (cut_first piece ++ pieces) (key, piece.1)
        (subst (IsLeast n (keys (piece ∷ pieces))) (sym is) (least-key n (piece ∷ pieces) canonical piece starts))
        (ap (value_at (piece ∷ pieces)) is ∙ first-at n (piece ∷ pieces) canonical piece starts)
        (subst (λ at. IsWithout (value_at (piece ∷ pieces)) (only at) (value_at (cut_first piece ++ pieces)))
        (sym is) first-without)

  module _ (n : ℕ) (front : List (Interval × V)) (piece : Interval × V)
      (canonical : IsMapIn n (front ++ piece ∷ [])) where
    ends : EndsWith (front ++ piece ∷ []) piece
    ends = record { front = front; parts = refl }

    in-type : piece.0.last < n
    in-type = (greatest-key n (front ++ piece ∷ []) canonical piece ends).in_type

    pub last-map : IsMapIn n (front ++ cut_last piece)
    last-map =
        let inside = in-type in
        subst (IsMapIn n) (sym (last-before n 0 front piece canonical))
        (map-wider piece.0.last n 0 (before piece.0.last (front ++ piece ∷ [])) (omega (arith, inside))
        (before-map n 0 piece.0.last (front ++ piece ∷ []) canonical))

    last-without : IsWithout (value_at (front ++ piece ∷ [])) (only piece.0.last)
        (value_at (front ++ cut_last piece))
    last-without other =
        ap (λ list. value_at list other) (last-before n 0 front piece canonical)
        ∙ before-value n 0 piece.0.last (front ++ piece ∷ []) other canonical
        ∙ elim (cases_lt other piece.0.last) [
          | inl below ↦
              let is : only piece.0.last other ≡ false = grind (arith, nat_tests, below) in
              rw (is-less other piece.0.last below, is) refl
          | inr most ↦ rw (is-not-less other piece.0.last most) (elim (cases_lt piece.0.last other) [
            | inl past ↦
                let is : only piece.0.last other ≡ false = grind (arith, nat_tests, past) in
                rw is (sym (past-none other past (value_at (front ++ piece ∷ []) other) refl))
            | inr same ↦
                let is : only piece.0.last other ≡ true = grind (arith, nat_tests, most, same) in
                rw is refl
          ])
        ]
      where
        past-none : (rank : ℕ) → piece.0.last < rank → (found : Option V)
            → value_at (front ++ piece ∷ []) rank ≡ found → value_at (front ++ piece ∷ []) rank ≡ None
        past-none rank past None is = is
        past-none rank past (Some value) is =
            let most = (greatest-key n (front ++ piece ∷ []) canonical piece ends).greatest rank (ap is_some is) in
            absurd (omega (arith, past, most))

    -- The pair at the last key is taken.
    pub last-taken : {T : Type 0} (rank : T → ℕ) (key : T) → rank key ≡ piece.0.last
        → TakesPair rank (IsGreatest n) (front ++ piece ∷ []) (Some (key, piece.1)) (front ++ cut_last piece)
    last-taken rank key is =
        pair-taken rank (IsGreatest n) (front ++ piece ∷ []) (front ++ cut_last piece) (key, piece.1)
        (subst (IsGreatest n (keys (front ++ piece ∷ []))) (sym is)
        (greatest-key n (front ++ piece ∷ []) canonical piece ends))
        (ap (value_at (front ++ piece ∷ [])) is ∙ last-at n (front ++ piece ∷ []) canonical piece ends)
        (subst (λ at. IsWithout (value_at (front ++ piece ∷ [])) (only at) (value_at (front ++ cut_last piece)))
        (sym is) last-without)

-- ---- what an iterator takes, whose pieces are known by equations

module _ {T V : Type 0} (rank : T → ℕ) (n : ℕ) (old : List (Interval × V)) (piece : Interval × V)
    (key : T) (canonical : IsMapIn n old) where
  pub took-first : (rest left : List (Interval × V)) → old ≡ piece ∷ rest → left ≡ cut_first piece
      → rank key ≡ piece.0.first
      → TakesPair rank (IsLeast n) old (Some (key, piece.1)) (left ++ rest)
  took-first rest left is cut at =
      subst (λ list. TakesPair rank (IsLeast n) list (Some (key, piece.1)) (left ++ rest)) (sym is)
      (subst (λ part. TakesPair rank (IsLeast n) (piece ∷ rest) (Some (key, piece.1)) (part ++ rest)) (sym cut)
      (first-taken n piece rest (subst (IsMapIn n) is canonical) rank key at))

  module _ (front middle : List (Interval × V)) (is : old ≡ (front ++ middle) ++ piece ∷ []) where
    last-canonical : IsMapIn n ((front ++ middle) ++ piece ∷ [])
    last-canonical = subst (IsMapIn n) is canonical

    pub taken-order : piece.0.first ≤ piece.0.last
    taken-order = last-order n 0 (front ++ middle) piece last-canonical

    pub taken-in_type : piece.0.last < n
    taken-in_type = in-type n (front ++ middle) piece last-canonical

    pub left-map : (left : List (Interval × V)) → left ≡ cut_last piece
        → IsMapIn n (front ++ (middle ++ left))
    left-map left cut =
        subst (IsMapIn n) (append_assoc front middle left)
        (subst (λ part. IsMapIn n ((front ++ middle) ++ part)) (sym cut)
        (last-map n (front ++ middle) piece last-canonical))

    pub took-last : (left : List (Interval × V)) → left ≡ cut_last piece → rank key ≡ piece.0.last
        → TakesPair rank (IsGreatest n) old (Some (key, piece.1)) (front ++ (middle ++ left))
    took-last left cut at =
        subst (λ list. TakesPair rank (IsGreatest n) list (Some (key, piece.1)) (front ++ (middle ++ left))) (sym is)
        (subst (λ list. TakesPair rank (IsGreatest n) ((front ++ middle) ++ piece ∷ []) (Some (key, piece.1)) list)
        (append_assoc front middle left)
        (subst (λ part. TakesPair rank (IsGreatest n) ((front ++ middle) ++ piece ∷ []) (Some (key, piece.1))
        ((front ++ middle) ++ part)) (sym cut)
        (last-taken n (front ++ middle) piece last-canonical rank key at)))

-- ---- progress

-- A call that takes a key makes progress, whatever it returns.
pub keys-go : {V X T : Type 0} {rank : T → ℕ} {n : ℕ} {IsFound : Selection → ℕ → Type 0}
    {old new : List (Interval × V)} (item : Option X) (key : Option T) → is_some item ≡ is_some key
    → ((point : ℕ) → IsFound (keys old) point → (point < n) × (keys old point ≡ true))
    → Takes rank IsFound (keys old) key (keys new)
    → MakesProgress (λ (_ : List (Interval × V)). ⊤) (λ pieces. at_most (count n (keys pieces))) old item new
keys-go None key some member takes = record { on = λ finite. tt; keeps = tt; rests = λ finite. tt }
keys-go (Some item) None some member takes = absurd (cc)
keys-go {rank = rank} {n = n} {old = old} {new = new} (Some item) (Some key) some member takes =
    let here = member (rank key) takes.found in
    let less = count-less n (keys new) (keys old)
    (λ other is. grind (arith, takes.rest other, is)) (rank key) here.0 here.1
    (grind (arith, nat_tests, takes.rest (rank key))) in
    record { on = λ finite. (tt, tt, less); keeps = tt; rests = λ finite. tt }
