-- Pieces of items that hold together, and their spans.
use Rattle.std.proofs.Common.{◌≡◌, ◌⊎◌, ℕ, ◌≤◌, Bool, true, false, ◌||◌, min, max, List, [], ◌∷◌, ◌++◌, append_assoc, refl, sym, ap, ◌∙◌, subst, inl, inr, arith}
use Rattle.std.proofs.lemmas.Bool.{cases_lt}
use Rattle.std.proofs.lemmas.Bool.Decides.{nat_tests}
use Rattle.std.proofs.lemmas.List.{append-nil}
use Rattle.std.proofs.lemmas.List.Elements.{All-cons, All-contains, All-head, All-nil, All-push, All-tail, All-weaker, Contains-append_left, Contains-push}
use Rattle.std.specs.List.{All, Contains}
use Rattle.rsb_integer.specs.Runs.{Interval, covers, members, HasRanks}
use Rattle.rsb_integer.proofs.lemmas.List.{Contains-head}
use Rattle.rsb_integer.proofs.lemmas.Members.{members-append, members-cons, same_interval}
use Rattle.rsb_streams.specs.UnsortedDisjoint.{HoldsTogether, IsPiece, IsSpan, Meet}

-- ---- spans

-- An empty list has no span.
pub span-some : (span : Interval) → ¬ (IsSpan [] span)
span-some span is = let none = is.starts.1.1 in absurd (omega arith)

-- A list has at most one span.
pub span-same : (items : List Interval) (span other : Interval) → IsSpan items span
    → IsSpan items other → span ≡ other
span-same items span other is also =
    let low = All-contains (λ (item : Interval). span.first ≤ item.first) items also.starts.0
    is.least also.starts.1 in
    let low_other = All-contains (λ (item : Interval). other.first ≤ item.first) items is.starts.0
    also.least is.starts.1 in
    let high = All-contains (λ (item : Interval). item.last ≤ span.last) items also.ends.0
    is.greatest also.ends.1 in
    let high_other = All-contains (λ (item : Interval). item.last ≤ other.last) items is.ends.0
    also.greatest is.ends.1 in
    same_interval span other
    (omega (arith, low, low_other, is.starts.2, also.starts.2))
    (omega (arith, high, high_other, is.ends.2, also.ends.2))

-- The span of a single item is the item.
pub span-one : (item : Interval) → IsSpan (item ∷ []) item
span-one item = record {
  starts = (item, Contains-head item [], refl);
  ends = (item, Contains-head item [], refl);
  least = All-cons (λ (each : Interval). item.first ≤ each.first) item [] (omega arith)
      (All-nil (λ (each : Interval). item.first ≤ each.first));
  greatest = All-cons (λ (each : Interval). each.last ≤ item.last) item [] (omega arith)
      (All-nil (λ (each : Interval). each.last ≤ item.last));
}

-- A list with one more item.
module _ (items : List Interval) (span item whole : Interval) (is : IsSpan items span)
    (first : whole.first ≡ min span.first item.first) (last : whole.last ≡ max span.last item.last) where
  -- The least start is that of the item, or of one of the others.
  push-starts : (start : Interval) × Contains (items ++ item ∷ []) start
      × (start.first ≡ whole.first)
  push-starts = elim (cases_lt item.first span.first) [
    | inl lower ↦ (item, Contains-push items item, omega arith)
    | inr higher ↦ (
      is.starts.0,
      Contains-append_left items (item ∷ []) is.starts.0 is.starts.1,
      omega (arith, is.starts.2),
    )
  ]

  -- The greatest end is that of the item, or of one of the others.
  push-ends : (end : Interval) × Contains (items ++ item ∷ []) end × (end.last ≡ whole.last)
  push-ends = elim (cases_lt span.last item.last) [
    | inl higher ↦ (item, Contains-push items item, omega arith)
    | inr lower ↦ (
      is.ends.0,
      Contains-append_left items (item ∷ []) is.ends.0 is.ends.1,
      omega (arith, is.ends.2),
    )
  ]

  -- The span is from the lesser start to the greater end of the old span and the item.
  pub span-push : IsSpan (items ++ item ∷ []) whole
  span-push =
      let low : whole.first ≤ span.first = omega arith in
      let high : span.last ≤ whole.last = omega arith in
      record {
        starts = push-starts;
        ends = push-ends;
        least = All-push (λ (each : Interval). whole.first ≤ each.first) items item
            (All-weaker (λ (each : Interval). span.first ≤ each.first)
            (λ (each : Interval). whole.first ≤ each.first) (λ each least. omega (arith, low, least))
            items is.least) (omega arith);
        greatest = All-push (λ (each : Interval). each.last ≤ whole.last) items item
            (All-weaker (λ (each : Interval). each.last ≤ span.last)
            (λ (each : Interval). each.last ≤ whole.last)
            (λ each greatest. omega (arith, high, greatest))
            items is.greatest) (omega arith);
      }

-- ---- pieces

-- A list that has an item is not empty.
pub not_nil : {X : Type 0} (before after : List X) (item : X) → ¬ ([] ≡ before ++ item ∷ after)
not_nil [] after item is = absurd (cc)
not_nil (first ∷ before) after item is = absurd (cc)

-- A place in a list with one more item is that of the last item, or is in the list before it.
split-push : {X : Type 0} (before after items : List X) (last item : X)
    → items ++ last ∷ [] ≡ before ++ item ∷ after
    → ((item ≡ last) × (before ≡ items)) ⊎ ((rest : List X) × (items ≡ before ++ item ∷ rest))
split-push [] after [] last item is = inl (cc, refl)
split-push [] after (first ∷ items) last item is =
    let same : first ≡ item = cc in inr (items, ap (λ each. each ∷ items) same)
split-push (first ∷ before) after [] last item is =
    let rest : [] ≡ before ++ item ∷ after = cc in absurd (not_nil before after item rest)
split-push (first ∷ before) after (other ∷ items) last item is =
    let same : other ≡ first = cc in
    let rest : items ++ last ∷ [] ≡ before ++ item ∷ after = cc in
    elim (split-push before after items last item rest) [
      | inl here ↦ inl (
        here.0,
        ap (λ each. each ∷ before) (sym same)
            ∙ ap (λ each. other ∷ each) here.1,
      )
      | inr there ↦ inr (
        there.0,
        ap (λ each. each ∷ items) same
            ∙ ap (λ each. first ∷ each) there.1,
      )
    ]

-- A single item is a piece.
pub piece-one : (item : Interval) → IsPiece (item ∷ []) item
piece-one item = record {
  spans = span-one item;
  together = λ before after other span is covered. elim (split-push before after [] item other is) [
    | inl here ↦ absurd (span-some span (subst (λ each. IsSpan each span) here.1 covered))
    | inr there ↦ absurd (not_nil before there.0 other there.1)
  ];
}

-- A piece with an item that overlaps or touches its span is a piece.
pub piece-more : (items : List Interval) (span item whole : Interval) → IsPiece items span
    → Meet span item → whole.first ≡ min span.first item.first
    → whole.last ≡ max span.last item.last
    → IsPiece (items ++ item ∷ []) whole
piece-more items span item whole piece meets first last = record {
  spans = span-push items span item whole piece.spans first last;
  together = λ before after other covered is covers.
      elim (split-push before after items item other is) [
        | inl here ↦
            let same = span-same items span covered piece.spans
            (subst (λ each. IsSpan each covered) here.1 covers) in
            subst (λ each. Meet each other) same (subst (Meet span) (sym here.0) meets)
        | inr there ↦ piece.together before there.0 other covered there.1 covers
      ];
}

-- ---- members

-- A test or false is that test.
or-false : (test : Bool) → (test || false) ≡ test
or-false true = refl
or-false false = refl

-- Two intervals that overlap or touch cover what the interval from the lesser start to the greater
-- end covers.
meet-covers : (rank : ℕ) (one other : Interval) → Meet one other → one.first ≤ one.last
    → other.first ≤ other.last
    → (covers one rank || covers other rank)
    ≡ covers (record { first = min one.first other.first; last = max one.last other.last }) rank
meet-covers rank one other meets some also =
    let left = meets.0 in let right = meets.1 in grind (arith, nat_tests)

-- The members of a list with one more item are those of the list and those of the item.
members-push : (items : List Interval) (item : Interval) (rank : ℕ)
    → members (items ++ item ∷ []) rank ≡ (members items rank || covers item rank)
members-push items item rank =
    members-append items (item ∷ []) rank
    ∙ ap (λ test. members items rank || test)
    (members-cons item [] rank ∙ or-false (covers item rank))

-- A piece has the members of its span, if its first items have the members of their own span.
members-along : (rest before : List Interval) (span whole : Interval) (rank : ℕ)
    → IsSpan before span → span.first ≤ span.last → members before rank ≡ covers span rank
    → All HasRanks rest → HoldsTogether (before ++ rest) → IsSpan (before ++ rest) whole
    → members (before ++ rest) rank ≡ covers whole rank
members-along [] before span whole rank is some same fill together covered =
    let all = append-nil before in
    let one = span-same before span whole is (subst (λ each. IsSpan each whole) all covered) in
    ap (λ each. members each rank) all ∙ same ∙ ap (λ each. covers each rank) one
members-along (item ∷ rest) before span whole rank is some same fill together covered =
    let meets = together before rest item span refl is in
    let item_some = All-head HasRanks item rest fill in
    let next : Interval = record {
      first = min span.first item.first;
      last = max span.last item.last;
    } in
    let longer : (before ++ item ∷ []) ++ rest ≡ before ++ item ∷ rest =
    append_assoc before (item ∷ []) rest in
    subst (λ each. members each rank ≡ covers whole rank) longer
    (members-along rest (before ++ item ∷ []) next whole rank
    (span-push before span item next is refl refl) (omega arith)
    (members-push before item rank ∙ ap (λ test. test || covers item rank) same
    ∙ meet-covers rank span item meets some item_some)
    (All-tail HasRanks item rest fill)
    (subst HoldsTogether (sym longer) together)
    (subst (λ each. IsSpan each whole) (sym longer) covered))

-- A piece has the members of its span.
pub piece-members : (items : List Interval) (span : Interval) (rank : ℕ) → IsSpan items span
    → HoldsTogether items → All HasRanks items → members items rank ≡ covers span rank
piece-members [] span rank is together fill = absurd (span-some span is)
piece-members (item ∷ rest) span rank is together fill =
    members-along rest (item ∷ []) item span rank (span-one item)
    (All-head HasRanks item rest fill)
    (members-cons item [] rank ∙ or-false (covers item rank)) (All-tail HasRanks item rest fill)
    together is
