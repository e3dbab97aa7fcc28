-- The spans of items that are split into pieces, and their members.
use Rattle.std.proofs.Common.{◌≡◌, ℕ, true, false, ◌||◌, nat_le, List, [], ◌∷◌, ◌++◌, refl, sym, ap, ◌∙◌, subst, inl, inr, arith}
use Rattle.std.proofs.lemmas.Bool.{cases_lt}
use Rattle.std.proofs.lemmas.Bool.Decides.{nat_tests}
use Rattle.std.proofs.lemmas.List.Elements.{All-cons, All-head, All-nil, All-tail}
use Rattle.std.specs.List.{All, AllZip}
use Rattle.rsb_integer.specs.Runs.{Interval, covers, members, HasNoRanks, HasRanks}
use Rattle.rsb_integer.proofs.lemmas.List.{All-front}
use Rattle.rsb_integer.proofs.lemmas.Members.{members-append, members-cons}
use Rattle.rsb_streams.specs.UnsortedDisjoint.{items_of, non_empty, AreSpans, HoldsTogether, IsApart, IsPiece, IsSpan, Meet}
use Rattle.rsb_streams.proofs.lemmas.unsorted.Pieces.{not_nil, piece-members, span-same}

-- ---- items that have a rank

-- An empty item is left out.
pub non_empty-skip : (item : Interval) (items : List Interval) → HasNoRanks item
    → non_empty (item ∷ items) ≡ non_empty items
non_empty-skip item items empty =
    let test : nat_le item.first item.last ≡ false = grind (arith, nat_tests) in rw test refl

-- A non-empty item is kept.
pub non_empty-keep : (item : Interval) (items : List Interval) → HasRanks item
    → non_empty (item ∷ items) ≡ item ∷ non_empty items
non_empty-keep item items some =
    let test : nat_le item.first item.last ≡ true = grind (arith, nat_tests) in rw test refl

-- The items that are kept are non-empty.
pub non_empty-fill : (items : List Interval) → All HasRanks (non_empty items)
non_empty-fill [] = All-nil HasRanks
non_empty-fill (item ∷ items) = elim (cases_lt item.last item.first) [
  | inl empty ↦ subst (All HasRanks) (sym (non_empty-skip item items empty)) (non_empty-fill items)
  | inr some ↦ subst (All HasRanks) (sym (non_empty-keep item items some))
      (All-cons HasRanks item (non_empty items) some (non_empty-fill items))
]

-- An empty interval covers nothing.
covers-none : (item : Interval) (rank : ℕ) → HasNoRanks item → covers item rank ≡ false
covers-none item rank empty = grind (arith, nat_tests)

-- The items that are kept have the members of all items.
non_empty-members : (items : List Interval) (rank : ℕ)
    → members (non_empty items) rank ≡ members items rank
non_empty-members [] rank = refl
non_empty-members (item ∷ items) rank = elim (cases_lt item.last item.first) [
  | inl empty ↦
      ap (λ each. members each rank) (non_empty-skip item items empty)
      ∙ non_empty-members items rank
      ∙ ap (λ test. test || members items rank) (sym (covers-none item rank empty))
      ∙ sym (members-cons item items rank)
  | inr some ↦
      ap (λ each. members each rank) (non_empty-keep item items some)
      ∙ members-cons item (non_empty items) rank
      ∙ ap (λ test. covers item rank || test) (non_empty-members items rank)
      ∙ sym (members-cons item items rank)
]

-- ---- their members

-- What holds of each item of two lists put together holds of each item of the second.
All-back : {X : Type 0} (P : X → Type 0) (xs ys : List X) → All P (xs ++ ys) → All P ys
All-back P [] ys all = all
All-back P (x ∷ xs) ys all = All-back P xs ys (All-tail P x (xs ++ ys) all)

-- The spans of pieces have the members of their items.
pieces-members : (pieces : List (List Interval)) (spans : List Interval) (rank : ℕ)
    → AllZip IsSpan pieces spans → All HoldsTogether pieces → All HasRanks (items_of pieces)
    → members spans rank ≡ members (items_of pieces) rank
pieces-members [] [] rank spanned together fill = refl
pieces-members [] (span ∷ spans) rank spanned together fill = absurd spanned
pieces-members (piece ∷ pieces) [] rank spanned together fill = absurd spanned
pieces-members (piece ∷ pieces) (span ∷ spans) rank spanned together fill =
    members-cons span spans rank
    ∙ ap (λ test. test || members spans rank)
    (sym (piece-members piece span rank spanned.0 (All-head HoldsTogether piece pieces together)
    (All-front HasRanks piece (items_of pieces) fill)))
    ∙ ap (λ test. members piece rank || test)
    (pieces-members pieces spans rank spanned.1 (All-tail HoldsTogether piece pieces together)
    (All-back HasRanks piece (items_of pieces) fill))
    ∙ sym (members-append piece (items_of pieces) rank)

-- The spans have the same members as the items.
pub spans-members : (items spans : List Interval) (rank : ℕ) → AreSpans (non_empty items) spans
    → members spans rank ≡ members items rank
spans-members items spans rank are =
    pieces-members are.pieces spans rank are.spanned are.together
    (subst (All HasRanks) (sym are.whole) (non_empty-fill items))
    ∙ ap (λ each. members each rank) are.whole
    ∙ non_empty-members items rank

-- ---- one more piece

-- An empty list of items has no spans.
pub no-spans : AreSpans [] []
no-spans = record {
  pieces = [];
  whole = refl;
  together = All-nil HoldsTogether;
  apart = λ before after piece next is. absurd (not_nil before (next ∷ after) piece is);
  spanned = tt;
}

module _ (piece : List Interval) (span : Interval) (items spans : List Interval)
    (is : IsPiece piece span)
    (are : AreSpans items spans)
    (begins : (item : Interval) (others : List Interval) → items ≡ item ∷ others
    → ¬ (Meet span item)) where
  -- If the first of the other items is apart from the piece, each piece is apart from the one
  -- before it.
  first-apart : (before after : List (List Interval)) (one next : List Interval)
      → piece ∷ are.pieces ≡ before ++ one ∷ next ∷ after → IsApart one next
  first-apart [] after one next same = λ item others other starts covered meets.
      let first : piece ≡ one = cc in
      let rest : are.pieces ≡ next ∷ after = cc in
      begins item (others ++ items_of after)
      (sym are.whole ∙ ap items_of rest ∙ ap (λ each. each ++ items_of after) starts)
      (subst (λ each. Meet each item)
      (span-same one other span covered (subst (λ each. IsSpan each span) first is.spans)) meets)
  first-apart (first ∷ before) after one next same =
      let rest : are.pieces ≡ before ++ one ∷ next ∷ after = cc in
      are.apart before after one next rest

  -- A piece followed by other items has the span of the piece, followed by their spans.
  pub more-spans : AreSpans (piece ++ items) (span ∷ spans)
  more-spans = record {
    pieces = piece ∷ are.pieces;
    whole = ap (λ each. piece ++ each) are.whole;
    together = All-cons HoldsTogether piece are.pieces is.together are.together;
    apart = first-apart;
    spanned = (is.spans, are.spanned);
  }
