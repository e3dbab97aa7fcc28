-- The loop that keeps the ranges for which a closure returns true.
use Rattle.std.proofs.Common.{◌≡◌, ℕ, Bool, true, false, cond, ◌+◌, ◌<◌, ◌≤◌, List, [], ◌∷◌, ◌++◌, append_assoc, append-nil, Some, refl, sym, ap, ◌∙◌, inl, inr, arith, subst}
use denote.Param.Always.{always_mut, mut_next}
use denote.Param.Members.{Called, Mut}
use denote.Ref.{Bor}
use Rattle.std.specs.List.{filter}
use Rattle.std.specs.declared.ops.RangeInclusive.{RangeInclusive}
use Rattle.std.proofs.lemmas.Bool.{cases_lt}
use Rattle.std.proofs.lemmas.List.Elements.{filter-append}
use Rattle.std.proofs.lemmas.Option.{none-some}
use Rattle.rsb_integer.specs.Rank.{interval_of}
use Rattle.rsb_integer.specs.Runs.{Interval, covers}
use Rattle.rsb_integer.proofs.lemmas.Members.{covers-cases}
use Rattle.rsb_streams.specs.Sublists.{IsSublist}
use Rattle.range_map_blaze.specs.Map.{value_at, IsMapFrom, IsMapIn, IsPut, PutsAll}
use Rattle.range_map_blaze.specs.Retain.{AnswersByPiece}
use Rattle.range_map_blaze.proofs.lemmas.Pairs.{copied-same, puts-none, puts-push}
use Rattle.range_map_blaze.proofs.lemmas.Parted.{differs-at}
use Rattle.range_map_blaze.proofs.lemmas.Values.{map-lower, value-below, value-differs, value-later}

-- ---- some pieces of a canonical list

module _ {V : Type 0} where
  -- What some pieces have at a rank, all have there.
  sublist-value : (n low : ℕ) (pieces part : List (Interval × V)) (rank : ℕ) (value : V)
      → IsMapFrom n low pieces → IsSublist part pieces → value_at part rank ≡ Some value
      → value_at pieces rank ≡ Some value
  sublist-value n low [] part rank value canonical sub at =
      absurd (none-some value (sym (ap (λ list. value_at list rank) sub) ∙ at))
  sublist-value n low (piece ∷ pieces) part rank value canonical (inl sub) at =
      let later = sublist-value n (piece.0.last + 1) pieces part rank value canonical.4 sub at in
      elim (cases_lt piece.0.last rank) [
        | inl past ↦ value-later piece pieces rank (inr past) ∙ later
        | inr most ↦
            absurd (none-some value (sym (value-below n (piece.0.last + 1) pieces rank canonical.4
            (omega (arith, most))) ∙ later))
      ]
  sublist-value n low (piece ∷ pieces) part rank value canonical (inr (rest, is, sub)) at =
      let here : value_at (piece ∷ rest) rank ≡ Some value =
      sym (ap (λ list. value_at list rank) is) ∙ at in
      elim (covers-cases piece.0 rank) [
        | inl inside ↦
            ap (λ test. cond test (Some piece.1) (value_at pieces rank)) inside.2
            ∙ sym (ap (λ test. cond test (Some piece.1) (value_at rest rank)) inside.2) ∙ here
        | inr outside ↦
            ap (λ test. cond test (Some piece.1) (value_at pieces rank)) outside.1
            ∙ sublist-value n (piece.0.last + 1) pieces rest rank value canonical.4 sub
            (sym (ap (λ test. cond test (Some piece.1) (value_at rest rank)) outside.1) ∙ here)
      ]

  -- Some pieces of a canonical list are canonical.
  pub sublist-map : (n low : ℕ) (pieces part : List (Interval × V)) → IsMapFrom n low pieces
      → IsSublist part pieces → IsMapFrom n low part
  sublist-map n low [] part canonical sub = subst (IsMapFrom n low) (sym sub) tt
  sublist-map n low (piece ∷ pieces) part canonical (inl sub) =
      let starts = canonical.0 in
      let ordered = canonical.1 in
      map-lower n (piece.0.last + 1) low part (omega (arith, starts, ordered))
      (sublist-map n (piece.0.last + 1) pieces part canonical.4 sub)
  sublist-map n low (piece ∷ pieces) part canonical (inr (rest, is, sub)) =
      let later = sublist-map n (piece.0.last + 1) pieces rest canonical.4 sub in
      let differs = differs-at n piece rest later (λ same.
      value-differs n low piece pieces canonical
      (value-later piece pieces (piece.0.last + 1) (inr (omega arith))
      ∙ sublist-value n (piece.0.last + 1) pieces rest (piece.0.last + 1) piece.1 canonical.4 sub same)) in
      let whole : IsMapFrom n low (piece ∷ rest) =
      (canonical.0, canonical.1, canonical.2, differs, later) in
      subst (IsMapFrom n low) (sym is) whole

-- Some of all items but the last, and then that one or not.
sublist-push : {X : Type 0} (answer : Bool) (part done : List X) (item : X) → IsSublist part done
    → IsSublist (part ++ cond answer (item ∷ []) []) (done ++ item ∷ [])
sublist-push true part [] item sub =
    inr ([], ap (λ items. items ++ item ∷ []) sub, refl)
sublist-push false part [] item sub = inl (append-nil part ∙ sub)
sublist-push answer part (first ∷ done) item (inl sub) = inl (sublist-push answer part done item sub)
sublist-push answer part (first ∷ done) item (inr (rest, is, sub)) = inr (
  rest ++ cond answer (item ∷ []) [],
  ap (λ items. items ++ cond answer (item ∷ []) []) is,
  sublist-push answer rest done item sub,
)

-- ---- the loop

module _ {F T V : Type 0} (rank : T → ℕ) (n : ℕ) (seen : V → V)
    (g : Mut F (Bor (RangeInclusive T) × (Bor V × Unit {0})) Bool) (f : F) (old : List (Interval × V)) where
  -- Whether the closure was called on the pieces that are no longer left. The new map has those for
  -- which it returned true.
  pub record IsKeepingRanges (left kept : List (Interval × V)) (now : F) : Type 0 where
    pub done : List (Interval × V)
    pub part : List (Interval × V)
    pub parts : old ≡ done ++ left
    pub sub : IsSublist part done
    pub puts : PutsAll [] part kept
    pub callable : always_mut g now
    pub exact : (keeps : Interval × V → Bool) → AnswersByPiece rank n seen g keeps f
        → AnswersByPiece rank n seen g keeps now × (part ≡ filter keeps done)

  -- At first the closure was called on no piece.
  pub ranges-none : always_mut g f → IsKeepingRanges old [] f
  ranges-none always = record {
    done = [];
    part = [];
    parts = refl;
    sub = refl;
    puts = puts-none [];
    callable = always;
    exact = λ keeps answers. (answers, refl);
  }

  -- In the end, the map has the pieces that were kept.
  pub ranges-all : (kept : List (Interval × V)) (now : F) → IsMapIn n old → IsMapIn n kept
      → IsKeepingRanges [] kept now → IsSublist kept old
      × ((keeps : Interval × V → Bool) → AnswersByPiece rank n seen g keeps f → kept ≡ filter keeps old)
  ranges-all kept now whole canonical keeping =
      let all : old ≡ keeping.done = keeping.parts ∙ append-nil keeping.done in
      let sub = subst (IsSublist keeping.part) (sym all) keeping.sub in
      let same = copied-same n keeping.part kept (sublist-map n 0 old keeping.part whole sub) canonical
      keeping.puts in (
        subst (λ list. IsSublist list old) (sym same) sub,
        (λ keeps answers. same ∙ (keeping.exact keeps answers).1 ∙ ap (filter keeps) (sym all)),
      )

  module _ (piece : Interval × V) (rest kept : List (Interval × V)) (now : F)
      (before : IsKeepingRanges (piece ∷ rest) kept now) (answer : Bool) (new : List (Interval × V))
      (then : F) (shown : Bor (RangeInclusive T)) (lent : Bor V)
      (is_run : interval_of rank shown.now ≡ piece.0) (is_value : seen lent.now ≡ piece.1)
      (called : Called g now (shown, (lent, tt)) answer then)
      (puts : PutsAll [] (before.part ++ cond answer (piece ∷ []) []) new) where
    -- The closure was called on one piece more.
    pub ranges-next : piece.0.first ≤ piece.0.last → piece.0.last < n → IsKeepingRanges rest new then
    ranges-next order below = record {
      done = before.done ++ piece ∷ [];
      part = before.part ++ cond answer (piece ∷ []) [];
      parts = before.parts ∙ sym (append_assoc before.done (piece ∷ []) rest);
      sub = sublist-push answer before.part before.done piece before.sub;
      puts = puts;
      callable = mut_next g now (shown, (lent, tt)) answer then then called refl before.callable;
      exact = λ keeps answers.
          let exact = before.exact keeps answers in
          let same : ◌≡◌ {A = Interval × V} (interval_of rank shown.now, seen lent.now) piece =
          λ i. (is_run i, is_value i) in
          let said : answer ≡ keeps piece =
          (exact.0.at ((shown, (lent, tt)) ∷ []) answer then called).0
          (subst (λ (run : Interval). run.first ≤ run.last) (sym is_run) order)
          (subst (λ (run : Interval). run.last < n) (sym is_run) below) ∙ ap keeps same in (
            record { at = λ items. (exact.0.at ((shown, (lent, tt)) ∷ items) answer then called).1 },
            (λ i. exact.1 i ++ cond (said i) (piece ∷ []) [])
                ∙ sym (filter-append keeps before.done (piece ∷ [])),
          );
    }

-- ---- a piece that is put, and one that is not

-- A piece of a canonical list is non-empty, and within the type.
pub part-order : {V : Type 0} (n low : ℕ) (done : List (Interval × V)) (piece : Interval × V)
    (rest : List (Interval × V)) → IsMapFrom n low (done ++ piece ∷ rest)
    → (piece.0.first ≤ piece.0.last) × (piece.0.last < n)
part-order n low [] piece rest canonical = (canonical.1, canonical.2)
part-order n low (first ∷ done) piece rest canonical =
    part-order n (first.0.last + 1) done piece rest canonical.4

module _ {V : Type 0} (part kept new : List (Interval × V)) (piece : Interval × V) (answer : Bool)
    (before : PutsAll [] part kept) where
  pub put-piece : answer ≡ true
      → IsPut (value_at kept) (covers piece.0) piece.1 (value_at new)
      → PutsAll [] (part ++ cond answer (piece ∷ []) []) new
  put-piece is put =
      subst (λ test. PutsAll [] (part ++ cond test (piece ∷ []) []) new) (sym is)
      (puts-push [] part kept new piece before put)

  pub skip-piece : answer ≡ false → PutsAll [] (part ++ cond answer (piece ∷ []) []) kept
  skip-piece is =
      subst (λ test. PutsAll [] (part ++ cond test (piece ∷ []) []) kept) (sym is)
      (subst (λ list. PutsAll [] list kept) (sym (append-nil part)) before)
