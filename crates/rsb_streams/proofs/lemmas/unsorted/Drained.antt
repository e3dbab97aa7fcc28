-- What the calls of a stream that joins ranges drain to.
use Rattle.std.proofs.Common.{◌≡◌, ℕ, Bool, true, false, List, [], ◌∷◌, ◌++◌, append_assoc, refl, sym, ap, ◌∙◌, subst}
use Rattle.std.proofs.lemmas.List.{append-nil, map-append}
use Rattle.std.proofs.lemmas.List.Elements.{All-cons, All-nil, filter-append}
use Rattle.std.specs.List.{All}
use Rattle.std.specs.Prelude.{Option, Some, None, IfSome, MatchBool, nat_le}
use Rattle.std.specs.Iterator.{Drains, Yields, YieldsThen}
use Rattle.std.specs.Iterator.Adapters.{fuse_done, fuse_source, fuse_steps}
use Rattle.std.specs.declared.iter.Fuse.{Fuse}
use Rattle.std.specs.declared.ops.RangeInclusive.{RangeInclusive}
use Rattle.rsb_integer.specs.Rank.{interval_of, intervals_of}
use Rattle.rsb_integer.specs.Runs.{Interval}
use Rattle.rsb_streams.specs.UnsortedDisjoint.{non_empty, AreSpans, BeginsAfter, GivesSpans, IsGathered, IsProper, IsSpan, Meet, UnsortedSteps}
use Rattle.rsb_streams.specs.declared.unsorted_disjoint.UnsortedDisjoint.{UnsortedDisjoint}
use Rattle.rsb_streams.proofs.lemmas.unsorted.Pieces.{piece-one, span-some}
use Rattle.rsb_streams.proofs.lemmas.unsorted.Spans.{more-spans, no-spans, non_empty-keep}

-- The non-empty intervals of two lists put together are those of the first, then those of the
-- second.
pub non_empty-append : (items others : List Interval)
    → non_empty (items ++ others) ≡ non_empty items ++ non_empty others
non_empty-append items others = filter-append (λ (item : Interval). nat_le item.first item.last) items others

-- Calls that follow other calls make one sequence of calls with them.
yields-then : {S X : Type 0} (steps : S → Option X → S → Type 0) (items others : List X) (s t u : S)
    → Yields steps s items t → Yields steps t others u → Yields steps s (items ++ others) u
yields-then steps [] others s t u all more = subst (λ each. Yields steps each others u) (sym all) more
yields-then steps (item ∷ items) others s t u all more =
    (all.0, all.1, yields-then steps items others all.0 t u all.2 more)

-- ---- calls in a `Fuse`

module _ {S X : Type 0} (steps : S → Option X → S → Type 0) where
  -- Whether a call fits a `Fuse`, by whether it has ended.
  abbrev CallBy : Bool → Fuse S → Option X → Fuse S → Type 0
  CallBy done s item t = MatchBool done (item ≡ None) (steps (fuse_source s) item (fuse_source t))

  -- A `Fuse` that has ended gives nothing.
  ended-draws : (items : List X) (s t : Fuse S) → fuse_done s ≡ true
      → Yields (fuse_steps steps) s items t → items ≡ []
  ended-draws [] s t done all = refl
  ended-draws (item ∷ items) s t done all =
      let nothing : Some item ≡ None =
      subst (λ test. CallBy test s (Some item) all.0) done all.1.0 in
      absurd (cc)

  -- A `Fuse` that has not ended drains to what its iterator drains to.
  fuse-drains : (items : List X) (s t u : Fuse S) → fuse_done s ≡ false
      → Yields (fuse_steps steps) s items t → fuse_steps steps t None u
      → Drains steps (fuse_source s) items
  fuse-drains [] s t u undone all end =
      let call = subst (λ each. fuse_steps steps each None u) (sym all) end in (
        fuse_source u,
        (fuse_source s, refl, subst (λ test. CallBy test s None u) undone call.0),
      )
  fuse-drains (item ∷ items) s t u undone all end =
      let call = subst (λ test. CallBy test s (Some item) all.0) undone all.1.0 in
      let rest = fuse-drains items all.0 t u all.1.1 all.2 end in
      (rest.0, (rest.1.0, (fuse_source all.0, call, rest.1.1), rest.1.2))

-- ---- calls of the stream

module _ {T I : Type 0} (rank : T → ℕ) (n : ℕ)
    (steps : I → Option (RangeInclusive T) → I → Type 0) where
  -- Whether a call fits the stream.
  abbrev Steps : UnsortedDisjoint T I → Option (RangeInclusive T) → UnsortedDisjoint T I → Type 0
  Steps = UnsortedSteps rank n steps

  -- The ranges that the stream gives are proper.
  pub answers-proper : (answers : List (RangeInclusive T)) (s t : UnsortedDisjoint T I)
      → Yields Steps s answers t → All (IsProper rank n) answers
  answers-proper [] s t all = All-nil (IsProper rank n)
  answers-proper (answer ∷ answers) s t all =
      All-cons (IsProper rank n) answer answers all.1.proper (answers-proper answers all.0 t all.2)

  -- Once the source has ended and nothing is held, the stream gives nothing.
  ended-none : (answers : List (RangeInclusive T)) (s t : UnsortedDisjoint T I)
      → fuse_done s.iter ≡ true → s.gathered ≡ None → Yields Steps s answers t → answers ≡ []
  ended-none [] s t done held all = refl
  ended-none (answer ∷ answers) s t done held all =
      let call = all.1 in
      let none = ended-draws steps call.drawn s.iter call.between done call.draws in
      let piece = call.gathers [] (subst (IsGathered rank n []) (sym held) refl) in
      absurd (span-some (interval_of rank answer)
      (subst (λ ranges. IsSpan (non_empty (intervals_of rank ranges)) (interval_of rank answer)) none
      piece.spans))

  -- If the call returns `None`, no range is held to begin a new piece.
  begins-none : (held : Option (RangeInclusive T)) → IfSome held (BeginsAfter rank n None)
      → held ≡ None
  begins-none None begins = refl
  begins-none (Some range) begins = absurd begins.apart

  -- Whether `answers` are the spans of the items in `before`, followed by the non-empty ones of
  -- those that the source drains to.
  abbrev DrainsTo : List Interval → Fuse I → List (RangeInclusive T) → Type 0
  DrainsTo before source answers = (items : List (RangeInclusive T)) × (end : Fuse I)
      × YieldsThen (fuse_steps steps) source items None end
      × AreSpans (before ++ non_empty (intervals_of rank items)) (intervals_of rank answers)

  -- If a call returns `None`, no non-empty item is left, so there are no spans.
  drained-none : (s u : UnsortedDisjoint T I) (before : List Interval)
      → IsGathered rank n before s.gathered → Steps s None u → DrainsTo before s.iter []
  drained-none s u before held call =
      let none = begins-none u.gathered call.begins in (
        call.drawn,
        u.iter,
        (
          call.between,
          call.draws,
          subst (λ item. fuse_steps steps call.between item u.iter) none
              call.stops,
        ),
        subst (λ items. AreSpans items []) (sym (call.gathers before held)) no-spans,
      )

  module _ (s t : UnsortedDisjoint T I) (before : List Interval) (answer : RangeInclusive T)
      (held : IsGathered rank n before s.gathered) (call : Steps s (Some answer) t) where
    -- The piece whose span the call returns.
    abbrev piece : List Interval
    piece = before ++ non_empty (intervals_of rank call.drawn)

    -- If nothing is held after the call, the returned range is the only span left.
    drained-last : t.gathered ≡ None → DrainsTo before s.iter (answer ∷ [])
    drained-last none = (
      call.drawn,
      t.iter,
      (
        call.between,
        call.draws,
        subst (λ item. fuse_steps steps call.between item t.iter) none
            call.stops,
      ),
      subst (λ items. AreSpans items (interval_of rank answer ∷ [])) (append-nil piece)
          (more-spans piece (interval_of rank answer) [] [] (call.gathers before held) no-spans
          (λ item others is. absurd (cc))),
    )

    -- If a range is held after the call, the later calls drain to the spans of a piece that it
    -- begins.
    module _ (range : RangeInclusive T) (is : t.gathered ≡ Some range)
        (answers : List (RangeInclusive T))
        (rest : DrainsTo (interval_of rank range ∷ []) t.iter answers) where
      -- The range begins a new piece, after that of the returned span.
      begins : BeginsAfter rank n (Some answer) range
      begins = subst (λ each. IfSome each (BeginsAfter rank n (Some answer))) is call.begins

      -- The items of the piece, then that range and the items after it, are all of the items.
      all-items : piece ++ interval_of rank range ∷ non_empty (intervals_of rank rest.0)
          ≡ before ++ non_empty (intervals_of rank (call.drawn ++ range ∷ rest.0))
      all-items =
          append_assoc before (non_empty (intervals_of rank call.drawn))
          (interval_of rank range ∷ non_empty (intervals_of rank rest.0))
          ∙ ap (λ items. before ++ items)
          (ap (λ items. non_empty (intervals_of rank call.drawn) ++ items)
          (sym (non_empty-keep (interval_of rank range) (intervals_of rank rest.0)
          begins.proper.in_order))
          ∙ sym (non_empty-append (intervals_of rank call.drawn)
          (intervals_of rank (range ∷ rest.0)))
          ∙ ap non_empty (sym (map-append (interval_of rank) call.drawn (range ∷ rest.0))))

      -- The returned range and those of the later calls are the spans of all the items.
      drained-more : DrainsTo before s.iter (answer ∷ answers)
      drained-more = (
        call.drawn ++ range ∷ rest.0,
        rest.1,
        (
          rest.2.0,
          yields-then (fuse_steps steps) call.drawn (range ∷ rest.0) s.iter call.between rest.2.0
              call.draws (
                t.iter,
                subst (λ item. fuse_steps steps call.between item t.iter) is call.stops,
                rest.2.1,
              ),
          rest.2.2,
        ),
        subst (λ items. AreSpans items (intervals_of rank (answer ∷ answers))) all-items
            (more-spans piece (interval_of rank answer)
            (interval_of rank range ∷ non_empty (intervals_of rank rest.0))
            (intervals_of rank answers) (call.gathers before held) rest.3
            (λ item others same meets.
            let first : interval_of rank range ≡ item = cc in
            begins.apart (subst (Meet (interval_of rank answer)) (sym first) meets))),
      )

  -- A call and those after it drain to spans, if those after it do. The cases are whether a range
  -- is held between.
  drained-by : (kept : Option (RangeInclusive T)) (answer : RangeInclusive T)
      (answers : List (RangeInclusive T)) (s next t : UnsortedDisjoint T I)
      (before : List Interval) → next.gathered ≡ kept → IsGathered rank n before s.gathered
      → Steps s (Some answer) next → Yields Steps next answers t
      → ((range : RangeInclusive T) → next.gathered ≡ Some range
      → DrainsTo (interval_of rank range ∷ []) next.iter answers)
      → DrainsTo before s.iter (answer ∷ answers)
  drained-by None answer answers s next t before is held call rest after =
      let stops = subst (λ item. fuse_steps steps call.between item next.iter) is call.stops in
      let none = ended-none answers next t stops.1 is rest in
      subst (λ each. DrainsTo before s.iter (answer ∷ each)) (sym none)
      (drained-last s next before answer held call is)
  drained-by (Some range) answer answers s next t before is held call rest after =
      drained-more s next before answer held call range is answers (after range is)

  -- The calls of the stream drain to spans.
  drained : (answers : List (RangeInclusive T)) (s t u : UnsortedDisjoint T I)
      (before : List Interval) → IsGathered rank n before s.gathered
      → Yields Steps s answers t → Steps t None u → DrainsTo before s.iter answers
  drained [] s t u before held all end =
      drained-none s u before held (subst (λ each. Steps each None u) (sym all) end)
  drained (answer ∷ answers) s t u before held all end =
      drained-by all.0.gathered answer answers s all.0 t before refl held all.1 all.2
      (λ range is.
      drained answers all.0 t u (interval_of rank range ∷ [])
      (subst (IsGathered rank n (interval_of rank range ∷ [])) (sym is)
      (piece-one (interval_of rank range))) all.2 end)

  -- A stream that was just built gives the spans of what its iterator gives.
  pub gives-spans : (source : Fuse I) (iter : I) → fuse_source source ≡ iter
      → fuse_done source ≡ false
      → GivesSpans rank steps iter Steps (record { iter = source; gathered = None })
  gives-spans source iter is undone answers all =
      let given = drained answers (record { iter = source; gathered = None }) all.1.0 all.0 [] refl
      all.1.1 all.1.2 in (
        given.0,
        subst (λ each. Drains steps each given.0) is
            (fuse-drains steps given.0 source given.2.0 given.1 undone given.2.1 given.2.2),
        given.3,
      )
