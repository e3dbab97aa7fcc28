-- Where the pieces that an odd number of ranges covers begin and end.
use Rattle.rsb_integer.specs.declared.integer.Integer.{Ghosts as Elements}
use Rattle.rsb_streams.specs.declared.draw.Draw.{Ghosts as Stream}
use Rattle.std.proofs.Common.{◌≡◌, arith, true, false, List, [], ◌∷◌, ◌++◌, refl, sym, subst}
use Rattle.std.specs.Prelude.{Option, Some, None}
use Rattle.std.specs.Iterator.{MakesProgress}
use Rattle.std.specs.Range.{range_inclusive_start, range_inclusive_end, range_inclusive_exhausted}
use Rattle.std.specs.declared.ops.RangeInclusive.{RangeInclusive}
use Rattle.rsb_integer.specs.Rank.{interval_of}
use Rattle.rsb_integer.specs.Runs.{Interval, from_to}
use Rattle.rsb_streams.specs.OddPieces.{odd_may_give, odd_pieces, oddly_covered, begun_from, pieces_of, pending_rest, ArePieces, IsTwofold}
use Rattle.rsb_streams.specs.Stream.{Outcomes, ◌⊆◌, outcomes_unless}
use Rattle.rsb_streams.specs.declared.odd_pieces.OddPieces.{OddPieces}
use Rattle.rsb_streams.proofs.lemmas.gaps.Loop.{answered}
use Rattle.rsb_streams.proofs.lemmas.odd.Drawn.{takes-last, takes-none, DrawnSince}
use Rattle.rsb_streams.proofs.lemmas.odd.Ranks.{no-pieces, pieces-first}
use Rattle.rsb_streams.proofs.lemmas.sources.Known.{IsLawful}
use Rattle.rsb_streams.proofs.lemmas.odd.States.{OddSoFar, state}

module _ {I T N : Type 0} (integer : Elements T N) (source : Stream I T N) where
  open integer use {rank, value_count as n}

  -- Whether the pieces are ready.
  abbrev can : OddPieces T I → Type 0
  can = (odd_pieces integer source).can_draw

  -- What the pieces may give.
  abbrev may : OddPieces T I → Outcomes
  may = odd_may_give integer source

  -- What holds before each iteration: what may come now might come at the entry.
  abbrev SoFar : OddPieces T I → OddPieces T I → Type 0
  SoFar = OddSoFar integer source

  -- Whether a draw fits the pieces.
  abbrev Answered : OddPieces T I → Option (RangeInclusive T) → OddPieces T I → Type 0
  Answered = (odd_pieces integer source).draw_gives

  -- What holds of a state that has not ended holds of the state put together from its parts.
  pub so-by : (entry was : OddPieces T I) (held : Option T) → SoFar entry was → was.end ≡ held
      → SoFar entry (state was.iter was.start held)
  so-by entry was held so is =
      subst (λ each. SoFar entry (state was.iter was.start each)) is
      (subst (λ each. SoFar entry
      (record { iter = was.iter; done = each; start = was.start; end = was.end })) so.undone so)

  -- ---- pieces from which nothing has been drawn yet
  module _ (iter : I) (s : OddPieces T I) (same_source : s.iter ≡ iter)
      (none : s.end ≡ None) where
    -- The pieces are ready if the source is, and if all that it may give satisfies `IsTwofold`.
    pub fresh-going : source.can_draw iter
        → ((given : List Interval) → source.may_give iter given → IsTwofold n given) → can s
    fresh-going ready twofold = λ undone. record {
      callable = subst source.can_draw (sym same_source) ready;
      twofold = λ given at. subst (λ held. IsTwofold n (begun_from rank s.start held ++ given))
          (sym none) (twofold given (subst (λ each. source.may_give each given) same_source at));
    }

    -- The pieces are those of what the source may give.
    pub fresh-pieces : s.done ≡ false → may s ⊆ pieces_of n [] (source.may_give iter)
    fresh-pieces undone pieces at = λ nothing.
        subst (λ each. outcomes_unless each
        (pieces_of n (pending_rest rank s) (source.may_give s.iter)) pieces)
        undone at (λ given might all.
        nothing given (subst (λ each. source.may_give each given) same_source might)
        (subst (λ held. ArePieces n (oddly_covered (begun_from rank s.start held ++ given)) pieces)
        none all))

  -- After the pending range is returned at the end, no piece is left, so the draw makes progress.
  pub last-goes : (entry was : OddPieces T I) (j : I) → SoFar entry was → (end : T)
      (answer : RangeInclusive T) → was.end ≡ Some end → (left : Option T)
      → MakesProgress (odd_pieces integer source).can_draw
      (odd_pieces integer source).draws_left entry (Some answer)
      (record { iter = j; done = true; start = was.start; end = left })
  last-goes entry was j so_now end answer is left =
      let so = so-by entry was (Some end) so_now is in
      let nearer = so.nearer in
      record {
        on = λ finite. ((λ no. absurd (cc)), tt, omega (arith, nearer));
        keeps = λ no. absurd (cc);
        rests = λ finite. tt;
      }

  module _ (laws : IsLawful integer source) where
    -- ---- the source has ended
    module _ (entry was : OddPieces T I) (j : I) (so_now : SoFar entry was)
        (drew : DrawnSince integer source entry was) (call : source.draw_gives was.iter None j) where
      -- The state at the end.
      abbrev final : Option T → OddPieces T I
      final left = record { iter = j; done = true; start = was.start; end = left }

      -- If no range is pending, nothing more comes.
      pub rests : was.end ≡ None → (left : Option T) → left ≡ None
          → Answered entry None (final left)
      rests is left none =
          let so = so-by entry was None so_now is in
          record {
            answers = so.same [] (λ nothing.
                nothing [] (laws.answers was.iter j None call) (no-pieces n));
            rests = (λ no. absurd (cc), λ pieces at. at);
            asks = takes-none integer source entry was drew (final left) refl none
                call is;
          }

      -- The pending range is the last piece.
      pub last-answers : (end : T) (answer : RangeInclusive T) → was.end ≡ Some end
          → range_inclusive_exhausted answer ≡ false → range_inclusive_start answer ≡ was.start
          → range_inclusive_end answer ≡ end → (left : Option T) → left ≡ None
          → Answered entry (Some answer) (final left)
      last-answers end answer is fresh from to left none =
          let so = so-by entry was (Some end) so_now is in
          let nothing_more = laws.answers was.iter j None call in
          let sorted = (so.going.twofold [] nothing_more).sorted in
          let gap = answered integer source was.start end answer fresh from to in
          record {
            answers = λ rest at. so.same (interval_of rank answer ∷ rest) (λ nothing.
                nothing [] nothing_more
                (subst (λ first. ArePieces n (oddly_covered (from_to (rank was.start) (rank end) ∷ []))
                (first ∷ rest)) (sym gap)
                (pieces-first n (from_to (rank was.start) (rank end)) [] rest sorted.in_order sorted.in_type tt
                (subst (ArePieces n (oddly_covered [])) (sym at) (no-pieces n)))));
            rests = tt;
            asks = takes-last integer source entry was drew (final left) refl none
                call end answer is gap;
          }
