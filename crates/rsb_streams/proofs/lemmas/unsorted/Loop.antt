-- The loop of `UnsortedDisjoint::next`, which joins ranges.
use Rattle.std.proofs.Common.{◌≡◌, ℕ, ◌+◌, ◌≤◌, true, min, max, List, [], ◌∷◌, ◌++◌, append_assoc, refl, sym, ap, ◌∙◌, subst, arith}
use Rattle.std.proofs.iter.Next.{Yields-more}
use Rattle.std.proofs.lemmas.List.{append-nil, map-append}
use Rattle.std.specs.Prelude.{Option, Some, None, IfSome}
use Rattle.std.specs.Iterator.{IsFinite, MakesProgress, Yields, count_unless, size}
use Rattle.std.specs.Iterator.Adapters.{fuse_done, fuse_source, fuse_steps}
use Rattle.std.specs.declared.iter.Fuse.{Fuse}
use Rattle.std.specs.declared.iter.Iterator.{Ghosts as Iteration}
use Rattle.std.specs.declared.ops.RangeInclusive.{RangeInclusive}
use Rattle.rsb_integer.specs.Rank.{interval_of, intervals_of}
use Rattle.rsb_integer.specs.Runs.{Interval, HasNoRanks}
use Rattle.rsb_integer.specs.declared.integer.Integer.{Ghosts as Elements}
use Rattle.rsb_streams.specs.Fused.{fuse_can_next, fuse_remaining}
use Rattle.rsb_streams.specs.UnsortedDisjoint.{non_empty, unsorted_disjoint, IsGathered, IsProper, Meet}
use Rattle.rsb_streams.specs.declared.unsorted_disjoint.UnsortedDisjoint.{UnsortedDisjoint}
use Rattle.rsb_streams.proofs.lemmas.unsorted.Pieces.{piece-more, piece-one}
use Rattle.rsb_streams.proofs.lemmas.unsorted.Spans.{non_empty-keep, non_empty-skip}
use Rattle.rsb_streams.proofs.lemmas.unsorted.Drained.{non_empty-append}

module _ {T N I : Type 0} (integer : Elements T N) (iterator : Iteration I (RangeInclusive T)) where
  open integer use {rank, value_count as n}
  open iterator use {can_next, next_gives as steps, remaining}

  -- The iterator that joins the ranges of `iterator`.
  abbrev joins : Iteration (UnsortedDisjoint T I) (RangeInclusive T)
  joins = unsorted_disjoint integer iterator

  -- The type of the stream.
  abbrev Joining : Type 0
  Joining = UnsortedDisjoint T I

  -- The number of ranges that are left, with the held one.
  abbrev left : Joining → ℕ
  left s = size (joins.remaining s)

  -- What holds before each iteration. The items drawn since the call began are all of one piece,
  -- with those before. The held range is its span.
  pub record SoFar (entry now : Joining) : Type 0 where
    pub ready : joins.can_next now
    pub drawn : List (RangeInclusive T)
    pub draws : Yields (fuse_steps steps) entry.iter drawn now.iter
    pub gathers : (items : List Interval) → IsGathered rank n items entry.gathered
        → IsGathered rank n (items ++ non_empty (intervals_of rank drawn)) now.gathered
    pub nearer : left now ≤ left entry

  -- It holds before the first iteration, when nothing is drawn yet.
  pub so_far-none : (entry : Joining) → joins.can_next entry
      → SoFar entry entry
  so_far-none entry ready = record {
    ready = ready;
    drawn = [];
    draws = refl;
    gathers = λ items held.
        subst (λ each. IsGathered rank n each entry.gathered) (sym (append-nil items)) held;
    nearer = omega arith;
  }

  -- Whether a call of the iterator makes progress.
  abbrev Goes : Fuse I → Option (RangeInclusive T) → Fuse I → Type 0
  Goes = MakesProgress (fuse_can_next can_next) (fuse_remaining remaining)

  -- ---- one more item

  module _ (entry now : Joining) (source : Fuse I) (range : RangeInclusive T)
      (so : SoFar entry now) (call : fuse_steps steps now.iter (Some range) source)
      (goes : Goes now.iter (Some range) source) where
    -- The range was drawn after the items so far.
    draws-more : Yields (fuse_steps steps) entry.iter (so.drawn ++ range ∷ []) source
    draws-more = Yields-more (fuse_steps steps) entry.iter so.drawn now.iter range source so.draws call

    -- The range, if it is non-empty, is the last of the items.
    items-more : (items : List Interval) (more : List Interval)
        → non_empty (interval_of rank range ∷ []) ≡ more
        → (items ++ non_empty (intervals_of rank so.drawn)) ++ more
        ≡ items ++ non_empty (intervals_of rank (so.drawn ++ range ∷ []))
    items-more items more is =
        append_assoc items (non_empty (intervals_of rank so.drawn)) more
        ∙ ap (λ each. items ++ each)
        (ap (λ each. non_empty (intervals_of rank so.drawn) ++ each) (sym is)
        ∙ sym (non_empty-append (intervals_of rank so.drawn) (interval_of rank range ∷ []))
        ∙ ap non_empty (sym (map-append (interval_of rank) so.drawn (range ∷ []))))

    -- An empty range is passed over.
    pub so_far-skip : HasNoRanks (interval_of rank range)
        → SoFar entry (record { iter = source; gathered = now.gathered })
    so_far-skip empty =
        let on = goes.on so.ready.finite in
        record {
          ready = record { callable = on.0; finite = on.1; proper = so.ready.proper };
          drawn = so.drawn ++ range ∷ [];
          draws = draws-more;
          gathers = λ items held.
              let none = non_empty-skip (interval_of rank range) [] empty in
              subst (λ each. IsGathered rank n each now.gathered)
              (sym (append-nil (items ++ non_empty (intervals_of rank so.drawn)))
              ∙ items-more items [] none)
              (so.gathers items held);
          nearer = omega (arith, on.2, so.nearer);
        }

    module _ (proper : IsProper rank n range) where
      -- A proper range is the last of the items.
      one-more : (items : List Interval)
          → (items ++ non_empty (intervals_of rank so.drawn)) ++ interval_of rank range ∷ []
          ≡ items ++ non_empty (intervals_of rank (so.drawn ++ range ∷ []))
      one-more items =
          items-more items (interval_of rank range ∷ [])
          (non_empty-keep (interval_of rank range) [] proper.in_order)

      -- If nothing is held, the range begins the first piece.
      pub so_far-first : now.gathered ≡ None
          → SoFar entry (record { iter = source; gathered = Some range })
      so_far-first none =
          let on = goes.on so.ready.finite in
          record {
            ready = record { callable = on.0; finite = on.1; proper = proper };
            drawn = so.drawn ++ range ∷ [];
            draws = draws-more;
            gathers = λ items held.
                let nothing = subst (IsGathered rank n
                (items ++ non_empty (intervals_of rank so.drawn))) none (so.gathers items held) in
                subst (λ each. IsGathered rank n each (Some range))
                (sym (ap (λ each. each ++ interval_of rank range ∷ []) nothing) ∙ one-more items)
                (piece-one (interval_of rank range));
            nearer = omega (arith, on.2, so.nearer);
          }

      -- If the range overlaps or touches the span of the piece, it joins the piece.
      pub so_far-joined : (span whole : RangeInclusive T) → now.gathered ≡ Some span
          → IsProper rank n whole → Meet (interval_of rank span) (interval_of rank range)
          → (interval_of rank whole).first
          ≡ min (interval_of rank span).first (interval_of rank range).first
          → (interval_of rank whole).last
          ≡ max (interval_of rank span).last (interval_of rank range).last
          → SoFar entry (record { iter = source; gathered = Some whole })
      so_far-joined span whole is whole_proper meets first last =
          let on = goes.on so.ready.finite in
          let held = subst (λ each. size (joins.remaining
          (record { iter = now.iter; gathered = each })) ≤ left entry) is so.nearer in
          record {
            ready = record { callable = on.0; finite = on.1; proper = whole_proper };
            drawn = so.drawn ++ range ∷ [];
            draws = draws-more;
            gathers = λ items held.
                let piece = subst (IsGathered rank n
                (items ++ non_empty (intervals_of rank so.drawn))) is (so.gathers items held) in
                subst (λ each. IsGathered rank n each (Some whole)) (one-more items)
                (piece-more (items ++ non_empty (intervals_of rank so.drawn))
                (interval_of rank span) (interval_of rank range) (interval_of rank whole) piece
                meets first last);
            nearer = omega (arith, on.2, held);
          }

      -- If the range is apart from the span, the call returns the span and holds the range.
      module _ (span : RangeInclusive T) (is : now.gathered ≡ Some span) where
        -- The call fits what the stream may give.
        pub answer-span : ¬ (Meet (interval_of rank span) (interval_of rank range))
            → joins.next_gives entry (Some span)
            (record { iter = source; gathered = Some range })
        answer-span apart = record {
          drawn = so.drawn;
          between = now.iter;
          draws = so.draws;
          gathers = λ items held.
              subst (IsGathered rank n (items ++ non_empty (intervals_of rank so.drawn))) is
              (so.gathers items held);
          proper = subst (λ each. IfSome each (IsProper rank n)) is so.ready.proper;
          stops = call;
          begins = record { proper = proper; apart = apart };
        }

        -- The call makes progress.
        pub span-goes : MakesProgress joins.can_next
            joins.remaining entry (Some span)
            (record { iter = source; gathered = Some range })
        span-goes =
            let on = goes.on so.ready.finite in
            let held = subst (λ each. size (joins.remaining
            (record { iter = now.iter; gathered = each })) ≤ left entry) is so.nearer in
            let ready : joins.can_next
            (record { iter = source; gathered = Some range }) =
            record { callable = on.0; finite = on.1; proper = proper } in
            record {
              on = λ finite. (ready, on.1, omega (arith, on.2, held));
              keeps = ready;
              rests = λ finite. tt;
            }

  -- ---- the end

  -- A stream whose source has ended, and that holds nothing.
  module _ (source : Fuse I) (done : fuse_done source ≡ true) where
    -- The stream, as a state.
    abbrev ended : Joining
    ended = record { iter = source; gathered = None }

    -- The calls of the source end.
    ended-finite : IsFinite (fuse_remaining remaining source)
    ended-finite = subst (λ test. IsFinite (count_unless test (remaining (fuse_source source))))
        (sym done) tt

    -- Nothing is left in the stream.
    ended-left : left ended ≡ 0
    ended-left = ap (λ test. size (count_unless test (remaining (fuse_source source))) + 0) done

    -- The stream may be called.
    ended-ready : joins.can_next ended
    ended-ready = record {
      callable = λ undone. absurd (cc);
      finite = ended-finite;
      proper = tt;
    }

  module _ (entry now : Joining) (source : Fuse I) (so : SoFar entry now)
      (call : fuse_steps steps now.iter None source) where
    -- If the source returns `None`, the call returns what is held.
    pub answer-last : joins.next_gives entry now.gathered
        (record { iter = source; gathered = None })
    answer-last = record {
      drawn = so.drawn;
      between = now.iter;
      draws = so.draws;
      gathers = so.gathers;
      proper = so.ready.proper;
      stops = call;
      begins = tt;
    }

    -- The call makes progress. The cases are whether a range was held.
    last-by : (held : Option (RangeInclusive T)) → now.gathered ≡ held
        → MakesProgress joins.can_next joins.remaining
        entry held (record { iter = source; gathered = None })
    last-by None is = record {
      on = λ finite. tt;
      keeps = tt;
      rests = λ finite. ended-finite source call.1;
    }
    last-by (Some span) is =
        let ready = ended-ready source call.1 in
        let none = ended-left source call.1 in
        let held = subst (λ each. size (joins.remaining
        (record { iter = now.iter; gathered = each })) ≤ left entry) is so.nearer in
        record {
          on = λ finite. (ready, ended-finite source call.1, omega (arith, none, held));
          keeps = ready;
          rests = λ finite. tt;
        }

    -- The call that returns what is held makes progress.
    pub last-goes : MakesProgress joins.can_next
        joins.remaining entry now.gathered
        (record { iter = source; gathered = None })
    last-goes = last-by now.gathered refl
