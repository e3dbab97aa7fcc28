-- The laws of std's adapters over a stream.
use Rattle.std.proofs.Common.{◌≡◌, ℕ, zero, suc, ◌-◌, ◌<◌, ◌≤◌, Bool, true, false, List, [], ◌∷◌, take, length, refl, sym, subst, inl, inr, arith}
use Rattle.std.proofs.lemmas.List.{append-nil}
use Rattle.std.specs.Fn.{CalledAt}
use Rattle.std.specs.List.{FoldsTo}
use Rattle.std.specs.Prelude.{Option, Some, None, MatchBool}
use Rattle.std.specs.Iterator.{CallableOnAllAt, CallableWhileAt, IsFinite, YieldsThen, count_map, count_min, at_most}
use Rattle.std.specs.Iterator.Adapters.{filter_callee, filter_source, filter_steps, fuse_done, fuse_source, fuse_steps, skip_count, skip_source, skip_steps, skip_while_callee, skip_while_done_skipping, skip_while_source, skip_while_steps, take_count, take_source, take_steps, take_while_callee, take_while_done, take_while_source, take_while_steps}
use Rattle.std.specs.declared.iter.Filter.{Filter}
use Rattle.std.specs.declared.iter.Fuse.{Fuse}
use Rattle.std.specs.declared.iter.Iterator.{Ghosts as Iteration}
use Rattle.std.specs.declared.iter.Skip.{Skip}
use Rattle.std.specs.declared.iter.SkipWhile.{SkipWhile}
use Rattle.std.specs.declared.iter.Take.{Take}
use Rattle.std.specs.declared.iter.TakeWhile.{TakeWhile}
use Rattle.std.specs.declared.ops.RangeInclusive.{RangeInclusive}
use Rattle.rsb_integer.specs.Prefix.{IsPrefix, IsSuffix}
use Rattle.rsb_integer.specs.Runs.{Interval}
use Rattle.rsb_integer.specs.declared.integer.Integer.{Ghosts as Elements}
use Rattle.rsb_streams.specs.laws.AdapterCall.{filter-gives, fuse-gives, skip-gives, skip_while-gives, take-gives, take_while-gives}
use Rattle.rsb_streams.specs.Adapters.{adapter_stream, filter_draws, fuse_draws, IsSkipped, NextIsDraw, part_of, skip_draws, skip_while_draws, take_draws, take_while_draws}
use Rattle.rsb_streams.specs.Fused.{fuse_can_next, fuse_remaining}
use Rattle.rsb_streams.specs.laws.Fused.{fuse-keeps}
use Rattle.rsb_streams.specs.laws.Part.{front-is_part, part-keeps, rest-is_part, skip-is_part, sublist-is_part, take-is_part}
use Rattle.rsb_streams.specs.Rows.{IsAnswered, IsSorted}
use Rattle.rsb_streams.specs.Stream.{Outcomes, Answers, HasOutcome, HasSortedStarts, Keeps, outcomes_unless}
use Rattle.rsb_streams.specs.laws.Sublists.{sublist-none}
use Rattle.rsb_streams.specs.declared.draw.Draw.{Ghosts as Stream}
use denote.Param.Members.{Mut}
use denote.Ref.{Bor}

module _ {S T N : Type 0} (integer : Elements T N) (stream : Stream S T N)
    (next : Iteration S (RangeInclusive T)) (answers : IsAnswered integer stream)
    (sorted : IsSorted integer stream) (drawn : NextIsDraw stream next) where
  open integer use {rank, value_count as n}

  -- A call to the stream's `next` that returns a range fits what the stream may give.
  gives : (s t : S) (range : RangeInclusive T) → next.next_gives s (Some range) t
      → Answers rank stream.may_give s (Some range) t
  gives s t range call = answers s t (Some range) (drawn.gives s t range call)

  -- A stream that may be called may give something.
  some : (s : S) → next.can_next s → HasOutcome (stream.may_give s)
  some s can = (sorted s (drawn.drawable s can)).some

  -- A ready stream ends.
  finite : (s : S) → stream.can_draw s → IsFinite (next.remaining s)
  finite s can = subst IsFinite (sym (drawn.counts s)) (sorted s can).ends

  -- The `next` of an adapter is its `draw`.
  adapted-drawn : {A : Type 0} (own : Iteration A (RangeInclusive T)) (Source Closure : A → Type 0)
      (may_give : A → Outcomes)
      → ((s : A) → own.can_next s → Source s × Closure s)
      → ((s : A) → Source s → Closure s → own.can_next s)
      → ((s t : A) (range : RangeInclusive T) → own.next_gives s (Some range) t
      → Answers rank may_give s (Some range) t)
      → ((s t : A) → own.can_next s → own.next_gives s None t → may_give s [])
      → NextIsDraw (adapter_stream integer stream next own Source Closure may_give) own
  adapted-drawn own Source Closure may_give opens closes given ended = record {
    drawable = λ s can.
        let parts = opens s can in
        record { source = parts.0; closure = parts.1; drawn = drawn };
    callable = λ s ready. closes s ready.source ready.closure;
    gives = λ s t range each. record { call = each; answers = given s t range each };
    ends = λ s t can each. record { call = each; answers = ended s t can each };
    counts = λ s. refl;
  }

  module _ {F : Type 0} (call : Mut F (Bor (RangeInclusive T) × Unit {0}) Bool) where
    -- The `next` of a `Filter`.
    abbrev filters : Iteration (Filter S F) (RangeInclusive T)
    filters = record {
      can_next = λ s. next.can_next (filter_source s) × IsFinite (next.remaining (filter_source s))
          × CallableOnAllAt next.next_gives call (filter_source s) (filter_callee s);
      next_gives = filter_steps next.next_gives call;
      remaining = λ s. next.remaining (filter_source s);
    }

    -- This `next` is the `draw` of a `Filter`.
    pub filter-drawn : NextIsDraw (filter_draws integer stream next call filters) filters
    filter-drawn = adapted-drawn filters _ _ _
        (λ s can. (drawn.drawable (filter_source s) can.0, can.2))
        (λ s source closure. (
          drawn.callable (filter_source s) source,
          finite (filter_source s) source,
          closure,
        ))
        (filter-gives rank stream.may_give next.next_gives gives call)
        (λ s t can each nothing. some (filter_source s) can.0 (λ given at.
        nothing given at (sublist-none given)))

    -- A ready `Filter` may give something, it is sorted by start, and it ends.
    pub filter-sorted : IsSorted integer (filter_draws integer stream next call filters)
    filter-sorted s ready =
        let source = filter_source s in
        part-keeps n sublist-is_part (stream.may_give source) (stream.draws_left source)
        (next.remaining source) (finite source ready.source) (sorted source ready.source)

    -- A `TakeWhile` may give the empty list, whether it is done or not.
    take_while-none : (done : Bool) (given : List Interval)
        → MatchBool done (◌≡◌ {A = List Interval} [] []) (IsPrefix [] given)
    take_while-none true given = refl
    take_while-none false given = record { rest = given; parts = refl }

    -- The `next` of a `TakeWhile`.
    abbrev takes_while : Iteration (TakeWhile S F) (RangeInclusive T)
    takes_while = record {
      can_next = λ s. next.can_next (take_while_source s)
          × CallableWhileAt next.next_gives call true (take_while_source s) (take_while_callee s);
      next_gives = take_while_steps next.next_gives call;
      remaining = λ s. next.remaining (take_while_source s);
    }

    -- This `next` is the `draw` of a `TakeWhile`.
    pub take_while-drawn : NextIsDraw (take_while_draws integer stream next call takes_while)
        takes_while
    take_while-drawn = adapted-drawn takes_while _ _ _
        (λ s can. (drawn.drawable (take_while_source s) can.0, can.1))
        (λ s source closure. (drawn.callable (take_while_source s) source, closure))
        (take_while-gives rank stream.may_give next.next_gives gives call)
        (λ s t can each nothing. some (take_while_source s) can.0 (λ given at.
        nothing given at (take_while-none (take_while_done s) given)))

    -- A ready `TakeWhile` may give something, it is sorted by start, and it ends.
    pub take_while-sorted : IsSorted integer (take_while_draws integer stream next call takes_while)
    take_while-sorted s ready =
        let source = take_while_source s in
        part-keeps n (front-is_part (take_while_done s)) (stream.may_give source)
        (stream.draws_left source) (next.remaining source) (finite source ready.source)
        (sorted source ready.source)

    -- If a `SkipWhile` returns `None`, it may give the empty list. By cases on whether it has
    -- stopped skipping.
    skip_while-none : (started : Bool) (s t : S) → next.can_next s
        → MatchBool started (next.next_gives s None t) (Unit {0})
        → part_of (stream.may_give s) (λ runs given. MatchBool started (runs ≡ given) (IsSuffix runs given))
        []
    skip_while-none true s t can each = λ nothing.
        nothing [] (answers s t None (drawn.ends s t can each)) refl
    skip_while-none false s t can each = λ nothing. some s can (λ given at.
        nothing given at (record { passed = given; parts = sym (append-nil given) }))

    skip_while-end : (s t : SkipWhile S F) (started : Bool)
        → MatchBool started (next.next_gives (skip_while_source s) None (skip_while_source t)
        × (skip_while_done_skipping t ≡ true) × (skip_while_callee t ≡ skip_while_callee s))
        ((xs : List (RangeInclusive T)) × (f : F)
        × YieldsThen next.next_gives (skip_while_source s) xs None (skip_while_source t)
        × FoldsTo (λ p x q. CalledAt call p x true q) (skip_while_callee s) xs f
        × (skip_while_callee t ≡ f))
        → MatchBool started (next.next_gives (skip_while_source s) None (skip_while_source t)) (Unit {0})
    skip_while-end s t true each = each.0
    skip_while-end s t false each = tt

    -- The `next` of a `SkipWhile`.
    abbrev skips_while : Iteration (SkipWhile S F) (RangeInclusive T)
    skips_while = record {
      can_next = λ s. next.can_next (skip_while_source s)
          × IsFinite (next.remaining (skip_while_source s))
          × (skip_while_done_skipping s ≡ false → CallableWhileAt next.next_gives call true
          (skip_while_source s) (skip_while_callee s));
      next_gives = skip_while_steps next.next_gives call;
      remaining = λ s. next.remaining (skip_while_source s);
    }

    -- This `next` is the `draw` of a `SkipWhile`.
    pub skip_while-drawn : NextIsDraw (skip_while_draws integer stream next call skips_while)
        skips_while
    skip_while-drawn = adapted-drawn skips_while _ _ _
        (λ s can. (drawn.drawable (skip_while_source s) can.0, can.2))
        (λ s source closure. (
          drawn.callable (skip_while_source s) source,
          finite (skip_while_source s) source,
          closure,
        ))
        (skip_while-gives rank stream.may_give next.next_gives gives call)
        (λ s t can each. skip_while-none (skip_while_done_skipping s) (skip_while_source s)
        (skip_while_source t) can.0 (skip_while-end s t (skip_while_done_skipping s) each))

    -- A ready `SkipWhile` may give something, it is sorted by start, and it ends.
    pub skip_while-sorted : IsSorted integer (skip_while_draws integer stream next call skips_while)
    skip_while-sorted s ready =
        let source = skip_while_source s in
        part-keeps n (rest-is_part (skip_while_done_skipping s)) (stream.may_give source)
        (stream.draws_left source) (next.remaining source) (finite source ready.source)
        (sorted source ready.source)

  -- If a `Take` returns `None`, it may give the empty list. By cases on how many ranges it may
  -- still give.
  take-none : (count : ℕ) (s t : S) → next.can_next s → (0 < count → next.next_gives s None t)
      → part_of (stream.may_give s) (λ runs given. runs ≡ take count given) []
  take-none zero s t can each = λ nothing. some s can (λ given at. nothing given at refl)
  take-none (suc count) s t can each = λ nothing.
      nothing [] (answers s t None (drawn.ends s t can (each (omega arith)))) refl

  -- The `next` of a `Take`.
  abbrev takes : Iteration (Take S) (RangeInclusive T)
  takes = record {
    can_next = λ s. next.can_next (take_source s);
    next_gives = take_steps next.next_gives;
    remaining = λ s. count_min (at_most (take_count s)) (next.remaining (take_source s));
  }

  -- This `next` is the `draw` of a `Take`.
  pub take-drawn : NextIsDraw (take_draws integer stream next takes) takes
  take-drawn = adapted-drawn takes _ _ _
      (λ s can. (drawn.drawable (take_source s) can, tt))
      (λ s source closure. drawn.callable (take_source s) source)
      (take-gives rank stream.may_give next.next_gives gives)
      (λ s t. take-none (take_count s) (take_source s) (take_source t))

  -- A ready `Take` may give something, it is sorted by start, and it ends.
  pub take-sorted : IsSorted integer (take_draws integer stream next takes)
  take-sorted s ready =
      let source = take_source s in
      part-keeps n (take-is_part (take_count s)) (stream.may_give source)
      (stream.draws_left source) (takes.remaining s) tt (sorted source ready.source)

  -- If a `Skip` returns `None`, it may give the empty list. By cases on how many ranges it still
  -- skips.
  skip-none : (count : ℕ) (s t : S) (ranges : List (RangeInclusive T)) → next.can_next s
      → YieldsThen next.next_gives s ranges None t → length ranges ≤ count
      → part_of (stream.may_give s) (IsSkipped next.next_gives s count) []
  skip-none zero s t [] can each most = λ nothing.
      nothing [] (answers s t None (drawn.ends s t can
      (subst (λ from. next.next_gives from None t) (sym each.1) each.2))) (inl refl)
  skip-none zero s t (range ∷ ranges) can each most = absurd (omega (arith, most))
  skip-none (suc count) s t ranges can each most = λ nothing. some s can (λ given at.
      nothing given at (inr (omega arith, refl, (ranges, t, each, most))))

  -- The `next` of a `Skip`.
  abbrev skips : Iteration (Skip S) (RangeInclusive T)
  skips = record {
    can_next = λ s. next.can_next (skip_source s);
    next_gives = skip_steps next.next_gives;
    remaining = λ s. count_map (λ left. left - skip_count s) (next.remaining (skip_source s));
  }

  -- This `next` is the `draw` of a `Skip`.
  pub skip-drawn : NextIsDraw (skip_draws integer stream next skips) skips
  skip-drawn = adapted-drawn skips _ _ _
      (λ s can. (drawn.drawable (skip_source s) can, tt))
      (λ s source closure. drawn.callable (skip_source s) source)
      (skip-gives rank stream.may_give next.next_gives gives)
      (λ s t can each. skip-none (skip_count s) (skip_source s) (skip_source t) each.1.0 can
      each.1.1 each.1.2)

  -- A ready `Skip` may give something, it is sorted by start, and it ends.
  pub skip-sorted : IsSorted integer (skip_draws integer stream next skips)
  skip-sorted s ready =
      let source = skip_source s in
      part-keeps n (skip-is_part next.next_gives source (skip_count s)) (stream.may_give source)
      (stream.draws_left source) (skips.remaining s) (finite source ready.source)
      (sorted source ready.source)

  -- If a `Fuse` returns `None`, it may give the empty list. By cases on whether it had already
  -- ended.
  fuse-none : (done : Bool) (s t : S) → (done ≡ false → next.can_next s)
      → MatchBool done (◌≡◌ {A = Option (RangeInclusive T)} None None) (next.next_gives s None t)
      → outcomes_unless done (stream.may_give s) []
  fuse-none true s t can each = refl
  fuse-none false s t can each = answers s t None (drawn.ends s t (can refl) each)

  -- The `next` of a `Fuse`.
  abbrev fuses : Iteration (Fuse S) (RangeInclusive T)
  fuses = record {
    can_next = fuse_can_next next.can_next;
    next_gives = fuse_steps next.next_gives;
    remaining = fuse_remaining next.remaining;
  }

  -- This `next` is the `draw` of a `Fuse`.
  pub fuse-drawn : NextIsDraw (fuse_draws integer stream next fuses) fuses
  fuse-drawn = adapted-drawn fuses _ _ _
      (λ s can. ((λ undone. drawn.drawable (fuse_source s) (can undone)), tt))
      (λ s source closure undone. drawn.callable (fuse_source s) (source undone))
      (fuse-gives rank stream.may_give next.next_gives gives)
      (λ s t can each. fuse-none (fuse_done s) (fuse_source s) (fuse_source t) can each.0)

  -- A ready `Fuse` may give something, it is sorted by start, and it ends.
  pub fuse-sorted : IsSorted integer (fuse_draws integer stream next fuses)
  fuse-sorted s ready = fuse-keeps {N = N} (record {
    can_draw = stream.can_draw;
    draw_gives = stream.draw_gives;
    draws_left = next.remaining;
    may_give = stream.may_give;
  }) (HasSortedStarts n) tt
      (λ each can. subst (Keeps (HasSortedStarts n) (stream.may_give each)) (sym (drawn.counts each))
      (sorted each can)) s ready.source
