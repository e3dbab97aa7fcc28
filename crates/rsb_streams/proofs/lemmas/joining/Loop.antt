-- The loop of a union.
use Rattle.rsb_integer.specs.declared.integer.Integer.{Ghosts as Elements}
use Rattle.rsb_streams.specs.declared.draw.Draw.{Ghosts as Stream}
use Rattle.std.proofs.Common.{◌≡◌, ℕ, ◌+◌, ◌<◌, ◌≤◌, max, true, false, List, [], ◌∷◌, ◌++◌, refl, sym, ap, ◌∙◌, subst, arith}
use Rattle.std.proofs.lemmas.List.Elements.{All-nil}
use Rattle.std.specs.Prelude.{Option, Some, None, MatchOption}
use Rattle.std.specs.Iterator.{Count, IsFinite, MakesProgress, Yields, size}
use Rattle.std.specs.Range.{range_inclusive_start, range_inclusive_end, range_inclusive_exhausted}
use Rattle.std.specs.declared.ops.RangeInclusive.{RangeInclusive}
use Rattle.rsb_integer.specs.Rank.{interval_of, intervals_of}
use Rattle.rsb_integer.specs.Runs.{Interval, members}
use Rattle.rsb_integer.proofs.lemmas.List.{not_both}
use Rattle.rsb_integer.proofs.lemmas.Runs.{canonical-runs}
use Rattle.rsb_streams.specs.Fused.{fused_stream, Fused}
use Rattle.rsb_streams.specs.Lookahead.{AreWithin, IsOneFrom}
use Rattle.rsb_streams.specs.PutBack.{fused_of, held_list, put_back, HasRoom, IsPutBack}
use Rattle.rsb_streams.specs.Stream.{Outcomes, joined_runs}
use Rattle.rsb_streams.specs.UnionIter.{union_iter, AsksToJoin}
use Rattle.rsb_streams.specs.declared.put_back.PutBack.{PutBack}
use Rattle.rsb_streams.specs.declared.union_iter.UnionIter.{UnionIter}
use Rattle.rsb_streams.proofs.lemmas.lookahead.EachCall.{call-by, from-none, from-some, room-by, within-more, within-wider, yields-more}
use Rattle.rsb_streams.proofs.lemmas.sources.Known.{IsLawful, put_back-lawful, put_back-may, put_back-ready, put_back-rests, put_back-size, range-end, range-start}
use Rattle.rsb_streams.proofs.lemmas.joining.Gathered.{Gathers, gathers-first, gathers-more, gathers-answer, next-sorted, next-past, no-runs}

module _ {S T N : Type 0} (integer : Elements T N) (source : Stream S T N) where
  open integer use {rank, value_count as n}

  -- Whether what was held at the entry and what was drawn since lie within the interval.
  pub record Took (entry now : PutBack T S) (within : Interval) : Type 0 where
    pub drawn : List (RangeInclusive T)
    pub draws : Yields (fused_stream source).draw_gives (fused_of entry) drawn (fused_of now)
    pub all : AreWithin within (held_list rank entry.held ++ intervals_of rank drawn)

  -- The range of the first draw lies within the interval. The cases are whether it was held.
  took-by : (held : Option (RangeInclusive T)) (s t : Fused S) (range : RangeInclusive T)
      (within : Interval) → within.first ≤ (interval_of rank range).first
      → (interval_of rank range).last ≤ within.last
      → MatchOption held ((fused_stream source).draw_gives s (Some range) t)
      (λ each. (Some range ≡ Some each) × (t ≡ s))
      → (drawn : List (RangeInclusive T)) × Yields (fused_stream source).draw_gives s drawn t
      × AreWithin within (held_list rank held ++ intervals_of rank drawn)
  took-by None s t range within low high call = (range ∷ [], (t, call, refl), (low, high, tt))
  took-by (Some held) s t range within low high call =
      let is = call.0 in
      let same : held ≡ range = cc in
      ([], sym call.1, rw same (low, high, tt))

  -- The first draw took a range within the interval.
  took-first : (s t : PutBack T S) (range : RangeInclusive T) (within : Interval)
      → within.first ≤ (interval_of rank range).first
      → (interval_of rank range).last ≤ within.last
      → (put_back integer source).draw_gives s (Some range) t → Took s t within
  took-first s t range within low high call =
      let took = took-by s.held (fused_of s) (fused_of t) range within low high call.call in
      record { drawn = took.0; draws = took.1; all = took.2 }

  -- One more range was drawn within the interval.
  took-more : (entry s t : PutBack T S) (range : RangeInclusive T) (before within : Interval)
      → HasRoom s → Took entry s before → within.first ≤ before.first
      → before.last ≤ within.last → within.first ≤ (interval_of rank range).first
      → (interval_of rank range).last ≤ within.last
      → (put_back integer source).draw_gives s (Some range) t → Took entry t within
  took-more entry s t range before within room took low high from to call = record {
    drawn = took.drawn ++ range ∷ [];
    draws = yields-more (fused_stream source).draw_gives took.drawn range (fused_of entry)
        (fused_of s)
        (fused_of t) took.draws
        (call-by integer source s.held (Some range) (fused_of s) (fused_of t) room call.call);
    all = within-more rank within (held_list rank entry.held) took.drawn range
        (within-wider before within (held_list rank entry.held ++ intervals_of rank took.drawn)
        low high took.all)
        from to;
  }

  -- What holds before each iteration. The ranges drawn since the entry cover the ranks from `start`
  -- to `end`, and fewer are left.
  pub record SoFar (entry now : PutBack T S) (start end : T) : Type 0 where
    pub room : HasRoom now
    pub ready : (put_back integer source).can_draw now
    pub gathers : Gathers n ((put_back integer source).may_give entry)
        ((put_back integer source).may_give now)
        (record { first = rank start; last = rank end })
    pub took : Took entry now (record { first = rank start; last = rank end })
    pub nearer : size ((put_back integer source).draws_left now)
        < size ((put_back integer source).draws_left entry)

  module _ (laws : IsLawful integer source) where
    -- What is held and still to come.
    abbrev may : PutBack T S → Outcomes
    may = (put_back integer source).may_give

    -- The number of ranges held and still to come.
    abbrev left : PutBack T S → Count
    left = (put_back integer source).draws_left

    -- The stream with what is held is lawful.
    held_laws : IsLawful integer (put_back integer source)
    held_laws = put_back-lawful integer source laws

    -- If the stream is ready, it ends.
    ends : (s : PutBack T S) → (put_back integer source).can_draw s → IsFinite (left s)
    ends s ready = (held_laws.sorted s ready).ends

    -- Whether a draw makes progress.
    abbrev Goes : PutBack T S → Option (RangeInclusive T) → PutBack T S → Type 0
    Goes s item t = MakesProgress (put_back integer source).can_draw left s item t

    -- The type of the union.
    abbrev Union : Type 0
    Union = UnionIter T S

    -- Whether a draw fits the union.
    abbrev Answered : Union → Option (RangeInclusive T) → Union → Type 0
    Answered = (union_iter integer source).draw_gives

    -- The ranks from one value to another.
    abbrev run : T → T → Interval
    run start end = record { first = rank start; last = rank end }

    -- If the source returns `None`, the union returns `None`, and nothing comes.
    pub rests : (s t : Union) (item : Option (RangeInclusive T)) → item ≡ None
        → (put_back integer source).draw_gives s.iter None t.iter → Answered s item t
    rests s t item is call =
        let nothing = put_back-rests integer source
        s.iter t.iter call in
        let room = room-by integer source s.iter.held (fused_of s.iter) (fused_of t.iter) call.call in
        rw is (record {
          answers = λ never. never [] (held_laws.answers s.iter t.iter None call)
              (canonical-runs n [] tt (All-nil (λ (run : Interval). run.last < n)));
          rests = (
            nothing.0,
            λ runs may. no-runs n runs
                (λ fails. may (λ given at. fails given (nothing.1 given at))),
          );
          asks = record {
            held = room;
            room = call.room;
            draw = call-by integer source s.iter.held None (fused_of s.iter) (fused_of t.iter) room
                call.call;
          };
        })

    -- The first range begins what is gathered.
    pub begun : (s t : PutBack T S) (range : RangeInclusive T) (start end : T)
        → (put_back integer source).can_draw s
        → (put_back integer source).draw_gives s (Some range) t
        → Goes s (Some range) t → start ≡ range_inclusive_start range → end
        ≡ range_inclusive_end range
        → SoFar s t start end
    begun s t range start end ready call goes from to =
        let on = goes.on (ends s ready) in
        let first = interval_of rank range in
        let gathers = gathers-first n (may s) (may t) first (held_laws.sorted s ready).all
        (held_laws.sorted t on.0).some (held_laws.answers s t (Some range) call) in
        let low = range-start rank range gathers.ordered ∙ sym (ap rank from) in
        let high = range-end rank range gathers.ordered ∙ sym (ap rank to) in
        record {
          room = call.room;
          ready = on.0;
          gathers = subst (Gathers n (may s) (may t)) (λ i. record { first = low i; last = high i })
              gathers;
          took = took-first s t range (run start end) (omega (arith, low)) (omega (arith, high)) call;
          nearer = on.2;
        }

    -- The next range starts and ends at values of the type.
    pub next-values : (entry s t : PutBack T S) (start end : T) (range : RangeInclusive T)
        → SoFar entry s start end
        → (put_back integer source).draw_gives s (Some range) t → Goes s (Some range) t
        → (rank (range_inclusive_start range) < n)
        × (rank (range_inclusive_end range) < n)
    next-values entry s t start end range so call goes =
        let facts = next-sorted n (may entry) (may s) (may t) (run start end)
        (interval_of rank range)
        so.gathers (held_laws.sorted t goes.keeps).some (held_laws.answers s t (Some range) call) in
        let low = range-start rank range facts.in_order in
        let high = range-end rank range facts.in_order in
        (omega (arith, facts.in_order, facts.in_type, low), omega (arith, facts.in_type, high))

    -- One more range, which overlaps or touches, is gathered.
    pub more : (entry s t : PutBack T S) (start end last : T) (range : RangeInclusive T)
        → SoFar entry s start end
        → (put_back integer source).draw_gives s (Some range) t → Goes s (Some range) t
        → rank (range_inclusive_start range) ≤ rank end + 1
        → rank last ≡ max (rank end) (rank (range_inclusive_end range))
        → SoFar entry t start last
    more entry s t start end last range so call goes touching most =
        let on = goes.on (ends s so.ready) in
        let next = interval_of rank range in
        let some = (held_laws.sorted t on.0).some in
        let answers = held_laws.answers s t (Some range) call in
        let facts = next-sorted n (may entry) (may s) (may t) (run start end) next so.gathers some
        answers in
        let low = range-start rank range facts.in_order in
        let high = range-end rank range facts.in_order in
        let gathers = gathers-more n (may entry) (may s) (may t) (run start end) next so.gathers
        some answers
        (omega (arith, low, touching)) in
        let end_is : max (rank end) next.last ≡ rank last = omega (arith, most, high) in
        record {
          room = call.room;
          ready = on.0;
          gathers = subst (Gathers n (may entry) (may t))
              (λ i. record { first = rank start; last = end_is i }) gathers;
          took = took-more entry s t range (run start end) (run start last) so.room so.took
              (omega arith) (omega (arith, end_is)) (omega (arith, facts.starts))
              (omega (arith, end_is)) call;
          nearer = omega (arith, on.2, so.nearer);
        }

    -- The interval of what was gathered is that of the returned range.
    gathered : (start end : T) (answer : RangeInclusive T) → range_inclusive_exhausted answer
        ≡ false
        → range_inclusive_start answer ≡ start → range_inclusive_end answer ≡ end
        → run start end ≡ interval_of rank answer
    gathered start end answer fresh from to = rw (fresh, from, to) refl

    -- The draw returns the gathered range, if the ranks from `start` to `end` may come first.
    answer-from : (entry : PutBack T S) (t : Union) (start end : T) (answer : RangeInclusive T)
        → range_inclusive_exhausted answer ≡ false
        → range_inclusive_start answer ≡ start → range_inclusive_end answer ≡ end
        → ((rest : List Interval) → joined_runs n (may t.iter) rest
        → joined_runs n (may entry) (run start end ∷ rest))
        → AsksToJoin integer source (record { iter = entry }) (Some answer) t
        → Answered (record { iter = entry }) (Some answer) t
    answer-from entry t start end answer fresh from to answers asks = record {
      answers = subst (λ first. (rest : List Interval) → joined_runs n (may t.iter) rest
          → joined_runs n (may entry) (first ∷ rest)) (gathered start end answer fresh from to)
          answers;
      rests = tt;
      asks = asks;
    }

    -- What was drawn lies within the returned range, and one more draw gave what is held.
    joins : (entry s : PutBack T S) (t : Union) (start end : T) (answer : RangeInclusive T)
        → range_inclusive_exhausted answer ≡ false
        → range_inclusive_start answer ≡ start → range_inclusive_end answer ≡ end
        → Took entry s (run start end)
        → (fused_stream source).draw_gives (fused_of s) t.iter.held (fused_of t.iter)
        → IsOneFrom (rank end + 2) (held_list rank t.iter.held)
        → AsksToJoin integer source (record { iter = entry }) (Some answer) t
    joins entry s t start end answer fresh from to took call ahead =
        let same = gathered start end answer fresh from to in
        record {
          drawn = took.drawn;
          draws = (fused_of s, took.draws, call);
          within = subst (λ each. AreWithin each
              (held_list rank entry.held ++ intervals_of rank took.drawn)) same took.all;
          ahead = subst (λ (each : Interval). IsOneFrom (each.last + 2)
              (held_list rank t.iter.held)) same ahead;
        }

    -- At the end, the draw returns what was gathered.
    pub answer-last : (entry s : PutBack T S) (t : Union) (start end : T)
        (answer : RangeInclusive T)
        → SoFar entry s start end → (put_back integer source).draw_gives s None t.iter
        → range_inclusive_exhausted answer ≡ false
        → range_inclusive_start answer ≡ start → range_inclusive_end answer ≡ end
        → Answered (record { iter = entry }) (Some answer) t
    answer-last entry s t start end answer so call fresh from to =
        let nothing = put_back-rests integer source
        s t.iter call in
        answer-from entry t start end answer fresh from to
        (gathers-answer n (may entry) (may s) (may t.iter) (run start end) so.gathers (λ late at.
        let none = nothing.1 late at in (
          rw none (held_laws.answers s t.iter None call),
          λ place member. absurd (not_both (members [] place)
              (subst (λ each. members each place ≡ true) none member) refl),
        )))
        (joins entry s t start end answer fresh from to so.took
        (subst (λ held. (fused_stream source).draw_gives (fused_of s) held (fused_of t.iter))
        (sym call.room)
        (call-by integer source s.held None (fused_of s) (fused_of t.iter) so.room call.call))
        (from-none rank (rank end + 2) t.iter.held call.room))

    -- The next range starts past the gathered ranks, with a gap between, and is put back.
    module _ (entry s u : PutBack T S) (t : Union) (start end : T) (range answer : RangeInclusive T)
        (so : SoFar entry s start end)
        (call : (put_back integer source).draw_gives s (Some range) u)
        (goes : Goes s (Some range) u) (put : IsPutBack range u t.iter)
        (apart : rank end + 1 < rank (range_inclusive_start range)) where
      -- What may still come might come before, and its members are past the gathered ranks, with a
      -- gap between.
      past : (late : List Interval) → may t.iter late
          → may s late × ((place : ℕ) → members late place ≡ true → rank end + 2 ≤ place)
      past late at =
          let first = put_back-may integer source range u t.iter late call.room put at in
          let before = held_laws.answers s u (Some range) call first.rest first.given in
          let sorted = so.gathers.sorted (interval_of rank range ∷ first.rest) before in
          let low = range-start rank range sorted.in_order in (
            subst (may s) (sym first.is) before,
            λ place member. next-past n (interval_of rank range) first.rest (rank start)
                (rank end) place sorted (omega (arith, low, apart))
                (subst (λ each. members each place ≡ true) first.is member),
          )

      -- The draw returns the gathered range, which comes before what may still come.
      pub answer-ahead : range_inclusive_exhausted answer ≡ false
          → range_inclusive_start answer ≡ start → range_inclusive_end answer ≡ end
          → Answered (record { iter = entry }) (Some answer) t
      answer-ahead fresh from to =
          let facts = next-sorted n (may entry) (may s) (may u) (run start end)
          (interval_of rank range)
          so.gathers (held_laws.sorted u goes.keeps).some (held_laws.answers s u (Some range) call) in
          let low = range-start rank range facts.in_order in
          let drew = call-by integer source s.held (Some range) (fused_of s) (fused_of u) so.room
          call.call in
          answer-from entry t start end answer fresh from to
          (gathers-answer n (may entry) (may s) (may t.iter) (run start end) so.gathers past)
          (joins entry s t start end answer fresh from to so.took
          (subst (λ held. (fused_stream source).draw_gives (fused_of s) held (fused_of t.iter))
          (sym put.held)
          (subst (λ state. (fused_stream source).draw_gives (fused_of s) (Some range) state)
          (sym put.iter) drew))
          (from-some rank (rank end + 2) t.iter.held range put.held (omega (arith, low, apart))))

      -- The union is ready again, and its end is nearer.
      pub ahead-goes : MakesProgress ((union_iter integer source).can_draw)
          (union_iter integer source).draws_left (record { iter = entry }) (Some answer) t
      ahead-goes =
          let on = goes.on (ends s so.ready) in
          let ready = put_back-ready integer source range u t.iter call.room put on.0 (λ rest at.
          so.ready.sorted (interval_of rank range ∷ rest)
          (held_laws.answers s u (Some range) call rest at)) in
          let one = put_back-size integer source range u t.iter call.room put in
          record {
            on = λ finite. (ready, ends t.iter ready, omega (arith, one, on.2, so.nearer));
            keeps = ready;
            rests = λ finite. tt;
          }
