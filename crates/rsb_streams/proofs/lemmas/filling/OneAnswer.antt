-- One run or gap that the iterator over both returns.
use Rattle.rsb_integer.specs.declared.integer.Integer.{Ghosts as Elements}
use Rattle.rsb_streams.specs.declared.draw.Draw.{Ghosts as Stream}
use Rattle.std.proofs.Common.{◌≡◌, ◌↔◌, ◌+◌, ◌-◌, ◌<◌, ◌≤◌, Bool, true, false, List, [], ◌∷◌, refl, sym, ap, ◌∙◌, subst, arith}
use Rattle.std.proofs.lemmas.List.Elements.{All-tail}
use Rattle.std.specs.Prelude.{Option, Some, None, IfSome, IsNone}
use Rattle.std.specs.Iterator.{MakesProgress}
use Rattle.std.specs.Range.{range_inclusive_start, range_inclusive_end, range_inclusive_exhausted}
use Rattle.std.specs.declared.ops.RangeInclusive.{RangeInclusive}
use Rattle.rsb_integer.specs.Rank.{interval_of}
use Rattle.rsb_integer.specs.Runs.{Interval, IsCanonicalFrom, IsCanonicalIn}
use Rattle.rsb_integer.proofs.lemmas.Canonical.{canonical-lower}
use Rattle.rsb_streams.specs.FillGapsIter.{FilledOutcomes, FillsFrom, values_from, FillSteps, GivesFilled, fill_can_next, fill_may_give, fill_remaining, fills_after}
use Rattle.rsb_streams.specs.NotIter.{NotReady}
use Rattle.rsb_streams.specs.laws.Stream.{canonical-sorted, sorted-below}
use Rattle.rsb_streams.specs.PutBack.{put_back, IsFresh, IsPutBack}
use Rattle.rsb_streams.specs.Stream.{◌⊆◌, SomeOutcome}
use Rattle.rsb_streams.specs.declared.fill_gaps_iter.FillGapsIter.{FillGapsIter}
use Rattle.rsb_streams.specs.declared.put_back.PutBack.{PutBack}
use Rattle.rsb_streams.proofs.lemmas.filling.Lists.{fills-all, fills-end, fills-gap, fills-last, fills-run}
use Rattle.rsb_streams.proofs.lemmas.checking.Comparisons.{next-value}
use Rattle.rsb_streams.proofs.lemmas.gaps.Loop.{answered}
use Rattle.rsb_streams.proofs.lemmas.sources.Known.{IsLawful, fresh-may, fresh-ready, put_back-lawful, put_back-may, put_back-ready, range-end, range-start}
use Rattle.rsb_streams.proofs.lemmas.joining.Gathered.{head-sorted, LiesFrom}

module _ {I T N : Type 0} (integer : Elements T N) (source : Stream I T N) where
  open integer use {rank, value_count as n}

  -- The stream, to which a range may be put back.
  abbrev held : Stream (PutBack T I) T N
  held = put_back integer source

  -- Whether the stream is ready for a gap that starts at the value.
  abbrev Ready : PutBack T I → T → Type 0
  Ready = NotReady integer held

  -- Whether the iterator may be called.
  abbrev can : FillGapsIter T I → Type 0
  can = fill_can_next integer source

  -- What the iterator may give.
  abbrev may : FillGapsIter T I → FilledOutcomes
  may = fill_may_give integer source

  -- Whether a call fits the iterator.
  abbrev Answered : FillGapsIter T I → Option (RangeInclusive T × Bool) → FillGapsIter T I → Type 0
  Answered = FillSteps integer source

  -- A state of the iterator.
  abbrev state : PutBack T I → Option T → FillGapsIter T I
  state iter start = record { iter = iter; start = start }

  -- ---- runs and gaps of which none was returned yet
  module _ (iter : I) (s : FillGapsIter T I) (least : T) (fresh : IsFresh iter s.iter)
      (begins : s.start ≡ Some least) (is_least : rank least ≡ 0)
      (canonical : source.may_give iter ⊆ IsCanonicalIn n) where
    -- The iterator may be called if the stream is ready.
    pub fresh-can : source.can_draw iter → 2 ≤ n → can s
    fresh-can drawable some = subst (λ start. can (state s.iter start)) (sym begins) (record {
      callable = fresh-ready integer source iter s.iter fresh drawable (λ runs at.
          let all = canonical runs at in canonical-sorted n 0 runs all.apart all.within);
      value = omega (arith, is_least, some);
      ahead = λ runs at. subst (λ from. IsCanonicalFrom from runs) (sym is_least)
          (canonical runs (fresh-may integer source iter s.iter fresh runs at)).apart;
    })

    -- The iterator gives the filled list of what the stream may give.
    pub fresh-filled : GivesFilled n (source.may_give iter) (may s)
    fresh-filled pairs at = λ nothing.
        subst (λ start. fills_after rank n start (held.may_give s.iter) pairs) begins at
        (λ given might fills.
        let given_may = fresh-may integer source iter s.iter fresh given might in
        nothing given given_may (fills-all n given pairs (canonical given given_may)
        (subst (λ from. FillsFrom n from given pairs) is_least fills)))

  module _ (laws : IsLawful integer source) where
    -- The stream to which a range may be put back is lawful.
    held_laws : IsLawful integer held
    held_laws = put_back-lawful integer source laws

    module _ (i j : PutBack T I) (now : Option T) (start : T) (ready_now : can (state i now))
        (is : now ≡ Some start) where
      -- The stream is ready for a gap at `start`.
      ready : Ready i start
      ready = subst (λ each. can (state i each)) is ready_now

      -- A call may return a pair that might come first from `start` onwards.
      answers-at : (pair : RangeInclusive T × Bool) (t : FillGapsIter T I)
          → ((rest : List (Interval × Bool)) → may t rest
          → may (state i (Some start)) ((interval_of rank pair.0, pair.1) ∷ rest))
          → Answered (state i now) (Some pair) t
      answers-at pair t answers = record {
        answers = λ rest at. subst (λ each. fills_after rank n each (held.may_give i)
            ((interval_of rank pair.0, pair.1) ∷ rest)) (sym is) (answers rest at);
        rests = tt;
      }

      -- ---- the stream has ended

      -- The gap to the greatest value is the last.
      pub last-gap : (greatest : T) (answer : RangeInclusive T) → held.draw_gives i None j
          → rank greatest + 1 ≡ n → range_inclusive_exhausted answer ≡ false
          → range_inclusive_start answer ≡ start → range_inclusive_end answer ≡ greatest
          → Answered (state i now) (Some (answer, false)) (state j None)
      last-gap greatest answer call top fresh from to =
          let low = ready.value in
          let gap = answered integer held start greatest answer fresh from to in
          answers-at (answer, false) (state j None) (λ rest none nothing.
          nothing [] (held_laws.answers i j None call)
          (subst (λ each. FillsFrom n (rank start) [] ((interval_of rank answer, false) ∷ each))
          (sym none)
          (subst (λ each. FillsFrom n (rank start) [] ((each, false) ∷ [])) (sym gap)
          (fills-last n (record { first = rank start; last = rank greatest })
          (omega (arith, low, top)) top))))

      -- After the last gap, nothing is left.
      pub last-goes : (pair : RangeInclusive T × Bool)
          → MakesProgress can (fill_remaining integer) (state i now) (Some pair) (state j None)
      last-goes pair =
          let begin = ready.value in
          rw is (record {
            on = λ finite. (tt, tt, omega (arith, begin));
            keeps = tt;
            rests = λ finite. tt;
          })

      -- ---- one range of the stream
      module _ (range : RangeInclusive T) (call : held.draw_gives i (Some range) j)
          (goes : MakesProgress held.can_draw held.draws_left i (Some range) j) where
        -- The ranks of the range.
        abbrev run : Interval
        run = interval_of rank range

        -- The range, followed by what may come after it, might come before, and is canonical.
        comes : (rest : List Interval) → held.may_give j rest
            → record {
              before : held.may_give i (run ∷ rest);
              ahead : IsCanonicalFrom (rank start) (run ∷ rest);
              canonical : IsCanonicalIn n (run ∷ rest);
            }
        comes rest at =
            let before = held_laws.answers i j (Some range) call rest at in
            let ahead = ready.ahead (run ∷ rest) before in
            let sorted = (held_laws.sorted i ready.callable).all (run ∷ rest) before in
            record {
              before = before;
              ahead = ahead;
              canonical = record {
                apart = canonical-lower (rank start) 0 (run ∷ rest) (omega arith) ahead;
                within = sorted-below n 0 (run ∷ rest) sorted;
              };
            }

        -- The range is non-empty, within the type, and starts no earlier than the gap might.
        facts : LiesFrom n (rank start) run
        facts = head-sorted n (rank start) run (held.may_give j) (held_laws.sorted j goes.keeps).some
            (λ rest at. let all = comes rest at in
            canonical-sorted n (rank start) (run ∷ rest) all.ahead all.canonical.within)

        -- The range starts at the rank of its start.
        low : run.first ≡ rank (range_inclusive_start range)
        low = range-start rank range facts.in_order

        -- The start of the gap and the start of the range are values of the type.
        pub values : (rank start < n) × (rank (range_inclusive_start range) < n)
        values =
            let all = facts in
            let first = low in
            (ready.value, omega (arith, all.in_order, all.in_type, first))

        -- There is a gap before the range, which is put back.
        module _ (w : PutBack T I) (put : IsPutBack range j w) (next : T)
            (next_is : next ≡ range_inclusive_start range) (less : rank start < rank next) where
          -- The range starts at that value.
          first : run.first ≡ rank next
          first = low ∙ sym (ap rank next_is)

          -- The stream is ready for the range.
          ready-run : can (state w (Some next))
          ready-run = record {
            callable = put_back-ready integer source range j w call.room put goes.keeps
                (λ rest at. ready.callable.sorted (run ∷ rest) (comes rest at).before);
            value = let all = facts in let is_first = first in
                omega (arith, all.in_order, all.in_type, is_first);
            ahead = λ runs at.
                let found = put_back-may integer source range j w runs call.room put at in
                let canonical = (comes found.rest found.given).ahead in
                let is_first = first in
                subst (IsCanonicalFrom (rank next)) (sym found.is)
                (record {
                  starts = omega (arith, is_first);
                  in_order = canonical.in_order;
                  rest = canonical.rest;
                });
          }

          -- The gap comes first.
          pub gap-answers : (last : T) (answer : RangeInclusive T) → rank last + 1 ≡ rank next
              → range_inclusive_exhausted answer ≡ false → range_inclusive_start answer ≡ start
              → range_inclusive_end answer ≡ last
              → Answered (state i now) (Some (answer, false)) (state w (Some next))
          gap-answers last answer one fresh from to =
              let gap = answered integer held start last answer fresh from to in
              let all = facts in
              let is_first = first in
              answers-at (answer, false) (state w (Some next)) (λ rest at nothing.
              at (λ given might fills.
              let found = put_back-may integer source range j w given call.room put might in
              let canonical = (comes found.rest found.given).ahead in
              let fills_run : FillsFrom n run.first (run ∷ found.rest) rest =
              subst (λ each. FillsFrom n run.first each rest) found.is
              (subst (λ each. FillsFrom n each given rest) (sym is_first) fills) in
              nothing (run ∷ found.rest) (comes found.rest found.given).before
              (subst (λ each. FillsFrom n (rank start) (run ∷ found.rest) ((each, false) ∷ rest))
              (sym gap)
              (fills-gap n (record { first = rank start; last = rank last }) run found.rest rest
              (omega (arith, less, is_first)) all.in_order all.in_type (omega (arith, one, is_first))
              canonical.rest fills_run))))

          -- Fewer values are left from the range onwards.
          pub gap-goes : (answer : RangeInclusive T)
              → MakesProgress {A = RangeInclusive T × Bool} can (fill_remaining integer) (state i now) (Some (answer, false))
              (state w (Some next))
          gap-goes answer =
              let after = ready-run in
              let begin = ready.value in
              rw is (record {
                on = λ finite. (after, tt, omega (arith, less, begin));
                keeps = after;
                rests = λ finite. tt;
              })

        -- The range starts where a gap might.
        module _ (next : Option T) (end : T) (to : end ≡ range_inclusive_end range)
            (most : rank (range_inclusive_start range) ≤ rank start)
            (none : IsNone next ↔ (rank end + 1 ≡ n))
            (more : IfSome next (λ each. rank each ≡ rank end + 1)) where
          -- The range starts at the value where a gap might.
          first-is : run.first ≡ rank start
          first-is = let all = facts in let is_low = low in omega (arith, all.starts, is_low, most)

          -- The range ends at the rank of its end.
          last-is : run.last ≡ rank end
          last-is = range-end rank range facts.in_order ∙ sym (ap rank to)

          -- What may come after the range are the runs and gaps past it.
          after-run : (next : Option T) → (IsNone next ↔ (rank end + 1 ≡ n))
              → IfSome next (λ each. rank each ≡ rank end + 1)
              → (rest : List (Interval × Bool)) → may (state j next) rest
              → SomeOutcome (held.may_give j) (λ given. FillsFrom n (run.last + 1) given rest)
          after-run None none more rest at = λ nothing.
              (held_laws.sorted j goes.keeps).some (λ given might.
              let canonical = (comes given might).canonical in
              let top : run.last + 1 ≡ n = omega (arith, last-is, none.0 refl) in
              let tail = All-tail (λ (each : Interval). each.last < n) run given canonical.within in
              nothing given might (rw (at, top) (fills-end n run.last given top tail canonical.apart.rest)))
          after-run (Some each) none more rest at =
              let past : rank each ≡ run.last + 1 = omega (arith, last-is, more) in
              subst (λ from. SomeOutcome (held.may_give j) (λ given. FillsFrom n from given rest))
              past at

          -- The run comes first.
          pub run-answers : Answered (state i now) (Some (range, true)) (state j next)
          run-answers = answers-at (range, true) (state j next) (λ rest at nothing.
              after-run next none more rest at (λ given might fills.
              nothing (run ∷ given) (comes given might).before
              (subst (λ from. FillsFrom n from (run ∷ given) ((run, true) ∷ rest)) first-is
              (fills-run n run given rest facts.in_order fills))))

          -- The stream is ready for what comes past the range.
          ready-past : (next : Option T) → (IsNone next ↔ (rank end + 1 ≡ n))
              → IfSome next (λ each. rank each ≡ rank end + 1) → can (state j next)
          ready-past None none more = tt
          ready-past (Some each) none more =
              let all = facts in
              let is_last = last-is in
              record {
                callable = goes.keeps;
                value = next-value n (rank end) (rank each) (omega (arith, all.in_type, is_last))
                    (λ top. let no = none.1 top in absurd (cc)) more;
                ahead = λ rest at. canonical-lower (run.last + 2) (rank each) rest
                    (omega (arith, more, is_last)) (comes rest at).ahead.rest;
              }

          -- Fewer values are left past the range.
          fewer : (next : Option T) → IfSome next (λ each. rank each ≡ rank end + 1)
              → values_from rank n next < n - rank start
          fewer None more = let begin = ready.value in omega (arith, begin)
          fewer (Some each) more =
              let begin = ready.value in
              let all = facts in
              let is_first = first-is in
              let is_last = last-is in
              omega (arith, begin, all.in_order, all.in_type, is_first, is_last, more)

          -- So the call makes progress.
          pub run-goes : MakesProgress {A = RangeInclusive T × Bool} can (fill_remaining integer) (state i now)
              (Some (range, true)) (state j next)
          run-goes =
              let past = ready-past next none more in
              let less = fewer next more in
              rw is (record {
                on = λ finite. (past, tt, less);
                keeps = past;
                rests = λ finite. tt;
              })
