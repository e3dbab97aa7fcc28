-- The loop of a complement.
use Rattle.rsb_integer.specs.declared.integer.Integer.{Ghosts as Elements}
use Rattle.rsb_streams.specs.declared.draw.Draw.{Ghosts as Stream}
use Rattle.std.proofs.Common.{◌≡◌, ◌↔◌, inl, inr, ◌+◌, ◌<◌, ◌≤◌, true, false, List, [], ◌∷◌, ◌++◌, refl, sym, ap, ◌∙◌, subst, arith}
use Rattle.std.specs.Prelude.{Option, Some, None, IfSome, IsNone}
use Rattle.std.specs.Iterator.{Count, IsFinite, MakesProgress, Yields, size}
use Rattle.std.specs.Range.{range_inclusive_start, range_inclusive_end, range_inclusive_exhausted}
use Rattle.std.specs.declared.ops.RangeInclusive.{RangeInclusive}
use Rattle.rsb_integer.specs.Rank.{interval_of}
use Rattle.rsb_integer.specs.Runs.{Interval, members, IsCanonicalIn, AreRuns}
use Rattle.rsb_integer.proofs.lemmas.Canonical.{canonical-lower}
use Rattle.rsb_integer.proofs.lemmas.Runs.{runs-along}
use Rattle.rsb_streams.specs.NotIter.{gaps_after, not_iter, NotReady}
use Rattle.rsb_streams.specs.laws.Stream.{canonical-sorted, sorted-below}
use Rattle.rsb_streams.specs.Stream.{Outcomes, ◌⊆◌, just, gaps_from, runs_by, HasSortedStartsFrom, SomeOutcome}
use Rattle.rsb_streams.specs.declared.not_iter.NotIter.{NotIter}
use Rattle.std.specs.Ordering.{partial_lt}
use Rattle.std.specs.declared.cmp.Ordering.{Ordering}
use Rattle.rsb_streams.proofs.lemmas.checking.Comparisons.{IsRanked, less-rank, next-value, not_less-rank}
use Rattle.rsb_streams.proofs.lemmas.lookahead.EachCall.{yields-more}
use Rattle.rsb_streams.proofs.lemmas.gaps.Lists.{gap-then, gap-last, gaps-along, no-gaps}
use Rattle.rsb_streams.proofs.lemmas.sources.Known.{IsLawful, range-start, range-end}
use Rattle.rsb_streams.proofs.lemmas.joining.Gathered.{head-sorted, LiesFrom}

module _ {I T N : Type 0} (integer : Elements T N) (source : Stream I T N) where
  open integer use {rank, value_count as n}

  -- Whether the input is ready for a gap that starts at the value.
  abbrev Ready : I → T → Type 0
  Ready = NotReady integer source

  -- Whether the complement is ready.
  abbrev can : NotIter T I → Type 0
  can = (not_iter integer source).can_draw

  -- What the complement may give.
  abbrev may : NotIter T I → Outcomes
  may = (not_iter integer source).may_give

  -- The number of gaps that are left, at most.
  abbrev left : NotIter T I → Count
  left = (not_iter integer source).draws_left

  -- What holds before each iteration: what may come now might come at the entry, and no more gaps
  -- are left.
  pub record SoFar (entry now : NotIter T I) : Type 0 where
    pub ready : can now
    pub same : may now ⊆ may entry
    pub took : (used : List (RangeInclusive T)) × Yields source.draw_gives entry.iter used now.iter
    pub nearer : size (left now) ≤ size (left entry)

  -- It holds at the entry.
  pub begun : (entry : NotIter T I) → can entry → SoFar entry entry
  begun entry ready = record {
    ready = ready;
    same = λ runs at. at;
    took = ([], refl);
    nearer = omega arith;
  }

  -- One more range was drawn from the input.
  took-more : (entry : NotIter T I) (i j : I) (now : Option T) (range : RangeInclusive T)
      → SoFar entry (record { iter = i; start = now }) → source.draw_gives i (Some range) j
      → (used : List (RangeInclusive T)) × Yields source.draw_gives entry.iter used j
  took-more entry i j now range so call = (
    so.took.0 ++ range ∷ [],
    yields-more source.draw_gives so.took.0 range entry.iter i j so.took.1 call,
  )

  -- The returned range has the ranks from that of `start` to that of `end`.
  pub answered : (start end : T) (answer : RangeInclusive T) → range_inclusive_exhausted answer
      ≡ false
      → range_inclusive_start answer ≡ start → range_inclusive_end answer ≡ end
      → interval_of rank answer ≡ record { first = rank start; last = rank end }
  answered start end answer fresh from to = rw (fresh, from, to) refl

  -- Whether a draw fits the complement.
  abbrev Answered : NotIter T I → Option (RangeInclusive T) → NotIter T I → Type 0
  Answered = (not_iter integer source).draw_gives

  -- After the last gap, nothing comes.
  pub rests : (entry now : NotIter T I) → SoFar entry now → now.start ≡ None
      → Answered entry None now
  rests entry now so none =
      let nothing : may now ⊆ just [] = λ runs at.
      subst (λ start. gaps_after rank n start (source.may_give now.iter) runs) none at in
      record {
        answers = so.same [] (subst (λ start. gaps_after rank n start (source.may_give now.iter) [])
            (sym none) refl);
        rests = (so.ready, nothing);
        asks = record { used = so.took.0; draws = inl so.took.1 };
      }

  -- After the last gap, none is left.
  pub last-goes : (entry now : NotIter T I) (j : I) (start : T) (answer : RangeInclusive T)
      → SoFar entry now → now.start ≡ Some start
      → MakesProgress can left entry (Some answer) (record { iter = j; start = None })
  last-goes entry now j start answer so is =
      let nearer = so.nearer in
      let some : size (left now) ≡ size (source.draws_left now.iter) + 1 = rw is refl in
      record {
        on = λ finite. (tt, tt, omega (arith, nearer, some));
        keeps = tt;
        rests = λ finite. tt;
      }

  module _ (laws : IsLawful integer source) where
    -- If the input returns `None`, the draw returns the gap to the greatest value.
    pub last-gap : (entry : NotIter T I) (i j : I) (now : Option T) (start greatest : T)
        (answer : RangeInclusive T)
        → SoFar entry (record { iter = i; start = now }) → now ≡ Some start → source.draw_gives i None j
        → rank greatest + 1 ≡ n → range_inclusive_exhausted answer ≡ false
        → range_inclusive_start answer ≡ start → range_inclusive_end answer ≡ greatest
        → Answered entry (Some answer) (record { iter = j; start = None })
    last-gap entry i j now start greatest answer so_now is call top fresh from to =
        let so = subst (λ each. SoFar entry (record { iter = i; start = each })) is so_now in
        let gap = answered start greatest answer fresh from to in
        let low = so.ready.value in
        let all = gap-last n (rank start) (record { first = rank start; last = rank greatest }) refl
        (omega (arith, low, top)) top in
        record {
          answers = λ rest none. rw none (so.same (interval_of rank answer ∷ []) (λ nothing.
              nothing [] (laws.answers i j None call)
              (subst (λ first. AreRuns n (gaps_from (rank start) (members [])) (first ∷ []))
              (sym gap) all)));
          rests = tt;
          asks = record { used = so_now.took.0; draws = inr ((i, so_now.took.1, call), refl) };
        }

    -- The input gives one range, and the next gap may start past its end.
    module _ (entry : NotIter T I) (i j : I) (now : Option T) (start past_gap end : T)
        (next : Option T)
        (range : RangeInclusive T) (so_now : SoFar entry (record { iter = i; start = now }))
        (is : now ≡ Some start)
        (call : source.draw_gives i (Some range) j)
        (goes : MakesProgress source.can_draw source.draws_left i (Some range) j)
        (from : past_gap ≡ range_inclusive_start range) (to : end ≡ range_inclusive_end range)
        (none : IsNone next ↔ (rank end + 1 ≡ n))
        (some : IfSome next (λ each. rank each ≡ rank end + 1)) where
      -- The ranks of the range.
      abbrev run : Interval
      run = interval_of rank range

      -- What holds before the range, with the value where the next gap may start written out.
      so : SoFar entry (record { iter = i; start = Some start })
      so = subst (λ each. SoFar entry (record { iter = i; start = each })) is so_now

      -- The range and what comes after it are canonical, and start no earlier than the gap may.
      comes : (rest : List Interval) → source.may_give j rest
          → record {
            canonical : IsCanonicalIn n (run ∷ rest);
            sorted : HasSortedStartsFrom n (rank start) (run ∷ rest);
          }
      comes rest at =
          let before = laws.answers i j (Some range) call rest at in
          let ahead = so.ready.ahead (run ∷ rest) before in
          let sorted = (laws.sorted i so.ready.callable).all (run ∷ rest) before in
          let below = sorted-below n 0 (run ∷ rest) sorted in
          record {
            canonical = record {
              apart = canonical-lower (rank start) 0 (run ∷ rest) (omega arith) ahead;
              within = below;
            };
            sorted = canonical-sorted n (rank start) (run ∷ rest) ahead below;
          }

      -- The range is non-empty, within the type, and starts no earlier than the gap may.
      facts : LiesFrom n (rank start) run
      facts = head-sorted n (rank start) run (source.may_give j) (laws.sorted j goes.keeps).some
          (λ rest at. (comes rest at).sorted)

      -- The range starts at the rank of `past_gap`.
      starts-at : run.first ≡ rank past_gap
      starts-at = range-start rank range facts.in_order ∙ sym (ap rank from)

      -- Values compare as their ranks do.
      module _ {partial_cmp : T → T → Option Ordering} {cmp : T → T → Ordering}
          (ranked : IsRanked rank n partial_cmp cmp) where
        -- The gap may start at a value of the type.
        low : rank start < n
        low = so.ready.value

        -- The range starts at a value of the type.
        high : rank past_gap < n
        high = let all = facts in omega (arith, all.in_order, all.in_type, starts-at)

        -- If the start of the gap is less than that of the range, so is its rank.
        pub gap-less : true ≡ partial_lt partial_cmp start past_gap → rank start < rank past_gap
        gap-less test = less-rank ranked start past_gap low high test

        -- Otherwise, the rank of the range's start is at most that of the start of the gap.
        pub gap-none : false ≡ partial_lt partial_cmp start past_gap → rank past_gap ≤ rank start
        gap-none test = not_less-rank ranked start past_gap low high test

      -- The range ends at the rank of its end.
      last-is : run.last ≡ rank end
      last-is = range-end rank range facts.in_order ∙ sym (ap rank to)

      -- The complement is ready at the next start.
      pub ready-next : can (record { iter = j; start = next })
      ready-next = ready-by next none some
        where
          -- The cases are whether there is a next start.
          ready-by : (next : Option T) → (IsNone next ↔ (rank end + 1 ≡ n))
              → IfSome next (λ each. rank each ≡ rank end + 1)
              → can (record { iter = j; start = next })
          ready-by None none some = tt
          ready-by (Some each) none some =
              let below = facts.in_type in
              let is = last-is in
              record {
                callable = goes.keeps;
                value = next-value n (rank end) (rank each) (omega (arith, below, is))
                    (λ top. let no = none.1 top in absurd (cc)) some;
                ahead = λ rest at. canonical-lower (run.last + 2) (rank each) rest
                    (omega (arith, some, is))
                    (comes rest at).canonical.apart.rest;
              }

      -- What may come after the range are the gaps past it.
      after-next : (rest : List Interval) → may (record { iter = j; start = next }) rest
          → SomeOutcome (source.may_give j)
          (λ given. AreRuns n (gaps_from (run.last + 1) (members given)) rest)
      after-next rest at = after-by next none some at
        where
          -- The cases are whether there is a next start.
          after-by : (next : Option T) → (IsNone next ↔ (rank end + 1 ≡ n))
              → IfSome next (λ each. rank each ≡ rank end + 1)
              → may (record { iter = j; start = next }) rest
              → SomeOutcome (source.may_give j)
              (λ given. AreRuns n (gaps_from (run.last + 1) (members given)) rest)
          after-by None none some at =
              let top : run.last + 1 ≡ n = omega (arith, last-is, none.0 refl) in
              λ nothing. (laws.sorted j goes.keeps).some (λ given might. nothing given might
              (rw (at, top) (no-gaps n (members given))))
          after-by (Some each) none some at =
              let is : rank each ≡ run.last + 1 = omega (arith, last-is, some) in
              subst (λ low. runs_by n (gaps_from low) (source.may_give j) rest) is at

      -- The gap before the range comes first.
      pub gap-answers : (before : T) (answer : RangeInclusive T) → rank start < rank past_gap
          → rank before + 1 ≡ rank past_gap
          → range_inclusive_exhausted answer ≡ false
          → range_inclusive_start answer ≡ start → range_inclusive_end answer ≡ before
          → Answered entry (Some answer) (record { iter = j; start = next })
      gap-answers before answer less one fresh from till =
          let all = facts in
          let low = starts-at in
          let gap = answered start before answer fresh from till in
          record {
            answers = λ rest at. so.same (interval_of rank answer ∷ rest) (λ nothing.
                after-next rest at (λ given might runs. nothing (run ∷ given)
                (laws.answers i j (Some range) call given might)
                (gap-then n (rank start) (interval_of rank answer) run given rest
                (omega (arith, less, low)) all.in_order all.in_type
                (ap (λ each. each.first) gap) (ap (λ each. each.last + 1) gap ∙ one ∙ sym low)
                (comes given might).canonical.apart.rest runs)));
            rests = tt;
            asks =
                let took = took-more entry i j now range so_now call in
                record { used = took.0; draws = inl took.1 };
          }

      -- If there is no gap before the range, what may come at the next start might come at the
      -- entry.
      pub no-gap : rank past_gap ≤ rank start → may (record { iter = j; start = next }) ⊆ may entry
      no-gap most rest at = so.same rest (λ nothing.
          let all = facts in
          let low = starts-at in
          after-next rest at (λ given might runs. nothing (run ∷ given)
          (laws.answers i j (Some range) call given might)
          (runs-along n (gaps_from (run.last + 1) (members given))
          (gaps_from (rank start) (members (run ∷ given))) rest
          (gaps-along n (rank start) run given (omega (arith, all.starts, low, most)) all.in_order) runs)))

      -- Fewer gaps are left at the next start.
      fewer : (finite : IsFinite (source.draws_left i))
          → IsFinite (left (record { iter = j; start = next }))
          × (size (left (record { iter = j; start = next })) < size (left entry))
      fewer finite = fewer-by next
        where
          -- The cases are whether there is a next start.
          fewer-by : (next : Option T) → IsFinite (left (record { iter = j; start = next }))
              × (size (left (record { iter = j; start = next })) < size (left entry))
          fewer-by None = let more = so.nearer in (tt, omega arith)
          fewer-by (Some each) =
              let more = so.nearer in
              let less = goes.on finite in
              (less.1, omega (arith, less.2))

      -- The input ends.
      input-ends : IsFinite (source.draws_left i)
      input-ends = (laws.sorted i so.ready.callable).ends

      -- A draw that returns a gap makes progress.
      pub gap-goes : (answer : RangeInclusive T)
          → MakesProgress can left entry (Some answer) (record { iter = j; start = next })
      gap-goes answer =
          let ready = ready-next in
          let less = fewer input-ends in
          record { on = λ finite. (ready, less.0, less.1); keeps = ready; rests = λ finite. tt }

      -- If there is no gap before the range, the loop continues at the next start.
      pub so-next : rank past_gap ≤ rank start → SoFar entry (record { iter = j; start = next })
      so-next most =
          let less = fewer input-ends in
          record {
            ready = ready-next;
            same = no-gap most;
            took = took-more entry i j now range so_now call;
            nearer = omega (arith, less.1);
          }
