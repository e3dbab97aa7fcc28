-- One more range, for the pieces that an odd number of ranges covers.
use Rattle.rsb_integer.specs.declared.integer.Integer.{Ghosts as Elements}
use Rattle.rsb_streams.specs.declared.draw.Draw.{Ghosts as Stream}
use Rattle.std.proofs.Common.{◌≡◌, ℕ, ◌+◌, ◌<◌, ◌≤◌, true, false, cond, nat_le, nat_lt, List, ◌∷◌, ◌++◌, length, refl, sym, ap, ◌∙◌, subst, arith}
use Rattle.std.proofs.lemmas.Bool.Decides.{nat_tests}
use Rattle.std.specs.Prelude.{Option, Some, None}
use Rattle.std.specs.Ordering.{partial_lt}
use Rattle.std.specs.declared.cmp.Ordering.{Ordering}
use Rattle.std.specs.Iterator.{Count, IsFinite, MakesProgress, size}
use Rattle.std.specs.Range.{range_inclusive_start, range_inclusive_end, range_inclusive_exhausted}
use Rattle.std.specs.declared.ops.RangeInclusive.{RangeInclusive}
use Rattle.rsb_integer.specs.Rank.{interval_of}
use Rattle.rsb_integer.specs.Runs.{Interval, covers, from_to, members}
use Rattle.rsb_integer.specs.Selection.{exclusive_or}
use Rattle.rsb_integer.proofs.lemmas.Members.{same_interval}
use Rattle.rsb_streams.specs.OddPieces.{odd_may_give, odd_remaining, oddly_covered, past_both, pieces_of, pending_rest, rank_after, ends_of, begun_from, ArePieces, IsGoing, IsOneRunFrom, IsTwofold, odd_pieces}
use Rattle.rsb_streams.specs.Stream.{Outcomes, ◌⊆◌, run_if_any, outcomes_unless, HasOutcome}
use Rattle.rsb_streams.specs.declared.odd_pieces.OddPieces.{OddPieces}
use Rattle.rsb_streams.proofs.lemmas.checking.Comparisons.{IsRanked, less-rank, not_less-rank}
use Rattle.rsb_streams.proofs.lemmas.gaps.Loop.{answered}
use Rattle.rsb_streams.proofs.lemmas.odd.Ranks.{past-twofold, pieces-before, pieces-first, pieces-past, twofold-tail}
use Rattle.rsb_streams.proofs.lemmas.sources.Known.{IsLawful, range-start, range-end}
use Rattle.rsb_streams.proofs.lemmas.joining.Gathered.{head-sorted, LiesFrom}
use Rattle.rsb_streams.proofs.lemmas.odd.Drawn.{begun-past, begun-some, drawn-more, members-if, one-if, past-odd, takes-more, DrawnSince}
use Rattle.rsb_streams.proofs.lemmas.odd.Ends.{so-by}
use Rattle.rsb_streams.proofs.lemmas.odd.States.{OddSoFar, state, one-held, HasPassed}
use Rattle.rsb_streams.specs.laws.Merge.{sorted-raise}

-- No rank from `next` on is before `next`.
none-from : (first next at : ℕ) → next ≤ at → false ≡ cond (nat_le first at) (nat_lt at next) false
none-from first next at past = grind (arith, nat_tests)

-- No rank is from `first` on and before `next` if that is no later.
none-between : (first next at : ℕ) → next ≤ first
    → false ≡ cond (nat_le first at) (nat_lt at next) false
none-between first next at most = grind (arith, nat_tests)

module _ {I T N : Type 0} (integer : Elements T N) (source : Stream I T N) where
  open integer use {rank, value_count as n}

  -- Whether the pieces are ready.
  abbrev can : OddPieces T I → Type 0
  can = (odd_pieces integer source).can_draw

  -- What the pieces may give.
  abbrev may : OddPieces T I → Outcomes
  may = odd_may_give integer source

  -- The number of pieces that are left, at most.
  abbrev left_of : OddPieces T I → Count
  left_of = odd_remaining integer source

  -- What holds before each iteration: what may come now might come at the entry.
  abbrev SoFar : OddPieces T I → OddPieces T I → Type 0
  SoFar = OddSoFar integer source

  -- Whether a draw fits the pieces.
  abbrev Answered : OddPieces T I → Option (RangeInclusive T) → OddPieces T I → Type 0
  Answered = (odd_pieces integer source).draw_gives

  -- The source is lawful, and values compare as their ranks do.
  module _ (laws : IsLawful integer source) {partial_cmp : T → T → Option Ordering}
      {cmp : T → T → Ordering} (ranked : IsRanked rank n partial_cmp cmp) where
    -- ---- one more range
    module _ (entry was : OddPieces T I) (j : I) (next next_end : T) (range : RangeInclusive T)
        (so_now : SoFar entry was) (call : source.draw_gives was.iter (Some range) j)
        (goes : MakesProgress source.can_draw source.draws_left was.iter (Some range) j)
        (from : next ≡ range_inclusive_start range) (to : next_end ≡ range_inclusive_end range)
      where
        -- Something may come after the range.
        some : HasOutcome (source.may_give j)
        some = (laws.sorted j goes.keeps).some

        -- The range, followed by what may come after it, might come before the draw.
        before : (given : List Interval) → source.may_give j given
            → source.may_give was.iter (interval_of rank range ∷ given)
        before given at = laws.answers was.iter j (Some range) call given at

        -- The range is non-empty and within the type.
        facts : LiesFrom n 0 (interval_of rank range)
        facts = head-sorted n 0 (interval_of rank range) (source.may_give j) some
            (λ given at. (laws.sorted was.iter so_now.going.callable).all
            (interval_of rank range ∷ given) (before given at))

        -- The interval of the range is from the rank of its start to the rank of its end.
        is_run : interval_of rank range ≡ from_to (rank next) (rank next_end)
        is_run = same_interval (interval_of rank range) (from_to (rank next) (rank next_end))
            (range-start rank range facts.in_order ∙ sym (ap rank from))
            (range-end rank range facts.in_order ∙ sym (ap rank to))

        -- So this interval, followed by what may come after it, might come before the draw.
        comes : (given : List Interval) → source.may_give j given
            → source.may_give was.iter (from_to (rank next) (rank next_end) ∷ given)
        comes given at =
            subst (λ run. source.may_give was.iter (run ∷ given)) is_run (before given at)

        -- The source ends, and has fewer ranges left than before the draw.
        pub fewer : IsFinite (source.draws_left j) × (size (source.draws_left j) < size (source.draws_left was.iter))
        fewer =
            let on = goes.on (laws.sorted was.iter so_now.going.callable).ends in
            (on.1, on.2)

        -- The new range is non-empty.
        in_order : rank next ≤ rank next_end
        in_order =
            let ordered = facts.in_order in
            let low = ap (λ run. run.first) is_run in
            let high = ap (λ run. run.last) is_run in
            omega (arith, ordered, low, high)

        -- Both ends of the range are values of the type.
        next-values : (rank next < n) × (rank next_end < n)
        next-values =
            let all = facts in
            let low = ap (λ run. run.first) is_run in
            let high = ap (λ run. run.last) is_run in
            (omega (arith, all.in_order, all.in_type, low, high), omega (arith, all.in_type, high))

        -- If the range and those to come satisfy `IsTwofold`, the state in which only this range is
        -- pending satisfies `IsGoing`.
        going-next : ((given : List Interval) → source.may_give j given
            → IsTwofold n (from_to (rank next) (rank next_end) ∷ given))
            → IsGoing integer source (state j next (Some next_end))
        going-next twofold = record {
          callable = goes.keeps;
          twofold = twofold;
        }

        -- The state in which only the range is pending.
        abbrev next_state : OddPieces T I
        next_state = record { iter = j; done = was.done; start = next; end = Some next_end }

        -- The pieces have not ended, so what holds of that state with `done` unset holds of it.
        from-state : (Holds : OddPieces T I → Type 0) → Holds (state j next (Some next_end))
            → Holds next_state
        from-state Holds at = subst
            (λ done. Holds (record { iter = j; done = done; start = next; end = Some next_end }))
            (sym so_now.undone) at

        -- The members of the new range as the pending one.
        new-run : (at : ℕ)
            → members (begun_from rank next (Some next_end)) at ≡ covers (interval_of rank range) at
        new-run at =
            begun-some rank next (Some next_end) next_end at refl
            ∙ ap (λ run. covers run at) (sym is_run)

        -- If no range is pending, the new one is pending next, and is one of those drawn.
        pub drawn-begins : DrawnSince integer source entry was → None ≡ was.end
            → DrawnSince integer source entry next_state
        drawn-begins drew is = drawn-more integer source entry was drew range next_state call
            (λ at. new-run at ∙ sym (ap (λ held.
            exclusive_or (members (begun_from rank was.start held) at)
            (covers (interval_of rank range) at)) (sym is)))

        -- If no range is pending, the new one is pending next.
        pub so-begins : None ≡ was.end → SoFar entry next_state
        so-begins is =
            let so = so-by integer source entry was None so_now (sym is) in
            let less = fewer in
            let nearer = so.nearer in
            from-state (SoFar entry) (record {
              undone = refl;
              going = going-next (λ given at.
                  so.going.twofold (from_to (rank next) (rank next_end) ∷ given) (comes given at));
              same = λ pieces at. so.same pieces (λ nothing. at (λ given might all.
                  nothing (from_to (rank next) (rank next_end) ∷ given) (comes given might) all));
              nearer = omega (arith, less.1, nearer);
            })

        -- A range up to `end` is pending.
        module _ (end : T) (is : Some end ≡ was.end) where
          -- What holds before the iteration, with the pending end written out.
          so : SoFar entry (state was.iter was.start (Some end))
          so = so-by integer source entry was (Some end) so_now (sym is)

          -- The pending range, the new one and those to come satisfy `IsTwofold`.
          twofold : (given : List Interval) → source.may_give j given
              → IsTwofold n (from_to (rank was.start) (rank end) ∷ from_to (rank next) (rank next_end) ∷ given)
          twofold given at = so.going.twofold (from_to (rank next) (rank next_end) ∷ given) (comes given at)

          -- The pending range is non-empty and within the type.
          pending-facts : LiesFrom n 0 (from_to (rank was.start) (rank end))
          pending-facts = head-sorted n 0 (from_to (rank was.start) (rank end))
              (λ given. (rest : List Interval) × source.may_give j rest
              × (given ≡ from_to (rank next) (rank next_end) ∷ rest))
              (λ never. some (λ given at. never (from_to (rank next) (rank next_end) ∷ given)
              (given, at, refl)))
              (λ given at. rw at.2 (twofold at.0 at.1).sorted)

          -- The ends of both ranges are values of the type.
          pub both-values : (rank was.start < n) × (rank end < n) × (rank next < n) × (rank next_end < n)
          both-values =
              let all = pending-facts in
              let low = all.in_order in
              let high = all.in_type in
              (omega (arith, low, high), high, next-values.0, next-values.1)

          -- If the pending range starts before the new one, the new one does not start at rank 0.
          pub next-above : true ≡ partial_lt partial_cmp was.start next → 0 < rank next
          next-above test =
              let less = less-rank ranked was.start next both-values.0
              both-values.2 test in
              omega (arith, less)

          -- If the new range starts past the pending end, the draw returns the pending range.
          pub apart-answers : DrawnSince integer source entry was
              → true ≡ partial_lt partial_cmp end next → (answer : RangeInclusive T)
              → range_inclusive_exhausted answer ≡ false → range_inclusive_start answer ≡ was.start
              → range_inclusive_end answer ≡ end
              → Answered entry (Some answer) next_state
          apart-answers drew test answer fresh at_start at_end =
              let apart = less-rank ranked end next both-values.1
              both-values.2 test in
              let first = from_to (rank was.start) (rank end) in
              let run = from_to (rank next) (rank next_end) in
              let gap = answered integer source was.start end answer fresh at_start at_end in
              from-state (Answered entry (Some answer)) (record {
                answers = λ rest at. so.same (interval_of rank answer ∷ rest) (λ nothing.
                    at (λ given might all.
                    let both = (twofold given might).sorted in
                    nothing (run ∷ given) (comes given might)
                    (subst (λ each. ArePieces n (oddly_covered (first ∷ run ∷ given)) (each ∷ rest))
                    (sym gap)
                    (pieces-first n first (run ∷ given) rest both.in_order both.in_type
                    (sorted-raise n first.first (first.last + 1) run given (omega arith) both.rest)
                    all))));
                rests = tt;
                asks =
                    let last = ap (λ run. run.last) gap in
                    takes-more integer source entry was drew range (state j next (Some next_end)) call
                    refl answer (omega (arith, last, apart), in_order)
                    (λ at from. new-run at ∙ sym (ap (λ test.
                    exclusive_or test (covers (interval_of rank range) at))
                    (begun-past rank was.start was.end end at (sym is) (omega (arith, last, from)))));
              })

          -- That draw makes progress.
          pub apart-goes : (answer : RangeInclusive T)
              → MakesProgress can left_of entry (Some answer) next_state
          apart-goes answer =
              let going = going-next (λ given at.
              twofold-tail n (from_to (rank was.start) (rank end)) (from_to (rank next) (rank next_end) ∷ given)
              (twofold given at)) in
              let less = fewer in
              let nearer = so.nearer in
              from-state (MakesProgress can left_of entry (Some answer)) (record {
                on = λ finite. ((λ undone. going), less.0, omega (arith, less.1, nearer));
                keeps = λ undone. going;
                rests = λ finite. tt;
              })

          -- The two ranges overlap, and what is past the lesser end is pending next.
          module _ (test : false ≡ partial_lt partial_cmp end next) (now : OddPieces T I)
              (passed : HasPassed rank j end next_end now) where
            -- The new range starts no later than the pending end.
            meets : rank next ≤ rank end
            meets = not_less-rank ranked end next both-values.1 both-values.2 test

            -- The new range starts no earlier than the pending one.
            later : rank was.start ≤ rank next
            later = (head-sorted n (rank was.start) (from_to (rank next) (rank next_end))
                (source.may_give j) some (λ given at. (twofold given at).sorted.rest)).starts

            -- The call left the source as it is in the next state.
            call-now : source.draw_gives was.iter (Some range) now.iter
            call-now = subst (λ iter. source.draw_gives was.iter (Some range) iter) (sym passed.iter)
                call

            -- What is pending next is in exactly one of the two ranges, at a rank that is not
            -- before the new one.
            odd-now : (at : ℕ)
                → false ≡ cond (nat_le (rank was.start) at) (nat_lt at (rank next)) false
                → members (pending_rest rank now) at
                ≡ exclusive_or (members (pending_rest rank was) at)
                (covers (interval_of rank range) at)
            odd-now at before_both =
                ap (λ runs. members runs at) passed.left
                ∙ members-if (past_both rank end next_end) at
                ∙ past-odd (from_to (rank was.start) (rank end)) (from_to (rank next) (rank next_end))
                (past_both rank end next_end) later meets in_order refl refl at before_both
                ∙ ap (λ test. exclusive_or test (covers (from_to (rank next) (rank next_end)) at))
                (sym (begun-some rank was.start was.end end at (sym is)))
                ∙ ap (λ run. exclusive_or (members (pending_rest rank was) at) (covers run at))
                (sym is_run)

            -- If the pending range does not start before the new one, no piece is returned, and the
            -- new one is among those drawn since the entry.
            pub drawn-passed : DrawnSince integer source entry was
                → false ≡ partial_lt partial_cmp was.start next → DrawnSince integer source entry now
            drawn-passed drew not_before =
                let most = not_less-rank ranked was.start next both-values.0
                both-values.2 not_before in
                drawn-more integer source entry was drew range now call-now
                (λ at. odd-now at (none-between (rank was.start) (rank next) at most))

            -- What the source may give in the next state, it may give after the draw.
            same-source : (given : List Interval) → source.may_give now.iter given
                → source.may_give j given
            same-source given at = subst (λ iter. source.may_give iter given) passed.iter at

            -- What is pending and to come next satisfies `IsTwofold`.
            twofold-now : (given : List Interval) → source.may_give now.iter given
                → IsTwofold n (pending_rest rank now ++ given)
            twofold-now given at = subst (λ each. IsTwofold n (each ++ given)) (sym passed.left)
                (past-twofold n (from_to (rank was.start) (rank end)) (from_to (rank next) (rank next_end))
                (past_both rank end next_end) given (twofold given (same-source given at)) meets refl
                refl)

            -- The next state satisfies `IsGoing`.
            going-now : IsGoing integer source now
            going-now = record {
              callable = subst source.can_draw (sym passed.iter) goes.keeps;
              twofold = twofold-now;
            }

            -- Pieces of what is pending and to come next are pieces of what is past the lesser end
            -- and to come.
            then-pieces : (given rest : List Interval)
                → ArePieces n (oddly_covered (pending_rest rank now ++ given)) rest
                → ArePieces n (oddly_covered (run_if_any (past_both rank end next_end) ++ given)) rest
            then-pieces given rest all =
                subst (λ each. ArePieces n (oddly_covered (each ++ given)) rest) passed.left all

            -- What may come in the next state are pieces of what is pending and to come.
            now-may : may now ⊆ pieces_of n (pending_rest rank now) (source.may_give now.iter)
            now-may pieces at = subst (λ each. outcomes_unless each
                (pieces_of n (pending_rest rank now) (source.may_give now.iter)) pieces)
                passed.undone at

            -- Fewer pieces are left in the next state than at the entry.
            now-less : size (left_of now) < size (left_of entry)
            now-less =
                let less = fewer in
                let short = one-held now.end in
                let nearer = so.nearer in
                let same : size (source.draws_left now.iter) ≡ size (source.draws_left j) =
                ap (λ iter. size (source.draws_left iter)) passed.iter in
                let all : size (left_of now) ≡ size (source.draws_left now.iter) + length (ends_of now.end) =
                rw passed.undone refl in
                omega (arith, less.1, short, nearer, same, all)

            -- If the pending range starts before the new one, the draw returns what is before the
            -- new one.
            pub gap-answers : DrawnSince integer source entry was
                → true ≡ partial_lt partial_cmp was.start next → (last : T)
                (answer : RangeInclusive T) → rank last + 1 ≡ rank next
                → range_inclusive_exhausted answer ≡ false → range_inclusive_start answer ≡ was.start
                → range_inclusive_end answer ≡ last → Answered entry (Some answer) now
            gap-answers drew before_next last answer one fresh at_start at_end =
                let less = less-rank ranked was.start next both-values.0
                both-values.2 before_next in
                let gap = answered integer source was.start last answer fresh at_start at_end in
                let first = from_to (rank was.start) (rank end) in
                let run = from_to (rank next) (rank next_end) in
                record {
                  answers = λ rest at. so.same (interval_of rank answer ∷ rest) (λ nothing.
                      now-may rest at (λ given might all. nothing (run ∷ given) (comes given (same-source given might))
                      (subst (λ each. ArePieces n (oddly_covered (first ∷ run ∷ given)) (each ∷ rest))
                      (sym gap)
                      (pieces-before n first run (past_both rank end next_end) given
                      (twofold given (same-source given might)) meets refl refl (from_to (rank was.start) (rank last)) rest less refl
                      one (then-pieces given rest all)))));
                  rests = tt;
                  asks =
                      let high = ap (λ run. run.last) gap in
                      takes-more integer source entry was drew range now call-now passed.undone answer
                      (subst (IsOneRunFrom (rank_after rank (Some answer))) (sym passed.left)
                      (one-if (rank_after rank (Some answer)) (past_both rank end next_end)
                      (omega (arith, high, one, meets, in_order))))
                      (λ at from. odd-now at (none-from (rank was.start) (rank next) at
                      (omega (arith, high, one, from))));
                }

            -- That draw makes progress.
            pub gap-goes : (answer : RangeInclusive T) → MakesProgress can left_of entry (Some answer) now
            gap-goes answer =
                let less = fewer in
                record {
                  on = λ finite. (
                    (λ undone. going-now),
                    rw (passed.undone, passed.iter) less.0,
                    now-less,
                  );
                  keeps = λ undone. going-now;
                  rests = λ finite. tt;
                }

            -- If the pending range does not start before the new one, there is no piece before it,
            -- and the loop continues.
            pub so-passed : false ≡ partial_lt partial_cmp was.start next → SoFar entry now
            so-passed not_before =
                let most = not_less-rank ranked was.start next both-values.0
                both-values.2 not_before in
                let less = now-less in
                record {
                  undone = passed.undone;
                  going = going-now;
                  same = λ pieces at. so.same pieces (λ nothing. now-may pieces at (λ given might all.
                      nothing (from_to (rank next) (rank next_end) ∷ given)
                      (comes given (same-source given might))
                      (pieces-past n (from_to (rank was.start) (rank end)) (from_to (rank next) (rank next_end))
                      (past_both rank end next_end) given (twofold given (same-source given might)) meets refl refl
                      pieces most (then-pieces given pieces all))));
                  nearer = omega (arith, less);
                }
