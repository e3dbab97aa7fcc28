-- A stream of which a proof knows only the laws.
use Rattle.std.proofs.Common.{◌≡◌, ℕ, ◌+◌, ◌≤◌, Bool, true, false, List, [], ◌∷◌, sym, ap, subst, arith}
use Rattle.std.specs.Prelude.{Option, Some, None, MatchOption}
use Rattle.std.specs.Iterator.{Count, MakesProgress, size}
use Rattle.std.specs.Range.{range_inclusive_start, range_inclusive_end}
use Rattle.std.specs.declared.ops.RangeInclusive.{RangeInclusive}
use Rattle.rsb_integer.specs.Rank.{interval_of}
use Rattle.rsb_integer.specs.Runs.{Interval}
use Rattle.rsb_integer.specs.declared.integer.Integer.{Ghosts as Elements}
use Rattle.rsb_integer.proofs.lemmas.Range.{interval_of-some}
use Rattle.rsb_streams.specs.Fused.{fused_stream, Fused, fused_may_give}
use Rattle.rsb_streams.specs.PutBack.{fused_of, put_back, HasRoom, IsFresh, IsPutBack}
use Rattle.rsb_streams.specs.laws.PutBack.{put_back-answered, put_back-sorted}
use Rattle.rsb_streams.specs.Rows.{IsAnswered, IsSorted}
use Rattle.rsb_streams.specs.Stream.{◌⊆◌, after, just, outcomes_unless, HasSortedStarts, IsDrawn}
use Rattle.rsb_streams.specs.declared.draw.Draw.{Ghosts as Stream}
use Rattle.rsb_streams.specs.declared.put_back.PutBack.{PutBack}

-- The laws of a stream: each draw fits what may be given, and a ready stream is sorted by start.
pub record IsLawful {S T N : Type 0} (integer : Elements T N) (source : Stream S T N) : Type 0 where
  pub answers : IsAnswered integer source
  pub sorted : IsSorted integer source

-- If a stream is lawful, so is the stream to which a range may be put back.
pub put_back-lawful : {S T N : Type 0} (integer : Elements T N) (source : Stream S T N)
    → IsLawful integer source → IsLawful integer (put_back integer source)
put_back-lawful integer source laws = record {
  answers = put_back-answered integer source laws.answers;
  sorted = put_back-sorted integer source laws.sorted;
}

-- The interval of a non-empty range starts at the rank of its start.
pub range-start : {T : Type 0} (rank : T → ℕ) (range : RangeInclusive T)
    → (interval_of rank range).first ≤ (interval_of rank range).last
    → (interval_of rank range).first ≡ rank (range_inclusive_start range)
range-start rank range ordered = ap (λ run. run.first) (interval_of-some rank range ordered)

-- The interval of a non-empty range ends at the rank of its end.
pub range-end : {T : Type 0} (rank : T → ℕ) (range : RangeInclusive T)
    → (interval_of rank range).first ≤ (interval_of rank range).last
    → (interval_of rank range).last ≡ rank (range_inclusive_end range)
range-end rank range ordered = ap (λ run. run.last) (interval_of-some rank range ordered)

-- ---- a range that was put back
module _ {S T N : Type 0} (integer : Elements T N) (source : Stream S T N) where
  open integer use {rank, value_count as n}

  -- The stream to which a range may be put back.
  abbrev held_source : Stream (PutBack T S) T N
  held_source = put_back integer source

  -- The range that is put back comes first, followed by what was still to come. The cases are what
  -- is held before and after.
  may-by : (range : RangeInclusive T) (before held : Option (RangeInclusive T)) (s t : Fused S)
      (runs : List Interval)
      → before ≡ None → held ≡ Some range → t ≡ s
      → after rank held (fused_may_give source.may_give t) runs
      → record {
        rest : List Interval;
        given : after rank before (fused_may_give source.may_give s) rest;
        is : runs ≡ interval_of rank range ∷ rest;
      }
  may-by range before held s t runs room is same may =
      let first = subst (λ each. after rank each (fused_may_give source.may_give s) runs) is
      (subst (λ each. after rank held (fused_may_give source.may_give each) runs) same may) in
      record {
        rest = first.rest;
        given = subst (λ each. after rank each (fused_may_give source.may_give s) first.rest)
            (sym room) first.given;
        is = first.is;
      }

  -- The range that is put back comes first, followed by what was still to come.
  pub put_back-may : (range : RangeInclusive T) (s t : PutBack T S) (runs : List Interval)
      → HasRoom s
      → IsPutBack range s t → held_source.may_give t runs
      → record {
        rest : List Interval;
        given : held_source.may_give s rest;
        is : runs ≡ interval_of rank range ∷ rest;
      }
  put_back-may range s t runs room put may =
      may-by range s.held t.held (fused_of s) (fused_of t) runs room put.held put.iter may

  -- If the range followed by what was still to come is sorted by start, the stream is still ready.
  pub put_back-ready : (range : RangeInclusive T) (s t : PutBack T S) → HasRoom s
      → IsPutBack range s t
      → held_source.can_draw s
      → ((rest : List Interval) → held_source.may_give s rest
      → HasSortedStarts n (interval_of rank range ∷ rest))
      → held_source.can_draw t
  put_back-ready range s t room put ready sorted = record {
    callable = subst (fused_stream source).can_draw (sym put.iter) ready.callable;
    sorted = λ runs may.
        let first = put_back-may range s t runs room put may in
        subst (HasSortedStarts n) (sym first.is) (sorted first.rest first.given);
  }

  -- One more range is left than before.
  pub put_back-size : (range : RangeInclusive T) (s t : PutBack T S) → HasRoom s
      → IsPutBack range s t
      → size (held_source.draws_left t) ≡ size (held_source.draws_left s) + 1
  put_back-size range s t room put =
      let left = ap (λ (each : Fused S). size ((fused_stream source).draws_left each)) put.iter in
      rw (put.held, room) (omega (arith, left))

  -- ---- a stream from which nothing has been drawn yet
  fresh-by : (held : Option (RangeInclusive T)) (done : Bool) (iter s : S) → held ≡ None → done
      ≡ false → iter ≡ s
      → after rank held (outcomes_unless done (source.may_give iter)) ⊆ source.may_give s
  fresh-by held done iter s room undone same runs at =
      subst (λ each. source.may_give each runs) same
      (subst (λ each. outcomes_unless each (source.may_give iter) runs) undone
      (subst (λ each. after rank each (outcomes_unless done (source.may_give iter)) runs) room at))

  -- It gives what the stream gives.
  pub fresh-may : (iter : S) (s : PutBack T S) → IsFresh iter s
      → held_source.may_give s ⊆ source.may_give iter
  fresh-may iter s fresh = fresh-by s.held s.done s.iter iter fresh.room
      fresh.undone fresh.source

  -- If the stream is ready and what it gives is sorted by start, it is ready.
  pub fresh-ready : (iter : S) (s : PutBack T S) → IsFresh iter s → source.can_draw iter
      → source.may_give iter ⊆ HasSortedStarts n → held_source.can_draw s
  fresh-ready iter s fresh can sorted = record {
    callable = λ undone. subst source.can_draw (sym fresh.source) can;
    sorted = λ runs at. sorted runs (fresh-may iter s fresh runs at);
  }

  -- ---- a call that returned `None`

  -- Nothing comes after the call. The cases are whether the stream had ended.
  ended-by : (done : Bool) (t : S) → done ≡ true
      → (done ≡ false → source.can_draw t) × (outcomes_unless done (source.may_give t) ⊆ just [])
  ended-by true t end = ((λ no. absurd (cc)), (λ runs may. may))
  ended-by false t end = absurd (cc)

  -- Nothing comes after the call. The cases are whether a range was held.
  rests-by : (held : Option (RangeInclusive T)) (s t : Fused S)
      → MatchOption held ((fused_stream source).draw_gives s None t)
      (λ range. (None ≡ Some range) × (t ≡ s))
      → (fused_stream source).can_draw t × ((fused_stream source).may_give t ⊆ just [])
  rests-by None s t call = ended-by t.done t.iter call.1
  rests-by (Some range) s t call = let no = call.0 in absurd (cc)

  -- The stream is ready again, and nothing comes.
  pub put_back-rests : (s t : PutBack T S) → held_source.draw_gives s None t
      → held_source.can_draw t × (held_source.may_give t ⊆ just [])
  put_back-rests s t call =
      let rest = rests-by s.held (fused_of s) (fused_of t) call.call in
      let nothing : held_source.may_give t ⊆ just [] = λ runs may.
      rest.1 runs (subst (λ held. after rank held ((fused_stream source).may_give (fused_of t))
      runs)
      call.room may) in (
        record {
          callable = rest.0;
          sorted = λ runs may. rw (nothing runs may) tt;
        },
        nothing,
      )

-- ---- `next` and `draw`

module _ {S T : Type 0} {can_draw : S → Type 0}
    {draw_gives : S → Option (RangeInclusive T) → S → Type 0} {draws_left : S → Count}
    {can_next : S → Type 0} {next_gives : S → Option (RangeInclusive T) → S → Type 0}
    {remaining : S → Count}
    (drawn : IsDrawn can_draw draw_gives draws_left can_next next_gives remaining) where
  -- If the stream is ready, a call of `next` is a draw.
  pub drawn-call : (s t : S) (item : Option (RangeInclusive T)) → can_draw s
      → next_gives s item t → draw_gives s item t
  drawn-call s t None can call = drawn.ends s t (drawn.callable s can) call
  drawn-call s t (Some range) can call = drawn.gives s t range call

-- If every stream that may be called is ready, a call that makes progress for `next` also does for
-- `draw`.
pub goes-drawn : {S A : Type 0} (can_next can_draw : S → Type 0) (left : S → Count)
    → ((s : S) → can_next s → can_draw s) → (s t : S) (item : Option A)
    → MakesProgress can_next left s item t → MakesProgress can_draw left s item t
goes-drawn can_next can_draw left drawable s t None goes =
    record { on = λ finite. tt; keeps = tt; rests = goes.rests }
goes-drawn can_next can_draw left drawable s t (Some x) goes = record {
  on = λ finite. let each = goes.on finite in (drawable t each.0, each.1, each.2);
  keeps = drawable t goes.keeps;
  rests = λ finite. tt;
}
