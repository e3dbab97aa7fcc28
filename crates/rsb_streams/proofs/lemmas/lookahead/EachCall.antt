-- What is drawn, used and held of inputs, call by call.
use Rattle.std.proofs.Common.{◌≡◌, ℕ, ◌≤◌, Bool, true, false, List, [], ◌∷◌, ◌++◌, length, refl, sym, ap, ◌∙◌, subst, append_assoc, arith}
use Rattle.std.proofs.lemmas.List.{append-nil}
use Rattle.std.specs.Prelude.{Option, Some, None, MatchOption}
use Rattle.std.specs.Iterator.{Yields}
use Rattle.std.specs.declared.ops.RangeInclusive.{RangeInclusive}
use Rattle.rsb_integer.specs.Rank.{interval_of, intervals_of}
use Rattle.rsb_integer.specs.Runs.{Interval}
use Rattle.rsb_integer.specs.declared.integer.Integer.{Ghosts as Elements}
use Rattle.rsb_streams.specs.Fused.{fused_stream, Fused}
use Rattle.rsb_streams.specs.laws.Fused.{fused-answered}
use Rattle.rsb_streams.specs.Lookahead.{with_held_ranges, undrawn_input, AreWithin, Ends, HasEnded, Input, IsOneFrom, IsUndrawn, Uses}
use Rattle.rsb_streams.specs.PutBack.{fused_of, held_list, input_of, put_back, IsFresh, IsPutBack}
use Rattle.rsb_streams.specs.Rows.{IsAnswered}
use Rattle.rsb_streams.specs.Stream.{just}
use Rattle.rsb_streams.specs.declared.draw.Draw.{Ghosts as Stream}
use Rattle.rsb_streams.specs.declared.put_back.PutBack.{PutBack}

-- ---- what is used of an input

-- A call that does nothing uses nothing.
pub uses-nothing : (input : Input) → Uses input [] input
uses-nothing input = record {
  drawn = [];
  drew = λ rest at. at;
  in_order = append-nil input.held;
}

-- Calls one after the other use what the first uses, then what the second uses.
pub uses-then : (first second third : Input) (xs ys : List Interval) → Uses first xs second
    → Uses second ys third → Uses first (xs ++ ys) third
uses-then first second third xs ys before after = record {
  drawn = before.drawn ++ after.drawn;
  drew = λ rest at. subst first.undrawn (sym (append_assoc before.drawn after.drawn rest))
      (before.drew (after.drawn ++ rest) (after.drew rest at));
  in_order = sym (append_assoc first.held before.drawn after.drawn)
      ∙ ap (λ runs. runs ++ after.drawn) before.in_order
      ∙ append_assoc xs second.held after.drawn
      ∙ ap (λ runs. xs ++ runs) after.in_order
      ∙ sym (append_assoc xs ys third.held);
}

-- What is held before the rest is used first.
pub uses-front : (before now : Input) (front used : List Interval) → Uses before used now
    → Uses (with_held_ranges front before) (front ++ used) now
uses-front before now front used uses = record {
  drawn = uses.drawn;
  drew = uses.drew;
  in_order = append_assoc front before.held uses.drawn
      ∙ ap (λ runs. front ++ runs) uses.in_order
      ∙ sym (append_assoc front used now.held);
}

-- If what was used is held again, nothing is used.
pub uses-back : (before now : Input) (used : List Interval) → Uses before used now
    → Uses before [] (with_held_ranges used now)
uses-back before now used uses = record {
  drawn = uses.drawn;
  drew = uses.drew;
  in_order = uses.in_order;
}

-- If an input ends, nothing of it is used.
pub uses-ended : (before now : Input) → Ends before now → Uses before [] now
uses-ended before now ends = record {
  drawn = ends.uses.drawn;
  drew = λ rest at. ends.uses.drew rest (ends.over.gives rest at);
  in_order = ends.uses.in_order ∙ sym ends.over.held;
}

-- ---- what lies within a returned range

-- Two lists put together lie within a range if both do.
pub within-join : (answer : Interval) (xs ys : List Interval) → AreWithin answer xs
    → AreWithin answer ys → AreWithin answer (xs ++ ys)
within-join answer [] ys first second = second
within-join answer (run ∷ xs) ys first second =
    (first.0, first.1, within-join answer xs ys first.2 second)

-- The first of two lists lies within a range if both together do.
pub within-first : (answer : Interval) (xs ys : List Interval) → AreWithin answer (xs ++ ys)
    → AreWithin answer xs
within-first answer [] ys all = tt
within-first answer (run ∷ xs) ys all = (all.0, all.1, within-first answer xs ys all.2)

-- The second of two lists lies within a range if both together do.
pub within-second : (answer : Interval) (xs ys : List Interval) → AreWithin answer (xs ++ ys)
    → AreWithin answer ys
within-second answer [] ys all = all
within-second answer (run ∷ xs) ys all = within-second answer xs ys all.2

-- What lies within an interval lies within every wider one.
pub within-wider : (answer wider : Interval) (xs : List Interval) → wider.first ≤ answer.first
    → answer.last ≤ wider.last → AreWithin answer xs → AreWithin wider xs
within-wider answer wider [] low high all = tt
within-wider answer wider (run ∷ xs) low high all =
    let low_end = all.0 in
    let high_end = all.1 in
    (omega arith, omega arith, within-wider answer wider xs low high all.2)

-- If one more drawn range lies within the returned range, so do all with it.
pub within-more : {T : Type 0} (rank : T → ℕ) (answer : Interval) (front : List Interval)
    (drawn : List (RangeInclusive T)) (range : RangeInclusive T)
    → AreWithin answer (front ++ intervals_of rank drawn)
    → answer.first ≤ (interval_of rank range).first → (interval_of rank range).last ≤ answer.last
    → AreWithin answer (front ++ intervals_of rank (drawn ++ range ∷ []))
within-more rank answer [] [] range all low high = (low, high, tt)
within-more rank answer [] (first ∷ drawn) range all low high =
    (all.0, all.1, within-more rank answer [] drawn range all.2 low high)
within-more rank answer (run ∷ front) drawn range all low high =
    (all.0, all.1, within-more rank answer front drawn range all.2 low high)

-- ---- what is held ahead

-- If no range is held, `IsOneFrom` holds of the held list.
pub from-none : {T : Type 0} (rank : T → ℕ) (first : ℕ) (held : Option (RangeInclusive T))
    → held ≡ None → IsOneFrom first (held_list rank held)
from-none rank first held is = rw is tt

-- If the held range starts at `first` or later, `IsOneFrom` holds of the held list.
pub from-some : {T : Type 0} (rank : T → ℕ) (first : ℕ) (held : Option (RangeInclusive T))
    (range : RangeInclusive T) → held ≡ Some range → first ≤ (interval_of rank range).first
    → IsOneFrom first (held_list rank held)
from-some rank first held range is most = rw is most

-- At most one range is held ahead.
pub from-one : (first : ℕ) (runs : List Interval) → IsOneFrom first runs → length runs ≤ 1
from-one first [] from = omega arith
from-one first (run ∷ []) from = omega arith
from-one first (run ∷ other ∷ runs) from = absurd from

-- What starts at `first` or later starts at any lower rank or later.
pub from-lower : (first low : ℕ) (runs : List Interval) → low ≤ first → IsOneFrom first runs
    → IsOneFrom low runs
from-lower first low [] most from = tt
from-lower first low (run ∷ []) most from = omega (arith, most, from)
from-lower first low (run ∷ other ∷ runs) most from = absurd from

-- If no range is held, the list of the held range is empty.
pub no-list : {T : Type 0} (rank : T → ℕ) (held : Option (RangeInclusive T)) → held ≡ None
    → held_list rank held ≡ []
no-list rank held is = rw is refl

-- ---- calls in a row

-- Calls and one more are a longer sequence of calls.
pub yields-more : {S A : Type 0} (steps : S → Option A → S → Type 0) (items : List A) (item : A)
    (s t u : S) → Yields steps s items t → steps t (Some item) u
    → Yields steps s (items ++ item ∷ []) u
yields-more steps [] item s t u all call =
    (u, subst (λ each. steps each (Some item) u) (sym all) call, refl)
yields-more steps (first ∷ items) item s t u all call =
    (all.0, all.1, yields-more steps items item all.0 t u all.2 call)

-- ---- a stream to which one range may be put back
module _ {T N I : Type 0} (integer : Elements T N) (stream : Stream I T N) where
  open integer use {rank}

  -- If nothing is held, a draw is one of the stream.
  pub call-by : (held item : Option (RangeInclusive T)) (s t : Fused I) → held ≡ None
      → MatchOption held ((fused_stream stream).draw_gives s item t)
      (λ each. (item ≡ Some each) × (t ≡ s))
      → (fused_stream stream).draw_gives s item t
  call-by None item s t room call = call
  call-by (Some range) item s t room call = absurd (cc)

  -- If a draw returns `None`, nothing was held before.
  pub room-by : (held : Option (RangeInclusive T)) (s t : Fused I)
      → MatchOption held ((fused_stream stream).draw_gives s None t)
      (λ each. (None ≡ Some each) × (t ≡ s))
      → held ≡ None
  room-by None s t call = refl
  room-by (Some range) s t call = let no = call.0 in absurd (cc)

  -- An input has ended if it holds nothing and its stream has ended. The cases are what is held.
  over-by : (held : Option (RangeInclusive T)) (done : Bool) (iter : I) → held ≡ None
      → done ≡ true
      → HasEnded (input_of integer stream (record { held = held; iter = iter; done = done }))
  over-by (Some range) done iter room end = absurd (cc)
  over-by None false iter room end = absurd (cc)
  over-by None true iter room end = record { held = refl; gives = λ runs at. at }

  -- If the stream is as it was at first, holds nothing and has not ended, nothing has been drawn
  -- from it.
  fresh-by : (held : Option (RangeInclusive T)) (done : Bool) (iter first : I) → held ≡ None
      → done ≡ false → iter ≡ first → IsUndrawn (stream.may_give first)
      (input_of integer stream (record { held = held; iter = iter; done = done }))
  fresh-by (Some range) done iter first room going same = absurd (cc)
  fresh-by None true iter first room going same = absurd (cc)
  fresh-by None false iter first room going same = record {
    held = refl;
    gives = λ runs at. subst (λ each. stream.may_give each runs) same at;
  }

  -- Nothing has been drawn from a fresh input.
  pub fresh-undrawn : (iter : I) (s : PutBack T I) → IsFresh iter s
      → IsUndrawn (stream.may_give iter) (input_of integer stream s)
  fresh-undrawn iter s fresh =
      fresh-by s.held s.done s.iter iter fresh.room fresh.undone fresh.source

  module _ (answers : IsAnswered integer stream) where
    -- The held range, as the list that is held, and what the stream may give.
    abbrev input : Option (RangeInclusive T) → Fused I → Input
    input held s = record { held = held_list rank held; undrawn = (fused_stream stream).may_give s }

    -- A draw uses the range that it returns. The cases are whether it was held.
    uses-by : (held after : Option (RangeInclusive T)) (s t : Fused I) (range : RangeInclusive T)
        → after ≡ None
        → MatchOption held ((fused_stream stream).draw_gives s (Some range) t)
        (λ each. (Some range ≡ Some each) × (t ≡ s))
        → Uses (input held s) (interval_of rank range ∷ []) (input after t)
    uses-by None after s t range room call = rw room (record {
      drawn = interval_of rank range ∷ [];
      drew = fused-answered integer stream answers s t (Some range) call;
      in_order = refl;
    })
    uses-by (Some held) after s t range room call =
        let is = call.0 in
        let same : held ≡ range = cc in
        rw room (record {
          drawn = [];
          drew = λ rest at. subst (λ state. (fused_stream stream).may_give state rest) call.1 at;
          in_order = ap (λ each. interval_of rank each ∷ []) same;
        })

    -- A draw uses the range that it returns.
    pub draw-uses : (s t : PutBack T I) (range : RangeInclusive T)
        → (put_back integer stream).draw_gives s (Some range) t
        → Uses (input_of integer stream s) (interval_of rank range ∷ []) (input_of integer stream t)
    draw-uses s t range call =
        uses-by s.held t.held (fused_of s) (fused_of t) range call.room call.call

    -- If a draw returns `None`, nothing is used. The cases are whether a range was held.
    ends-by : (held : Option (RangeInclusive T)) (s t : Fused I)
        → MatchOption held ((fused_stream stream).draw_gives s None t)
        (λ each. (None ≡ Some each) × (t ≡ s))
        → Uses (input held s) [] (undrawn_input (just [])) × (t.done ≡ true)
    ends-by None s t call = (
      record {
        drawn = [];
        drew = λ rest is. subst ((fused_stream stream).may_give s) (sym is)
            (fused-answered integer stream answers s t None call);
        in_order = refl;
      },
      call.1,
    )
    ends-by (Some held) s t call = let no = call.0 in absurd (cc)

    -- A draw that returns `None` ends the input.
    pub draw-ends : (s t : PutBack T I) → (put_back integer stream).draw_gives s None t
        → Ends (input_of integer stream s) (input_of integer stream t)
    draw-ends s t call =
        let found = ends-by s.held (fused_of s) (fused_of t) call.call in
        record { uses = found.0; over = over-by t.held t.done t.iter call.room found.1 }

    -- If a range is put back, it is held again. The cases are what is held.
    back-by : (held after : Option (RangeInclusive T)) (s t : Fused I) (range : RangeInclusive T)
        (before : Input) → held ≡ None → after ≡ Some range → t ≡ s
        → Uses before (interval_of rank range ∷ []) (input held s)
        → Uses before [] (input after t)
    back-by held after s t range before room is same uses = rw (is, same) (record {
      drawn = uses.drawn;
      drew = uses.drew;
      in_order = uses.in_order ∙ ap (λ each. interval_of rank range ∷ held_list rank each) room;
    })

    -- A range that was drawn and put back is held, so nothing is used.
    pub back-uses : (s u t : PutBack T I) (range : RangeInclusive T)
        → (put_back integer stream).draw_gives s (Some range) u → IsPutBack range u t
        → Uses (input_of integer stream s) [] (input_of integer stream t)
    back-uses s u t range call put =
        back-by u.held t.held (fused_of u) (fused_of t) range (input_of integer stream s) call.room
        put.held put.iter (draw-uses s u range call)
