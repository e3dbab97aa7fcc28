-- How far the union of a stream is ahead of the inputs of that stream, whatever their places.
use Rattle.std.proofs.Common.{◌≡◌, ◌⊎◌, inl, inr, ℕ, ◌+◌, ◌≤◌, Bool, true, false, List, [], ◌∷◌, ◌++◌, refl, subst, sym}
use Rattle.std.proofs.lemmas.List.{append-nil}
use Rattle.std.specs.Iterator.{Yields}
use Rattle.std.specs.Prelude.{Option, Some, None, MatchBool}
use Rattle.std.specs.declared.ops.RangeInclusive.{RangeInclusive}
use Rattle.rsb_integer.specs.Rank.{interval_of, intervals_of}
use Rattle.rsb_integer.specs.Runs.{Interval}
use Rattle.rsb_integer.specs.declared.integer.Integer.{Ghosts as Elements}
use Rattle.rsb_streams.specs.Fused.{fused_stream, Fused}
use Rattle.rsb_streams.specs.Lookahead.{at_side, with_held_ranges, if_same, same_side, undrawn_input, AreUndrawn, AreWithin, AsksOne, GivesFrom, HasEnded, Input, IsOneFrom, IsUndrawn, Left, LooksAhead, Right, Sameness, Spares, TakesOne, Uses}
use Rattle.rsb_streams.specs.Merge.{merge_inputs, MergesUndrawn}
use Rattle.rsb_streams.specs.PutBack.{fused_of, held_list, IsFresh}
use Rattle.rsb_streams.specs.Stream.{just, Outcomes}
use Rattle.rsb_streams.specs.Union.{UnitesUndrawn}
use Rattle.rsb_streams.specs.UnionIter.{joined_inputs, unless_ended, AsksAhead, AsksToJoin, Joins, JoinsUndrawn}
use Rattle.rsb_streams.specs.declared.draw.Draw.{Ghosts as Stream}
use Rattle.rsb_streams.specs.declared.merge.Merge.{Merge}
use Rattle.rsb_streams.specs.declared.union_iter.UnionIter.{UnionIter}
use Rattle.rsb_streams.proofs.lemmas.lookahead.EachCall.{fresh-undrawn, from-lower, uses-back, uses-ended, uses-front, uses-nothing, uses-then, within-first, within-join, within-second}

-- Whether what a call used of an input lies within the returned range.
record UsesWithin (answer : Interval) (before now : Input) : Type 0 where
  used : List Interval
  uses : Uses before used now
  within : AreWithin answer used

-- Whether the last draw of a stream used nothing more of an input. What is held then is at most one
-- range, which starts at `first` or later.
record Leaves (first : ℕ) (before now : Input) : Type 0 where
  uses : Uses before [] now
  ahead : IsOneFrom first now.held

-- If nothing is held behind the prefix, the prefix and what follows it are at most one range.
held-alone : (first : ℕ) (front held : List Interval) → held ≡ [] → IsOneFrom first front
    → IsOneFrom first (front ++ held)
held-alone first front held none ahead = rw none (rw append-nil ahead)

-- If the ranges of `front` lie within a range, so do those held at one place.
same-within : {Same Other : Type 0} (at : Same ⊎ Other) (answer : Interval) (front : List Interval)
    → AreWithin answer front → AreWithin answer (if_same at front)
same-within (inl same) answer front within = within
same-within (inr other) answer front within = tt

-- What a draw did to an input, by whether the input gave the range.
abbrev AtPlace : {Same Other : Type 0} → Same ⊎ Other → Input → Interval → Input → Type 0
AtPlace (inl same) before run now = GivesFrom before run now
AtPlace (inr other) before run now = Spares before run now

-- A draw that takes one range satisfies `AtPlace` at each place.
at-place : {Place : Type 0} (before : Place → Input) (run : Interval) (now : Place → Input)
    (takes : TakesOne before run now) (place : Place)
    (at : (place ≡ takes.place) ⊎ (¬ (place ≡ takes.place)))
    → AtPlace at (before place) run (now place)
at-place before run now takes place (inl same) =
    subst (λ each. GivesFrom (before each) run (now each)) (sym same) takes.here
at-place before run now takes place (inr other) = takes.elsewhere place other

-- If the last draw gave a range, which is then held, `Leaves` holds of the input.
leaves-by : {Same Other : Type 0} (at : Same ⊎ Other) (first : ℕ) (run : Interval)
    (before now : Input) → first ≤ run.first → AtPlace at before run now
    → Leaves first before (with_held_ranges (if_same at (run ∷ [])) now)
leaves-by (inl same) first run before now past gives = record {
  uses = uses-back before now (run ∷ []) gives.uses;
  ahead = held-alone first (run ∷ []) now.held gives.room past;
}
leaves-by (inr other) first run before now past spares = record {
  uses = record {
    drawn = spares.uses.drawn;
    drew = spares.uses.drew;
    in_order = spares.uses.in_order;
  };
  ahead = from-lower run.first first now.held past spares.later;
}

-- If a drawn range and what later draws use lie within the returned range, so does all that is
-- used.
more-by : {Same Other : Type 0} (at : Same ⊎ Other) (answer run : Interval)
    (before middle now : Input) → answer.first ≤ run.first → run.last ≤ answer.last
    → AtPlace at before run middle → UsesWithin answer middle now → UsesWithin answer before now
more-by (inl same) answer run before middle now low high gives rest = record {
  used = run ∷ rest.used;
  uses = uses-then before middle now (run ∷ []) rest.used gives.uses rest.uses;
  within = (low, high, rest.within);
}
more-by (inr other) answer run before middle now low high spares rest = record {
  used = rest.used;
  uses = uses-then before middle now [] rest.used spares.uses rest.uses;
  within = rest.within;
}

-- ---- an input that has ended

-- If nothing is held and the stream has ended, an input has ended.
ended-holds : {Same Other : Type 0} (at : Same ⊎ Other) (done : Bool) (input : Input)
    (held : List Interval) → held ≡ [] → done ≡ true
    → HasEnded (with_held_ranges (if_same at held) (unless_ended done input))
ended-holds at false input held none end = absurd (cc)
ended-holds (inl same) true input held none end = rw none (record { held = refl; gives = λ runs at. at })
ended-holds (inr other) true input held none end = record { held = refl; gives = λ runs at. at }

module _ {Place S T N : Type 0} (same : Sameness Place) (integer : Elements T N)
    (inputs : S → Place → Input) (stream : Stream S T N)
    (asks : (s t : S) (item : Option (RangeInclusive T)) → stream.draw_gives s item t
    → AsksOne integer.rank inputs s item t) where
  open integer use {rank}

  -- The inputs, as ended inputs once the stream has ended.
  abbrev inputs_now : Fused S → Place → Input
  inputs_now s place = unless_ended s.done (inputs s.iter place)

  -- A draw takes one range of one input. The cases are whether the stream had ended.
  took-by : (done after : Bool) (s t : S) (range : RangeInclusive T)
      → MatchBool done (Some range ≡ None) (stream.draw_gives s (Some range) t) → after ≡ false
      → TakesOne (λ place. unless_ended done (inputs s place)) (interval_of rank range)
      (λ place. unless_ended after (inputs t place))
  took-by true after s t range call over = absurd (cc)
  took-by false true s t range call over = absurd (cc)
  took-by false false s t range call over =
      let takes = asks s t (Some range) call in
      record { place = takes.place; here = takes.here; elsewhere = takes.elsewhere }

  -- A draw takes one range of one input.
  took : (s t : Fused S) (range : RangeInclusive T)
      → (fused_stream stream).draw_gives s (Some range) t
      → TakesOne (inputs_now s) (interval_of rank range) (inputs_now t)
  took s t range call = took-by s.done t.done s.iter t.iter range call.0 call.1

  -- What the draws used of an input lies within the returned range.
  used-along : (place : Place) (answer : Interval) (ranges : List (RangeInclusive T))
      (s t : Fused S) → Yields (fused_stream stream).draw_gives s ranges t
      → AreWithin answer (intervals_of rank ranges)
      → UsesWithin answer (inputs_now s place) (inputs_now t place)
  used-along place answer [] s t all within =
      subst (λ each. UsesWithin answer (inputs_now s place) (inputs_now each place)) all (record {
        used = [];
        uses = uses-nothing (inputs_now s place);
        within = tt;
      })
  used-along place answer (range ∷ ranges) s t all within =
      let u = all.0 in
      let takes = took s u range all.1 in
      more-by (same place takes.place) answer (interval_of rank range) (inputs_now s place)
      (inputs_now u place) (inputs_now t place) within.0 within.1
      (at-place (inputs_now s) (interval_of rank range) (inputs_now u) takes place
      (same place takes.place))
      (used-along place answer ranges u t all.2 within.2)

  -- A draw that returns `None` uses nothing. The cases are whether the stream had ended.
  none-by : (done : Bool) (s t : S) (item : Option (RangeInclusive T)) (place : Place)
      → item ≡ None → MatchBool done (item ≡ None) (stream.draw_gives s item t)
      → Uses (unless_ended done (inputs s place)) [] (undrawn_input (just []))
  none-by true s t item place is call = uses-nothing (undrawn_input (just []))
  none-by false s t item place is call =
      let ends = asks s t None (subst (λ each. stream.draw_gives s each t) is call) place in
      record { drawn = ends.uses.drawn; drew = ends.uses.drew; in_order = ends.uses.in_order }

  -- The last draw satisfies `Leaves` at each place. The cases are whether it gave a range.
  last-by : (from : Place) (first : ℕ) (held : Option (RangeInclusive T)) (u t : Fused S)
      → (fused_stream stream).draw_gives u held t → IsOneFrom first (held_list rank held)
      → (from_now : Place) × ((place : Place) → Leaves first (inputs_now u place)
      (with_held_ranges (if_same (same place from_now) (held_list rank held)) (inputs_now t place)))
  last-by from first None u t call ahead = (
    from,
    λ place.
        let over = ended-holds (same place from) t.done (inputs t.iter place) [] refl call.1 in
        let now = with_held_ranges (if_same (same place from) []) (inputs_now t place) in
        record {
          uses = uses-ended (inputs_now u place) now (record {
            uses = none-by u.done u.iter t.iter None place refl call.0;
            over = over;
          });
          ahead = rw over.held tt;
        },
  )
  last-by from first (Some range) u t call ahead =
      let run = interval_of rank range in
      let takes = took u t range call in (
        takes.place,
        λ place. leaves-by (same place takes.place) first run (inputs_now u place)
            (inputs_now t place) ahead
            (at-place (inputs_now u) run (inputs_now t) takes place (same place takes.place)),
      )

  -- A draw of a union that returns a range looks at most one range ahead in each input.
  joins-ahead : (from : Place) (s t : UnionIter T S) (answer : RangeInclusive T)
      → Joins integer stream s answer t
      → (from_now : Place) × ((place : Place) → LooksAhead (interval_of rank answer)
      (joined_inputs same integer inputs from s place)
      (joined_inputs same integer inputs from_now t place))
  joins-ahead from s t answer joins =
      let run = interval_of rank answer in
      let front = held_list rank s.iter.held in
      let first = fused_of s.iter in
      let middle = joins.draws.0 in
      let last = last-by from (run.last + 2) t.iter.held middle (fused_of t.iter) joins.draws.2
      joins.ahead in (
        last.0,
        λ place.
            let mine = if_same (same place from) front in
            let used = used-along place run joins.drawn first middle joins.draws.1
            (within-second run front (intervals_of rank joins.drawn) joins.within) in
            let held = same-within (same place from) run front
            (within-first run front (intervals_of rank joins.drawn) joins.within) in
            record {
              used = (mine ++ used.used) ++ [];
              uses = uses-then (with_held_ranges mine (inputs_now first place))
                  (inputs_now middle place)
                  (joined_inputs same integer inputs last.0 t place) (mine ++ used.used) []
                  (uses-front (inputs_now first place) (inputs_now middle place) mine used.used
                  used.uses)
                  (last.1 place).uses;
              within = within-join run (mine ++ used.used) []
                  (within-join run mine used.used held used.within) tt;
              ahead = (last.1 place).ahead;
            },
      )

  -- If nothing is held before an input of which nothing is used, nothing is used of both together.
  none-held : {Same Other : Type 0} (at : Same ⊎ Other) (held : List Interval) (input : Input)
      → held ≡ [] → Uses input [] (undrawn_input (just []))
      → Uses (with_held_ranges (if_same at held) input) [] (undrawn_input (just []))
  none-held (inl here) held input none uses =
      rw none (record { drawn = uses.drawn; drew = uses.drew; in_order = uses.in_order })
  none-held (inr other) held input none uses =
      record { drawn = uses.drawn; drew = uses.drew; in_order = uses.in_order }

  -- A draw of a union satisfies `AsksAhead` for the inputs of the stream below it.
  pub asks-ahead : (s t : UnionIter T S) (item : Option (RangeInclusive T))
      → AsksToJoin integer stream s item t → AsksAhead same integer inputs s item t
  asks-ahead s t None nothing = λ from place. record {
    uses = none-held (same place from) (held_list rank s.iter.held)
        (inputs_now (fused_of s.iter) place) (rw nothing.held refl)
        (none-by s.iter.done s.iter.iter t.iter.iter None place refl nothing.draw.0);
    over = ended-holds (same place from) t.iter.done (inputs t.iter.iter place)
        (held_list rank t.iter.held) (rw nothing.room refl) nothing.draw.1;
  }
  asks-ahead s t (Some answer) joins = λ from. joins-ahead from s t answer joins

-- ---- a union just built

-- If nothing is held before an undrawn input, and the stream has not ended, the input is still
-- undrawn.
undrawn-by : {Same Other : Type 0} (at : Same ⊎ Other) (may_give : Outcomes)
    (front : List Interval) (done : Bool) (input : Input) → front ≡ [] → done ≡ false
    → IsUndrawn may_give input
    → IsUndrawn may_give (with_held_ranges (if_same at front) (unless_ended done input))
undrawn-by at may_give front true input none undone new = absurd (cc)
undrawn-by (inl same) may_give front false input none undone new =
    rw none (record { held = new.held; gives = new.gives })
undrawn-by (inr other) may_give front false input none undone new =
    record { held = new.held; gives = new.gives }

-- If the inputs of a stream are undrawn, they are also undrawn as inputs of a fresh union of it.
pub joins-undrawn : {Place S T N : Type 0} (same : Sameness Place) (integer : Elements T N)
    (inputs : S → Place → Input) (may_give : Place → Outcomes) (below : S) (s : UnionIter T S)
    → IsFresh below s.iter → AreUndrawn may_give (inputs below)
    → JoinsUndrawn same integer inputs may_give s
joins-undrawn same integer inputs may_give below s fresh new = λ from place.
    undrawn-by (same place from) (may_give place) (held_list integer.rank s.iter.held) s.iter.done
    (inputs s.iter.iter place) (rw fresh.room refl) fresh.undone
    (subst (λ each. IsUndrawn (may_give place) (inputs each place)) (sym fresh.source) (new place))

module _ {T N L R : Type 0} (integer : Elements T N) (left : Stream L T N) (right : Stream R T N)
    (one : L) (other : R) (both : Merge T L R) (first : IsFresh one both.left)
    (second : IsFresh other both.right) where
  -- Nothing has been drawn from the two streams that are merged.
  pub merges-undrawn : MergesUndrawn integer left right one other both
  merges-undrawn Left = fresh-undrawn integer left one both.left first
  merges-undrawn Right = fresh-undrawn integer right other both.right second

  -- A fresh union of the merge has drawn nothing from them.
  pub unites-undrawn : (s : UnionIter T (Merge T L R)) → IsFresh both s.iter
      → UnitesUndrawn integer left right one other s
  unites-undrawn s fresh = joins-undrawn same_side integer (merge_inputs integer left right)
      (at_side (left.may_give one) (right.may_give other)) both s fresh merges-undrawn
