-- One range that a merge returns.
use Rattle.rsb_integer.specs.declared.integer.Integer.{Ghosts as Elements}
use Rattle.rsb_streams.specs.declared.draw.Draw.{Ghosts as Stream}
use Rattle.std.proofs.Common.{◌≡◌, ℕ, ◌<◌, ◌≤◌, List, [], ◌∷◌, refl, sym, subst, inl, inr, arith}
use Rattle.std.specs.Prelude.{Option, Some, None}
use Rattle.std.specs.Iterator.{MakesProgress}
use Rattle.std.specs.Range.{range_inclusive_start}
use Rattle.std.specs.declared.ops.RangeInclusive.{RangeInclusive}
use Rattle.rsb_integer.specs.Rank.{interval_of}
use Rattle.rsb_integer.specs.Runs.{Interval}
use Rattle.rsb_streams.specs.Lookahead.{Ends, GivesFrom, Left, Right, Side, Spares, TakesOne}
use Rattle.rsb_streams.specs.Merge.{merge, merge_inputs}
use Rattle.rsb_streams.specs.laws.Merge.{both-finite, merge-starts, merged-from, sorted-raise}
use Rattle.rsb_streams.specs.PutBack.{input_of, put_back, IsPutBack}
use Rattle.rsb_streams.specs.Stream.{Outcomes, ◌⊆◌, just, merges, HasSortedStarts, HasSortedStartsFrom, IsMergeOf}
use Rattle.rsb_streams.specs.declared.merge.Merge.{Merge}
use Rattle.rsb_streams.specs.declared.put_back.PutBack.{PutBack}
use Rattle.rsb_streams.proofs.lemmas.lookahead.EachCall.{back-uses, draw-ends, draw-uses, from-none, from-some, no-list, uses-ended}
use Rattle.rsb_streams.proofs.lemmas.sources.Known.{IsLawful, put_back-lawful, put_back-may, put_back-ready, put_back-rests, put_back-size, range-start}
use Rattle.rsb_streams.proofs.lemmas.joining.Gathered.{head-sorted, LiesFrom}

-- ---- outcomes, in a type of n values

module _ (n : ℕ) (P Q After Later : Outcomes) (run : Interval) where
  -- If a range of the left list starts no later than the right list, it may come first in the
  -- merge.
  pub head-left : P ⊆ HasSortedStarts n → ((rest : List Interval) → After rest → P (run ∷ rest))
      → Later ⊆ Q
      → Later ⊆ HasSortedStartsFrom n run.first
      → (rest : List Interval) → merges n After Later rest → merges n P Q (run ∷ rest)
  head-left sorted answers within past rest may = λ nothing. may (λ left right at also all.
      let first = sorted (run ∷ left) (answers left at) in
      let runs = merge-starts n run.first left right rest first.rest (past right also) all.0 all.1 in
      nothing (run ∷ left) right (answers left at) (within right also)
      (merged-from n 0 run rest left first runs, inl (left, refl, all.1)))

  -- If a range of the right list starts no later than the left list, it may come first in the
  -- merge.
  pub head-right : Q ⊆ HasSortedStarts n → ((rest : List Interval) → Later rest → Q (run ∷ rest))
      → After ⊆ P
      → After ⊆ HasSortedStartsFrom n run.first
      → (rest : List Interval) → merges n After Later rest → merges n P Q (run ∷ rest)
  head-right sorted answers within past rest may = λ nothing. may (λ left right at also all.
      let first = sorted (run ∷ right) (answers right also) in
      let runs = merge-starts n run.first left right rest (past left at) first.rest all.0 all.1 in
      nothing left (run ∷ right) (within left at) (answers right also)
      (merged-from n 0 run rest right first runs, inr (right, refl, all.1)))

-- A merge of two empty lists is empty.
no-merge : (runs : List Interval) → IsMergeOf [] [] runs → runs ≡ []
no-merge [] merged = refl
no-merge (run ∷ runs) merged = elim merged [
  | inl from_left ↦ let no = from_left.1 in absurd (cc)
  | inr from_right ↦ let no = from_right.1 in absurd (cc)
]

-- If neither stream may give a range, the merge gives nothing.
pub no-merges : (n : ℕ) (P Q : Outcomes) → P ⊆ just [] → Q ⊆ just [] → merges n P Q ⊆ just []
no-merges n P Q first second [] may = refl
no-merges n P Q first second (run ∷ runs) may = absurd (may (λ left right at also all.
    let merged = subst (λ each. IsMergeOf left each (run ∷ runs)) (second right also) all.1 in
    let no = no-merge (run ∷ runs)
    (subst (λ each. IsMergeOf each [] (run ∷ runs)) (first left at) merged) in
    absurd (cc)))

module _ {L R T N : Type 0} (integer : Elements T N) (left : Stream L T N)
    (right : Stream R T N)
    (left_laws : IsLawful integer left) (right_laws : IsLawful integer right) where
  open integer use {rank, value_count as n}

  -- The left stream, to which a range may be put back.
  abbrev lefts : Stream (PutBack T L) T N
  lefts = put_back integer left

  -- The right stream, to which a range may be put back.
  abbrev rights : Stream (PutBack T R) T N
  rights = put_back integer right

  -- The left stream with what is put back is lawful.
  left_held : IsLawful integer lefts
  left_held = put_back-lawful integer left left_laws

  -- The right stream with what is put back is lawful.
  right_held : IsLawful integer rights
  right_held = put_back-lawful integer right right_laws

  -- Whether the merge is ready.
  abbrev Ready : Merge T L R → Type 0
  Ready = (merge integer left right).can_draw

  -- What the merge may give.
  abbrev may : Merge T L R → Outcomes
  may = (merge integer left right).may_give

  -- Whether a draw fits the merge.
  abbrev Answered : Merge T L R → Option (RangeInclusive T) → Merge T L R → Type 0
  Answered = (merge integer left right).draw_gives

  -- A draw of the left stream uses its range.
  gives-left : (s t : PutBack T L) (range : RangeInclusive T)
      → lefts.draw_gives s (Some range) t
      → GivesFrom (input_of integer left s) (interval_of rank range) (input_of integer left t)
  gives-left s t range call = record {
    uses = draw-uses integer left left_laws.answers s t range call;
    room = no-list rank t.held call.room;
  }

  -- A draw of the right stream uses its range.
  gives-right : (s t : PutBack T R) (range : RangeInclusive T)
      → rights.draw_gives s (Some range) t
      → GivesFrom (input_of integer right s) (interval_of rank range) (input_of integer right t)
  gives-right s t range call = record {
    uses = draw-uses integer right right_laws.answers s t range call;
    room = no-list rank t.held call.room;
  }

  -- If the left stream gave the range, the draw takes one range of the left stream.
  takes-left : (s t : Merge T L R) (run : Interval)
      → GivesFrom (input_of integer left s.left) run (input_of integer left t.left)
      → Spares (input_of integer right s.right) run (input_of integer right t.right)
      → TakesOne (merge_inputs integer left right s) run (merge_inputs integer left right t)
  takes-left s t run gives spares = record {
    place = Left;
    here = gives;
    elsewhere = λ other not. other-by other not;
  }
    where
      -- The other side is the right one, which is spared.
      other-by : (other : Side) → ¬ (other ≡ Left)
          → Spares (merge_inputs integer left right s other) run
          (merge_inputs integer left right t other)
      other-by Left not = absurd (not refl)
      other-by Right not = spares

  -- If the right stream gave the range, the draw takes one range of the right stream.
  takes-right : (s t : Merge T L R) (run : Interval)
      → GivesFrom (input_of integer right s.right) run (input_of integer right t.right)
      → Spares (input_of integer left s.left) run (input_of integer left t.left)
      → TakesOne (merge_inputs integer left right s) run (merge_inputs integer left right t)
  takes-right s t run gives spares = record {
    place = Right;
    here = gives;
    elsewhere = λ other not. other-by other not;
  }
    where
      -- The other side is the left one, which is spared.
      other-by : (other : Side) → ¬ (other ≡ Right)
          → Spares (merge_inputs integer left right s other) run
          (merge_inputs integer left right t other)
      other-by Left not = spares
      other-by Right not = absurd (not refl)

  -- If both streams return `None`, both inputs end.
  both-end : (s t : Merge T L R) → lefts.draw_gives s.left None t.left
      → rights.draw_gives s.right None t.right → (side : Side)
      → Ends (merge_inputs integer left right s side) (merge_inputs integer left right t side)
  both-end s t first second Left = draw-ends integer left left_laws.answers s.left t.left first
  both-end s t first second Right =
      draw-ends integer right right_laws.answers s.right t.right second

  -- If the left stream returns `None`, the merge returns what the right stream does.
  pub only-right : (s t : Merge T L R) (item : Option (RangeInclusive T)) → Ready s
      → lefts.draw_gives s.left None t.left → rights.draw_gives s.right item t.right → Answered s item t
  only-right s t None ready none call =
      let first = put_back-rests integer left s.left t.left none in
      let second = put_back-rests integer right s.right t.right
      call in
      record {
        answers = λ nothing. nothing [] [] (left_held.answers s.left t.left None none)
            (right_held.answers s.right t.right None call) (tt, (refl, refl));
        rests = (
          record { left = first.0; right = second.0 },
          no-merges n (lefts.may_give t.left) (rights.may_give t.right) first.1 second.1,
        );
        asks = both-end s t none call;
      }
  only-right s t (Some range) ready none call =
      let first = put_back-rests integer left s.left t.left none in
      record {
        answers = head-right n (lefts.may_give s.left) (rights.may_give s.right)
            (lefts.may_give t.left)
            (rights.may_give t.right) (interval_of rank range) ready.right.sorted
            (right_held.answers s.right t.right (Some range) call)
            (λ rest at. rw (first.1 rest at) (left_held.answers s.left t.left None none))
            (λ rest at. rw (first.1 rest at) tt);
        rests = tt;
        asks = takes-right s t (interval_of rank range) (gives-right s.right t.right range call)
            (record {
              uses = uses-ended (input_of integer left s.left) (input_of integer left t.left)
                  (draw-ends integer left left_laws.answers s.left t.left none);
              later = from-none rank (interval_of rank range).first t.left.held none.room;
            });
      }

  -- If only the right stream returns `None`, the merge returns the range of the left stream.
  pub only-left : (s t : Merge T L R) (range : RangeInclusive T) → Ready s
      → lefts.draw_gives s.left (Some range) t.left → rights.draw_gives s.right None t.right
      → Answered s (Some range) t
  only-left s t range ready call none =
      let second = put_back-rests integer right s.right t.right
      none in
      record {
        answers = head-left n (lefts.may_give s.left) (rights.may_give s.right)
            (lefts.may_give t.left)
            (rights.may_give t.right) (interval_of rank range) ready.left.sorted
            (left_held.answers s.left t.left (Some range) call)
            (λ rest at. rw (second.1 rest at) (right_held.answers s.right t.right None none))
            (λ rest at. rw (second.1 rest at) tt);
        rests = tt;
        asks = takes-left s t (interval_of rank range) (gives-left s.left t.left range call)
            (record {
              uses = uses-ended (input_of integer right s.right) (input_of integer right t.right)
                  (draw-ends integer right right_laws.answers s.right t.right none);
              later = from-none rank (interval_of rank range).first t.right.held none.room;
            });
      }

  -- Both streams give a range.
  module _ (s : Merge T L R) (u : PutBack T L) (v : PutBack T R) (first second : RangeInclusive T)
      (ready : Ready s)
      (left_call : lefts.draw_gives s.left (Some first) u)
      (right_call : rights.draw_gives s.right (Some second) v)
      (left_goes : MakesProgress lefts.can_draw lefts.draws_left s.left (Some first) u)
      (right_goes : MakesProgress rights.can_draw rights.draws_left s.right (Some second) v) where
    -- The left range is non-empty and within the type.
    left_first : LiesFrom n 0 (interval_of rank first)
    left_first = head-sorted n 0 (interval_of rank first) (lefts.may_give u)
        (left_held.sorted u left_goes.keeps).some
        (λ rest at. ready.left.sorted (interval_of rank first ∷ rest)
        (left_held.answers s.left u (Some first) left_call rest at))

    -- The right range is non-empty and within the type.
    right_first : LiesFrom n 0 (interval_of rank second)
    right_first = head-sorted n 0 (interval_of rank second) (rights.may_give v)
        (right_held.sorted v right_goes.keeps).some
        (λ rest at. ready.right.sorted (interval_of rank second ∷ rest)
        (right_held.answers s.right v (Some second) right_call rest at))

    -- Both ranges start at values of the type.
    pub start-values : (rank (range_inclusive_start first) < n)
        × (rank (range_inclusive_start second) < n)
    start-values =
        let one = left_first in
        let two = right_first in
        let low = range-start rank first one.in_order in
        let high = range-start rank second two.in_order in
        (omega (arith, one.in_order, one.in_type, low), omega (arith, two.in_order, two.in_type, high))

    -- The right range starts first, and the left one is put back.
    module _ (w : PutBack T L) (put : IsPutBack first u w)
        (less : rank (range_inclusive_start second) < rank (range_inclusive_start first)) where
      -- What the left stream may give with its range put back, it might give before, and it starts
      -- no earlier than the right range.
      held-left : (runs : List Interval) → lefts.may_give w runs
          → lefts.may_give s.left runs × HasSortedStartsFrom n (interval_of rank second).first runs
      held-left runs at =
          let found = put_back-may integer left first u w runs left_call.room put at in
          let before = left_held.answers s.left u (Some first) left_call found.rest found.given in
          let sorted = ready.left.sorted (interval_of rank first ∷ found.rest) before in
          let low = range-start rank first left_first.in_order in
          let high = range-start rank second right_first.in_order in
          let all : HasSortedStartsFrom n (interval_of rank second).first
          (interval_of rank first ∷ found.rest) =
          sorted-raise n 0 (interval_of rank second).first (interval_of rank first) found.rest
          (omega (arith, low, high, less)) sorted in (
            subst (lefts.may_give s.left) (sym found.is) before,
            subst (HasSortedStartsFrom n (interval_of rank second).first) (sym found.is) all,
          )

      -- The right range comes before what may still come.
      pub right-answers : Answered s (Some second) (record { left = w; right = v })
      right-answers =
          let low = range-start rank first left_first.in_order in
          let high = range-start rank second right_first.in_order in
          record {
            answers = head-right n (lefts.may_give s.left) (rights.may_give s.right) (lefts.may_give w)
                (rights.may_give v)
                (interval_of rank second) ready.right.sorted
                (right_held.answers s.right v (Some second) right_call)
                (λ runs at. (held-left runs at).0) (λ runs at. (held-left runs at).1);
            rests = tt;
            asks = takes-right s (record { left = w; right = v }) (interval_of rank second)
                (gives-right s.right v second right_call)
                (record {
                  uses = back-uses integer left left_laws.answers s.left u w first left_call put;
                  later = from-some rank (interval_of rank second).first w.held first put.held
                      (omega (arith, low, high, less));
                });
          }

      -- The merge is ready again, and its end is nearer.
      pub right-goes : MakesProgress Ready (merge integer left right).draws_left s
          (Some second)
          (record { left = w; right = v })
      right-goes =
          let one = left_goes.on (left_held.sorted s.left ready.left).ends in
          let two = right_goes.on (right_held.sorted s.right ready.right).ends in
          let back = put_back-ready integer left first u w left_call.room put one.0
          (λ rest at. ready.left.sorted (interval_of rank first ∷ rest)
          (left_held.answers s.left u (Some first) left_call rest at)) in
          let more = put_back-size integer left first u w left_call.room put in
          let after : Ready (record { left = w; right = v }) = record
          { left = back; right = two.0 } in
          record {
            on = λ finite. (
              after,
              both-finite (lefts.draws_left w) (rights.draws_left v) (left_held.sorted w back).ends
                  two.1,
              omega (arith, more, one.2, two.2),
            );
            keeps = after;
            rests = λ finite. tt;
          }

    -- The left range starts no later, and the right one is put back.
    module _ (w : PutBack T R) (put : IsPutBack second v w)
        (most : rank (range_inclusive_start first) ≤ rank (range_inclusive_start second)) where
      -- What the right stream may give with its range put back, it might give before, and it starts
      -- no earlier than the left range.
      held-right : (runs : List Interval) → rights.may_give w runs
          → rights.may_give s.right runs × HasSortedStartsFrom n (interval_of rank first).first runs
      held-right runs at =
          let found = put_back-may integer right second v w runs right_call.room put at in
          let before = right_held.answers s.right v (Some second) right_call found.rest found.given in
          let sorted = ready.right.sorted (interval_of rank second ∷ found.rest) before in
          let low = range-start rank first left_first.in_order in
          let high = range-start rank second right_first.in_order in
          let all : HasSortedStartsFrom n (interval_of rank first).first
          (interval_of rank second ∷ found.rest) =
          sorted-raise n 0 (interval_of rank first).first (interval_of rank second) found.rest
          (omega (arith, low, high, most)) sorted in (
            subst (rights.may_give s.right) (sym found.is) before,
            subst (HasSortedStartsFrom n (interval_of rank first).first) (sym found.is) all,
          )

      -- The left range comes before what may still come.
      pub left-answers : Answered s (Some first) (record { left = u; right = w })
      left-answers =
          let low = range-start rank first left_first.in_order in
          let high = range-start rank second right_first.in_order in
          record {
            answers = head-left n (lefts.may_give s.left) (rights.may_give s.right) (lefts.may_give u)
                (rights.may_give w)
                (interval_of rank first) ready.left.sorted
                (left_held.answers s.left u (Some first) left_call)
                (λ runs at. (held-right runs at).0) (λ runs at. (held-right runs at).1);
            rests = tt;
            asks = takes-left s (record { left = u; right = w }) (interval_of rank first)
                (gives-left s.left u first left_call)
                (record {
                  uses = back-uses integer right right_laws.answers s.right v w second right_call put;
                  later = from-some rank (interval_of rank first).first w.held second put.held
                      (omega (arith, low, high, most));
                });
          }

      -- The merge is ready again, and its end is nearer.
      pub left-goes : MakesProgress Ready (merge integer left right).draws_left s
          (Some first)
          (record { left = u; right = w })
      left-goes =
          let one = left_goes.on (left_held.sorted s.left ready.left).ends in
          let two = right_goes.on (right_held.sorted s.right ready.right).ends in
          let back = put_back-ready integer right second v w right_call.room put two.0
          (λ rest at. ready.right.sorted (interval_of rank second ∷ rest)
          (right_held.answers s.right v (Some second) right_call rest at)) in
          let more = put_back-size integer right second v w right_call.room put in
          let after : Ready (record { left = u; right = w }) = record
          { left = one.0; right = back } in
          record {
            on = λ finite. (
              after,
              both-finite (lefts.draws_left u) (rights.draws_left w) one.1
                  (right_held.sorted w back).ends,
              omega (arith, more, one.2, two.2),
            );
            keeps = after;
            rests = λ finite. tt;
          }
