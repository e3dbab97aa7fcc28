-- A draw of the range that is due from one of many inputs.
use Rattle.std.proofs.Common.{◌≡◌, ℕ, ◌+◌, ◌*◌, ◌<◌, ◌≤◌, true, false, List, [], ◌∷◌, length, slice_get, refl, sym, ap, subst, ◌∙◌, arith, Option, Some, None}
use Rattle.std.proofs.lemmas.List.{length-set}
use Rattle.std.proofs.lemmas.Nat.{mul-le}
use Rattle.std.specs.Iterator.{at_most, count_map, size, MakesProgress}
use Rattle.std.specs.Option.{option_map}
use Rattle.std.specs.Prelude.{IfSome}
use Rattle.std.specs.declared.ops.RangeInclusive.{RangeInclusive}
use Rattle.rsb_integer.specs.Rank.{interval_of}
use Rattle.rsb_integer.specs.declared.integer.Integer.{Ghosts as Elements}
use Rattle.rsb_integer.proofs.lemmas.Range.{interval_of-some}
use Rattle.rsb_streams.specs.Lookahead.{Uses}
use Rattle.rsb_streams.specs.Stream.{◌⊆◌}
use Rattle.rsb_streams.specs.declared.draw.Draw.{Ghosts as Stream}
use Rattle.rsb_streams.proofs.lemmas.sources.Known.{IsLawful}
use Rattle.rsb_streams.proofs.lemmas.joining.Gathered.{head-sorted, LiesFrom}
use Rattle.rsb_many.specs.Drawn.{has_begun}
use Rattle.rsb_many.specs.Heads.{head_at_start, run_of_head}
use Rattle.rsb_many.specs.Inputs.{has_ended, input_at, left_at, AreReady, DrawsAt, Inputs}
use Rattle.rsb_many.specs.declared.heads.Head.{Head}
use Rattle.rsb_many.proofs.lemmas.inputs.Left.{less-as, LessBy}
use Rattle.rsb_many.proofs.lemmas.inputs.OneInput.{all-same, can-same, gives_of-uses, left-same, undrawn-same, undrawn_by, uses-same, StaysAt}
use Rattle.rsb_many.proofs.lemmas.inputs.Places.{at-place, slice_get-set_other, slice_get-set_same}

module _ {T N S : Type 0} (integer : Elements T N) (stream : Stream S T N) where
  -- Whether the range that is due from the input at a place is drawn. The other inputs have a range
  -- due exactly if they had one before.
  pub record DrawsDue (s t : Inputs T S) (place : ℕ) : Type 0 where
    pub laws : IsLawful integer stream
    pub ready : AreReady integer stream s
    pub due : s.due place ≡ true
    pub now_due : t.due place ≡ false
    pub dues : (other : ℕ) → ¬ (other ≡ place) → t.due other ≡ s.due other
    pub less : place < length s.streams
    pub draws : DrawsAt integer stream place s.streams s.head_of t.streams t.head_of

module _ {T N S : Type 0} {integer : Elements T N} {stream : Stream S T N} {s t : Inputs T S}
    {place : ℕ} (step : DrawsDue integer stream s t place) where
  open integer use {rank, value_count as n}
  open step use {laws, ready, due, now_due, dues, less, draws}

  -- The input has no head.
  none-held : s.head_of place ≡ None
  none-held = ready.one place due

  -- The place has the stream as the draw left it.
  stands-here : slice_get t.streams place ≡ Some draws.after
  stands-here = ap (λ streams. slice_get streams place) draws.stands
      ∙ slice_get-set_same s.streams place draws.after less

  -- Every other place has the same stream as before.
  stands-elsewhere : (other : ℕ) → ¬ (other ≡ place)
      → slice_get t.streams other ≡ slice_get s.streams other
  stands-elsewhere other differs = ap (λ streams. slice_get streams other) draws.stands
      ∙ slice_get-set_other s.streams place other draws.after differs

  -- The other inputs are unchanged.
  draws-others : (other : ℕ) → ¬ (other ≡ place) → StaysAt integer stream s t other
  draws-others other differs = all-same integer stream s t other (draws.others other differs)
      (dues other differs) (stands-elsewhere other differs)

  -- They have as many items left as before.
  pub draws-left : (each other : ℕ) → ¬ (other ≡ place)
      → left_at integer stream each t other ≡ left_at integer stream each s other
  draws-left each other differs = left-same integer stream s t other (draws.others other differs)
      (dues other differs) (stands-elsewhere other differs) each

  -- The input may give whatever the stream before the draw may give.
  gives-here : stream.may_give draws.before
      ⊆ undrawn_by integer stream (has_ended integer stream s place) (slice_get s.streams place)
  gives-here = undrawn-same integer stream (has_ended integer stream s place) false
      (slice_get s.streams place) (Some draws.before) (rw (none-held, due) refl) (sym draws.stood)

  -- The stream before the draw is ready.
  can-here : stream.can_draw draws.before
  can-here = subst (λ each. IfSome each stream.can_draw) draws.stood
      (ready.can place (rw (none-held, due) refl))

  -- The range that was drawn is not empty and lies in the type.
  drawn-sorted : (range : RangeInclusive T) → draws.item ≡ Some range
      → LiesFrom n 0 (interval_of rank range)
  drawn-sorted range is =
      let goes = subst (λ each. MakesProgress stream.can_draw stream.draws_left draws.before each
      draws.after) is draws.goes in
      let call = subst (λ each. stream.draw_gives draws.before each draws.after) is draws.call in
      head-sorted n 0 (interval_of rank range) (stream.may_give draws.after)
      (laws.sorted draws.after goes.keeps).some
      (λ rest at. (laws.sorted draws.before can-here).all (interval_of rank range ∷ rest)
      (laws.answers draws.before draws.after (Some range) call rest at))

  -- Its interval is that of its head.
  run_of-drawn : (range : RangeInclusive T) → draws.item ≡ Some range
      → interval_of rank range ≡ run_of_head rank (head_at_start place range)
  run_of-drawn range is = interval_of-some rank range (drawn-sorted range is).in_order

  -- The head of the input after the draw, for each option of what was drawn.
  abbrev head-now : Option (RangeInclusive T) → Option (Head T)
  head-now item = option_map (head_at_start place) item

  -- The input uses nothing, whatever was drawn.
  uses-by : (item : Option (RangeInclusive T)) → draws.item ≡ item → t.head_of place ≡ head-now item
      → Uses (input_at integer stream s place) [] (input_at integer stream t place)
  uses-by None is here =
      let call = subst (λ each. stream.draw_gives draws.before each draws.after) is draws.call in
      let answered = laws.answers draws.before draws.after None call in
      record {
        drawn = [];
        drew = λ rest at.
            let nothing : rest ≡ [] = rw (here, now_due) at at in
            subst (undrawn_by integer stream (has_ended integer stream s place)
            (slice_get s.streams place)) (sym nothing) (gives-here [] answered);
        in_order = rw (none-held, here) refl;
      }
  uses-by (Some range) is here =
      let run = run_of_head rank (head_at_start place range) in
      let call = subst (λ each. stream.draw_gives draws.before each draws.after) is draws.call in
      record {
        drawn = run ∷ [];
        drew = λ rest at.
            let may : stream.may_give draws.after rest = rw (here, stands-here) at at in
            gives-here (run ∷ rest) (subst (λ each. stream.may_give draws.before (each ∷ rest))
            (run_of-drawn range is) (laws.answers draws.before draws.after (Some range) call rest
            may));
        in_order = rw (none-held, here) refl;
      }

  -- No input uses anything.
  pub draws-uses : (other : ℕ)
      → Uses (input_at integer stream s other) [] (input_at integer stream t other)
  draws-uses = at-place
      (λ other. Uses (input_at integer stream s other) [] (input_at integer stream t other)) place
      (uses-by draws.item refl draws.here)
      (λ other differs. uses-same integer stream (draws-others other differs))

  -- The number of streams is unchanged.
  pub draws-long : length t.streams ≡ length s.streams
  draws-long = ap (λ (streams : List S). length streams) draws.stands
      ∙ length-set s.streams place draws.after

  -- The stream is ready if the input has not ended, whatever was drawn.
  can-by : (item : Option (RangeInclusive T)) → draws.item ≡ item → t.head_of place ≡ head-now item
      → has_ended integer stream t place ≡ false
      → IfSome (slice_get t.streams place) stream.can_draw
  can-by None is here going =
      let over : has_ended integer stream t place ≡ true = rw (here, now_due) refl in
      absurd (cc)
  can-by (Some range) is here going =
      let goes = subst (λ each. MakesProgress stream.can_draw stream.draws_left draws.before each
      draws.after) is draws.goes in
      rw stands-here goes.keeps

  -- A head of the input belongs to an input, whatever was drawn.
  within-by : (item : Option (RangeInclusive T))
      → IfSome (head-now item) (λ (head : Head T). place < length s.streams)
  within-by None = tt
  within-by (Some range) = less

  -- The inputs are ready again.
  pub draws-ready : AreReady integer stream t
  draws-ready = record {
    can = at-place (λ other. has_ended integer stream t other ≡ false
        → IfSome (slice_get t.streams other) stream.can_draw) place
        (can-by draws.item refl draws.here)
        (λ other differs. can-same integer stream (draws-others other differs) (ready.can other));
    sorted = λ other runs at. ready.sorted other runs (gives_of-uses (draws-uses other) runs at);
    one = at-place (λ other. t.due other ≡ true → t.head_of other ≡ None) place
        (λ is. absurd (let no = now_due in cc))
        (λ other differs is. draws.others other differs
        ∙ ready.one other (sym (dues other differs) ∙ is));
    within = at-place (λ other. IfSome (t.head_of other) (λ head. other < length t.streams)) place
        (rw (draws.here, draws-long) (within-by draws.item))
        (λ other differs. rw (draws.others other differs, draws-long) (ready.within other));
  }

  -- The range of an input has started exactly if it had before, whatever was drawn.
  begun-by : (item : Option (RangeInclusive T)) → has_begun (head-now item) ≡ false
  begun-by None = refl
  begun-by (Some range) = refl

  -- The range of an input has started exactly if it had before.
  pub draws-begun : (other : ℕ) → has_begun (t.head_of other) ≡ has_begun (s.head_of other)
  draws-begun = at-place (λ other. has_begun (t.head_of other) ≡ has_begun (s.head_of other)) place
      (rw (draws.here, none-held) (begun-by draws.item))
      (λ other differs. ap has_begun (draws.others other differs))

  -- The input has no more items left than before, whatever was drawn.
  less-by : (each : ℕ) (item : Option (RangeInclusive T)) → draws.item ≡ item
      → t.head_of place ≡ head-now item
      → LessBy 0 (left_at integer stream each s place) (left_at integer stream each t place)
  less-by each None is here = less-as 0 _ _ (left_at integer stream each s place)
      (count_map (λ left. each * left + 0) (at_most 0)) refl (rw (here, now_due) refl)
      (λ finite. (tt, omega arith))
  less-by each (Some range) is here =
      let goes = subst (λ each. MakesProgress stream.can_draw stream.draws_left draws.before each
      draws.after) is draws.goes in
      less-as 0 _ _ (count_map (λ left. each * left + 0) (stream.draws_left draws.before))
      (count_map (λ left. each * left + each) (stream.draws_left draws.after))
      (rw (none-held, due, draws.stood) refl) (rw (here, stands-here) refl)
      (λ finite. let on = goes.on finite in (
        on.1,
        one-fewer each (size (stream.draws_left draws.after)) (size (stream.draws_left draws.before))
            on.2,
      ))
    where
      -- One range stands for `each` items.
      one-fewer : (each now was : ℕ) → now < was → each * now + each + 0 ≤ each * was + 0
      one-fewer each now was fewer =
          let product = mul-le each (now + 1) each was (omega arith) (omega (arith, fewer)) in
          omega (arith, product)

  -- The input has no more items left than before.
  pub draws-less : (each : ℕ)
      → LessBy 0 (left_at integer stream each s place) (left_at integer stream each t place)
  draws-less each = less-by each draws.item refl draws.here
