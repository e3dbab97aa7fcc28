-- What a merge or a sweep of many streams holds when a range is drawn, and when none was due.
use Rattle.std.proofs.Common.{◌≡◌, inl, inr, ℕ, ◌+◌, ◌*◌, ◌<◌, ◌≤◌, ◌∷◌, length, refl, sym, ap, subst, ◌∙◌, arith, Some, None}
use Rattle.std.specs.Iterator.{MakesProgress}
use Rattle.std.specs.declared.ops.RangeInclusive.{RangeInclusive}
use Rattle.rsb_integer.specs.Rank.{interval_of}
use Rattle.rsb_integer.specs.declared.integer.Integer.{Ghosts as Elements}
use Rattle.rsb_integer.proofs.lemmas.List.{true_or_false}
use Rattle.rsb_integer.proofs.lemmas.Range.{interval_of-some}
use Rattle.rsb_streams.specs.declared.draw.Draw.{Ghosts as Stream}
use Rattle.rsb_streams.proofs.lemmas.lookahead.EachCall.{uses-nothing}
use Rattle.rsb_streams.proofs.lemmas.sources.Known.{IsLawful}
use Rattle.rsb_streams.proofs.lemmas.joining.Gathered.{head-sorted}
use Rattle.rsb_many.specs.Drawn.{inputs_of, DrawnReady, Refills}
use Rattle.rsb_many.specs.Heads.{binary_digits, closing_bound, head_at_start, head_of, HasValues, HeapView}
use Rattle.rsb_many.specs.Inputs.{input_at, DrawsAt}
use Rattle.rsb_many.specs.declared.drawn.Drawn.{Drawn}
use Rattle.rsb_many.proofs.lemmas.heap.Digits.{binary_digits-more}
use Rattle.rsb_many.proofs.lemmas.inputs.Draws.{draws-begun, draws-left, draws-less, draws-long, draws-ready, draws-uses, DrawsDue}
use Rattle.rsb_many.proofs.lemmas.inputs.Left.{inputs_left-less}
use Rattle.rsb_many.proofs.lemmas.inputs.Places.{nat_eq-differs, nat_eq-itself}

-- Closing the place at the top takes at most two comparisons for each binary digit of the number of
-- heads, or of any greater number.
pub few-closing : {T : Type 0} (kept : HeapView T) (count : ℕ) → length kept.heads ≤ count
    → kept.comparisons + closing_bound kept ≤ kept.comparisons + 2 * binary_digits count
few-closing kept count few =
    let digits = binary_digits-more (length kept.heads) count few in
    elim (true_or_false kept.is_open) [
      | inl is_so ↦ rw is_so (omega (arith, digits))
      | inr not_so ↦ rw not_so (omega arith)
    ]

module _ {T N I : Type 0} (integer : Elements T N) (stream : Stream I T N)
    (laws : IsLawful integer stream) where
  open integer use {rank, value_count as n}

  -- The head of a range that was drawn has values.
  pub values-drawn : (before after : I) (range : RangeInclusive T) (place : ℕ)
      → stream.can_draw before → stream.draw_gives before (Some range) after
      → MakesProgress stream.can_draw stream.draws_left before (Some range) after
      → HasValues rank n (head_at_start place range)
  values-drawn before after range place can call goes =
      let sorted = head-sorted n 0 (interval_of rank range) (stream.may_give after)
      (laws.sorted after goes.keeps).some
      (λ rest at. (laws.sorted before can).all (interval_of rank range ∷ rest)
      (laws.answers before after (Some range) call rest at)) in
      let is = interval_of-some rank range sorted.in_order in
      let first = ap (λ run. run.first) is in
      let last = ap (λ run. run.last) is in
      let start : rank range.start < n =
      omega (arith, sorted.in_order, sorted.in_type, first) in
      record { at = start; stands = refl; start = start; end = omega (arith, sorted.in_type, last) }

  -- If no range was due and nothing changed, that is what `Refills` states.
  pub refills-none : {A : Type 0} (s t : Drawn T I A N) → DrawnReady integer stream s
      → s.used ≡ None → t.streams ≡ s.streams → t.heads ≡ s.heads → t.used ≡ None
      → Refills integer stream s t
  refills-none {A} s t ready was_none streams heads now_none =
      let same : t ≡ s = λ i. record {
        streams = streams i;
        heads = heads i;
        used = (now_none ∙ sym was_none) i;
      } in
      subst (Refills integer stream s) (sym same) (record {
        ready = ready;
        none = was_none;
        count = refl;
        uses = λ place. uses-nothing (input_at integer stream (inputs_of s) place);
        begun = λ place. refl;
        left = λ each finite. (finite, omega arith);
        compared = few-closing s.heads (length s.streams.items)
            (omega (arith, ready.room.few));
        counted = omega arith;
      })

  -- The range that was due was drawn.
  module _ {A : Type 0} (s t : Drawn T I A N) (place : ℕ)
      (ready : DrawnReady integer stream s) (used : s.used ≡ Some place) (none : t.used ≡ None)
      (room : s.heads.room ≤ t.heads.room)
      (count : length t.heads.heads ≤ length s.heads.heads + 1)
      (draws : DrawsAt integer stream place s.streams.items (head_of s.heads.heads) t.streams.items
      (head_of t.heads.heads))
      (compared : t.heads.comparisons + closing_bound t.heads
      ≤ s.heads.comparisons + 2 * binary_digits (length t.heads.heads))
      (counted : s.heads.comparisons ≤ t.heads.comparisons)
    where
      -- The range was due and is due no longer. At every other place, a range is due exactly if it
      -- was before.
      abbrev step : DrawsDue integer stream (inputs_of s) (inputs_of t) place
      step = record {
        laws = laws;
        ready = ready.inputs;
        due = rw used (nat_eq-itself place);
        now_due = rw none refl;
        dues = λ other differs. rw (none, used) (sym (nat_eq-differs place other differs));
        less = rw used at ready.room.used;
        draws = draws;
      }

      -- There are at most as many heads as streams.
      few : length t.heads.heads ≤ length s.streams.items
      few = let room = rw used at ready.room.few in omega (arith, count, room)

      -- So the range that was due is drawn, as `Refills` states.
      pub refills : Refills integer stream s t
      refills = record {
        ready = record {
          inputs = draws-ready step;
          room = record {
            used = rw none tt;
            few = rw none (omega (arith, few, draws-long step));
            room = omega (arith, draws-long step, room, ready.room.room);
          };
        };
        none = none;
        count = draws-long step;
        uses = draws-uses step;
        begun = draws-begun step;
        left = λ each finite.
            let less = inputs_left-less integer stream 0 each place (inputs_of s) (inputs_of t)
            (draws-long step) step.less (draws-left step each) (draws-less step each) finite in
            (less.0, omega (arith, less.1));
        compared =
            let more = binary_digits-more (length t.heads.heads) (length s.streams.items) few in
            omega (arith, compared, more);
        counted = counted;
      }
