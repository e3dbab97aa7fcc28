-- How the first range of each of many streams is drawn, one stream after the other.
use Rattle.std.proofs.Common.{◌≡◌, ℕ, zero, suc, ◌+◌, ◌<◌, ◌≤◌, Bool, true, false, nat_le, nat_lt, ◌&&◌, not, List, [], ◌∷◌, length, slice_get, refl, sym, ap, subst, ◌∙◌, arith, All, Option, Some, None}
use Rattle.std.proofs.lemmas.Bool.Decides.{nat_tests}
use Rattle.std.proofs.lemmas.List.{length-set}
use Rattle.std.proofs.lemmas.List.Elements.{All-head, All-tail}
use Rattle.std.specs.Prelude.{IfSome, MatchOption}
use Rattle.rsb_integer.specs.Runs.{Interval}
use Rattle.rsb_integer.specs.declared.integer.Integer.{Ghosts as Elements}
use Rattle.rsb_streams.specs.Stream.{◌⊆◌, outcomes_unless, HasSortedStarts}
use Rattle.rsb_streams.specs.declared.draw.Draw.{Ghosts as Stream}
use Rattle.rsb_streams.proofs.lemmas.sources.Known.{IsLawful}
use Rattle.rsb_many.specs.Drawn.{due_from, has_begun, inputs_of, IsBegunOf, IsBegunTo}
use Rattle.rsb_many.specs.Heads.{head_of, HasNone}
use Rattle.rsb_many.specs.Inputs.{input_at, is_over, DrawsAt}
use Rattle.rsb_many.specs.Many.{gives_of, may_give_at}
use Rattle.rsb_many.specs.declared.drawn.Drawn.{Drawn}
use Rattle.rsb_many.proofs.lemmas.inputs.Draws.{draws-begun, draws-ready, draws-uses, DrawsDue}
use Rattle.rsb_many.proofs.lemmas.inputs.OneInput.{all-same, gives_of-uses, held-short, held_of, ready-same, uses-same}

-- If a fact holds of all streams, it holds of the stream at each place.
pub All-slice_get : {S : Type 0} (P : S → Type 0) (streams : List S) (place : ℕ) → All P streams
    → IfSome (slice_get streams place) P
All-slice_get P [] place all = tt
All-slice_get P (stream ∷ streams) zero all = All-head P stream streams all
All-slice_get P (stream ∷ streams) (suc place) all =
    All-slice_get P streams place (All-tail P stream streams all)

-- If the places from `place` on are due, so is `place` itself.
due-here : (place count : ℕ) → place < count → (nat_le place place && nat_lt place count) ≡ true
due-here place count less = grind (arith, nat_tests)

-- If only the places past `place` are due, it is not.
due-no_more : (place count : ℕ) → (nat_le (place + 1) place && nat_lt place count) ≡ false
due-no_more place count = grind (arith, nat_tests)

-- Any other place is due from the next place on exactly if it is due from `place` on.
due-others : (place count other : ℕ) → ¬ (other ≡ place)
    → (nat_le (place + 1) other && nat_lt other count) ≡ (nat_le place other && nat_lt other count)
due-others place count other differs = grind (arith, nat_tests)

-- If `first` is past the last place, no range is due.
due-none : (first count place : ℕ) → count ≤ first
    → (nat_le first place && nat_lt place count) ≡ false
due-none first count place past = grind (arith, nat_tests)

-- If ranges are due from place 0 on, a place that is not due is past the last.
due-past : (place count : ℕ) → (nat_le 0 place && nat_lt place count) ≡ false → count ≤ place
due-past place count none = grind (arith, nat_tests, none)

-- There is no stream past the last place.
slice_get-past : {S : Type 0} (streams : List S) (place : ℕ) → length streams ≤ place
    → slice_get streams place ≡ None
slice_get-past [] place past = refl
slice_get-past (stream ∷ streams) zero past = absurd (omega (arith, past))
slice_get-past (stream ∷ streams) (suc place) past =
    slice_get-past streams place (omega (arith, past))

module _ {T N I : Type 0} (integer : Elements T N) (stream : Stream I T N)
    (laws : IsLawful integer stream) where
  open integer use {rank, value_count as n}

  -- What the stream at a place may give is sorted by start.
  at-sorted : (found : Option I) → IfSome found stream.can_draw
      → (runs : List Interval) → MatchOption found (runs ≡ []) (λ s. stream.may_give s runs)
      → HasSortedStarts n runs
  at-sorted None can runs is = rw is tt
  at-sorted (Some s) can runs may = (laws.sorted s can).all runs may

  -- If nothing is held of an input, it gives only what its stream may give. A range must be due
  -- unless there is no stream.
  gives-due : (due : Bool) (found : Option I) → (due ≡ false → found ≡ None)
      → (runs : List Interval)
      → gives_of (record {
        held = [];
        undrawn = outcomes_unless (not due)
            (λ each. MatchOption found (each ≡ []) (λ s. stream.may_give s each));
      }) runs
      → MatchOption found (runs ≡ []) (λ s. stream.may_give s runs)
  gives-due true found none runs gives =
      subst (λ each. MatchOption found (each ≡ []) (λ s. stream.may_give s each)) (sym gives.2)
      gives.1
  gives-due false found none runs gives = rw (none refl) (gives.2 ∙ gives.1)

  -- ---- before the first range is drawn
  module _ {A : Type 0} (s : Drawn T I A N) (can : All stream.can_draw s.streams.items)
      (none : HasNone s.heads.heads) where
    -- An input gives only what its stream may give.
    undrawn-gives : (place : ℕ) → gives_of (input_at integer stream (due_from 0 s) place)
        ⊆ may_give_at stream.may_give s.streams.items place
    undrawn-gives place = subst (λ head. gives_of (record {
      held = held_of rank head;
      undrawn = outcomes_unless (is_over head ((due_from 0 s).due place))
          (may_give_at stream.may_give s.streams.items place);
    }) ⊆ may_give_at stream.may_give s.streams.items place) (sym (none.none place))
        (gives-due ((due_from 0 s).due place) (slice_get s.streams.items place)
        (λ none. slice_get-past s.streams.items place
        (due-past place (length s.streams.items) none)))

    -- So the inputs are ready, before any first range is drawn.
    pub begun-first : s.used ≡ None → length s.streams.items ≤ s.heads.room
        → IsBegunTo integer stream s.streams.items 0 s
    begun-first used room = record {
      ready = record {
        can = λ place going. All-slice_get stream.can_draw s.streams.items place can;
        sorted = λ place runs gives. at-sorted (slice_get s.streams.items place)
            (All-slice_get stream.can_draw s.streams.items place can) runs
            (undrawn-gives place runs gives);
        one = λ place is. none.none place;
        within = λ place. rw (none.none place) tt;
      };
      unstarted = λ place. ap has_begun (none.none place);
      count = refl;
      begun = undrawn-gives;
      used = used;
      few = omega (arith, none.count);
      room = room;
      within = omega arith;
    }

  -- ---- the next stream is ready
  module _ {A : Type 0} (streams : List I) (first : ℕ) (s : Drawn T I A N)
      (begun : IsBegunTo integer stream streams first s) (less : first < length s.streams.items)
    where
      -- It has no head, and a range is due.
      pub begun-none : head_of s.heads.heads first ≡ None
      begun-none = begun.ready.one first (due-here first (length s.streams.items) less)

      -- So it is ready.
      pub begun-can : IfSome (slice_get s.streams.items first) stream.can_draw
      begun-can = begun.ready.can first
          (rw (begun-none, due-here first (length s.streams.items) less) refl)

  -- ---- one more range is drawn
  module _ {A : Type 0} (streams : List I) (first : ℕ) (s t : Drawn T I A N)
      (begun : IsBegunTo integer stream streams first s) (less : first < length s.streams.items)
      (draws : DrawsAt integer stream first s.streams.items (head_of s.heads.heads) t.streams.items
      (head_of t.heads.heads)) where
    -- The number of streams is unchanged.
    long : length t.streams.items ≡ length s.streams.items
    long = ap (λ (each : List I). length each) draws.stands
        ∙ length-set s.streams.items first draws.after

    -- The range of the input at `first` was due, and is due no longer. At every other place, a range
    -- is due exactly if it was before.
    abbrev step : DrawsDue integer stream (due_from first s) (due_from (first + 1) t) first
    step = record {
      laws = laws;
      ready = begun.ready;
      due = due-here first (length s.streams.items) less;
      now_due = due-no_more first (length t.streams.items);
      dues = λ other differs. rw long (due-others first (length s.streams.items) other differs);
      less = less;
      draws = draws;
    }

    -- The first range is drawn from one more stream.
    pub begun-next : t.used ≡ s.used → s.heads.room ≤ t.heads.room
        → length t.heads.heads ≤ length s.heads.heads + 1
        → IsBegunTo integer stream streams (first + 1) t
    begun-next used room count = record {
      ready = draws-ready step;
      unstarted = λ place. draws-begun step place ∙ begun.unstarted place;
      count = long ∙ begun.count;
      begun = λ place runs at. begun.begun place runs (gives_of-uses (draws-uses step place) runs at);
      used = used ∙ begun.used;
      few = omega (arith, count, begun.few);
      room = omega (arith, long, room, begun.room);
      within = omega (arith, less, begun.count);
    }

  -- ---- the first range of each stream is drawn
  module _ {A : Type 0} (streams : List I) (first : ℕ) (s : Drawn T I A N)
      (begun : IsBegunTo integer stream streams first s)
      (past : length s.streams.items ≤ first) where
    -- No range is due.
    none-due : (place : ℕ) → (inputs_of s).due place ≡ (due_from first s).due place
    none-due place = rw begun.used (sym (due-none first (length s.streams.items) place past))

    -- The first range of each stream is drawn.
    pub begun-all : IsBegunOf integer stream streams s
    begun-all = record {
      ready = record {
        inputs = ready-same integer stream (due_from first s) (inputs_of s) (λ place. refl) none-due
            refl begun.ready;
        room = record {
          used = rw begun.used tt;
          few = rw begun.used (omega (arith, begun.few, begun.within, begun.count));
          room = begun.room;
        };
      };
      unstarted = begun.unstarted;
      count = begun.count;
      begun = λ place. record {
        gives = λ runs at. begun.begun place runs (gives_of-uses (uses-same integer stream
            (all-same integer stream (due_from first s) (inputs_of s) place refl (none-due place) refl)) runs at);
        one = held-short rank (head_of s.heads.heads place);
      };
    }
