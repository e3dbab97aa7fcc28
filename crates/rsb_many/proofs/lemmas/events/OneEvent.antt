-- One event of a sweep over any number of streams.
use Rattle.std.proofs.Common.{◌≡◌, ℕ, ◌+◌, ◌*◌, ◌<◌, ◌≤◌, true, false, cond, List, [], ◌∷◌, ◌++◌, length, refl, sym, ap, subst, ◌∙◌, arith, Some, None}
use Rattle.std.specs.Iterator.{size, IsFinite, MakesProgress}
use Rattle.std.specs.declared.ops.RangeInclusive.{RangeInclusive}
use Rattle.rsb_integer.specs.Rank.{interval_of}
use Rattle.rsb_integer.specs.Runs.{Interval}
use Rattle.rsb_integer.specs.declared.integer.Integer.{Ghosts as Elements}
use Rattle.rsb_streams.specs.Lookahead.{Uses}
use Rattle.rsb_streams.specs.Stream.{◌⊆◌}
use Rattle.rsb_streams.specs.Touching.{IsTouching}
use Rattle.rsb_streams.specs.declared.draw.Draw.{Ghosts as Stream}
use Rattle.rsb_streams.proofs.lemmas.lookahead.EachCall.{uses-then}
use Rattle.rsb_streams.proofs.lemmas.sources.Known.{IsLawful}
use Rattle.rsb_many.specs.Drawn.{has_begun, inputs_of, is_at, HasNoHead, PutsBack, Refills, TakesHead}
use Rattle.rsb_many.specs.Heads.{binary_digits, closing_bound, head_of, key_of, run_of_head}
use Rattle.rsb_many.specs.Inputs.{input_at}
use Rattle.rsb_many.specs.KMerge.{comparison_bound}
use Rattle.rsb_many.specs.Many.{gives_of, may_give_at}
use Rattle.rsb_many.specs.MultiwaySweep.{events_left, stream_count, sweep_inputs, sweep_may_give, SweepReady, Sweeps}
use Rattle.rsb_many.specs.Sweep.{events_of_rest, key_of_event, rest_by, End, Event, Start}
use Rattle.rsb_many.specs.declared.drawn.Drawn.{Drawn}
use Rattle.rsb_many.specs.declared.heads.Head.{Head}
use Rattle.rsb_many.specs.declared.multiway_sweep.MultiwaySweep.{MultiwaySweep}
use Rattle.rsb_many.specs.declared.sweep_event.SweepEvent.{SweepEvent}
use Rattle.rsb_many.specs.declared.sweep_event.SweepEvent.TheVariants as events
use Rattle.rsb_many.proofs.lemmas.inputs.BegunByHeads.{first-not_before, key-started, key-unstarted}
use Rattle.rsb_many.proofs.lemmas.inputs.HeadLeaves.{back-due, back-fewer, back-long, back-many, back-ready, back-uses, few-compared, none-ends, none-long, none-might, none-nothing, none-ready, taken-ready}
use Rattle.rsb_many.proofs.lemmas.inputs.Leaves.{taken-due, taken-fewer, taken-gives, taken-less, taken-long, taken-spares}
use Rattle.rsb_many.proofs.lemmas.inputs.OneInput.{gives_of-uses, held-short, held_of}
use Rattle.rsb_many.proofs.lemmas.inputs.Places.{at-place}
use Rattle.rsb_many.proofs.lemmas.inputs.Touching.{touching-after}
use Rattle.rsb_many.proofs.lemmas.events.Built.{begun_of, sweep-ready}
use Rattle.rsb_many.proofs.lemmas.inputs.Rests.{events-end_only, events-may_end, events-told}
use Rattle.rsb_many.proofs.lemmas.events.Steps.{IsNotBefore}

module _ {T N I A : Type 0} (integer : Elements T N) (stream : Stream I T N)
    (laws : IsLawful integer stream) (s t : MultiwaySweep T I A N) (m : Drawn T I A N)
    (ready : SweepReady integer stream s) (filled : Refills integer stream s.inputs m) where
  open integer use {rank}

  -- What an input gives after it used some ranges is touching.
  touching-uses : (place : ℕ) (used : List Interval)
      → Uses (sweep_inputs integer stream s place) used (sweep_inputs integer stream t place)
      → gives_of (sweep_inputs integer stream t place) ⊆ IsTouching
  touching-uses place used uses runs gives = touching-after 0 used runs
      (ready.touching place (used ++ runs) (gives_of-uses uses runs gives))

  -- What an input used since its due range was drawn is what it used in the whole call.
  uses-filled : (place : ℕ) (used : List Interval)
      → Uses (input_at integer stream (inputs_of m) place) used
      (sweep_inputs integer stream t place)
      → Uses (sweep_inputs integer stream s place) used (sweep_inputs integer stream t place)
  uses-filled place used uses = uses-then (sweep_inputs integer stream s place)
      (input_at integer stream (inputs_of m) place) (sweep_inputs integer stream t place) [] used
      (filled.uses place) uses

  -- The call made few comparisons.
  few-made : (made : ℕ)
      → made ≤ m.heads.comparisons + closing_bound m.heads
      + 2 * binary_digits (length m.heads.heads)
      → made ≤ s.inputs.heads.comparisons + comparison_bound (stream_count s)
  few-made made most = few-compared (stream_count s) (length m.heads.heads)
      s.inputs.heads.comparisons (m.heads.comparisons + closing_bound m.heads) made
      (omega (arith, filled.ready.room.few, filled.count)) filled.compared most

  -- ---- the least head leaves
  module _ {head : Head T} {u : Drawn T I A N} (takes : TakesHead integer stream m head u) where
    -- The head belongs to one of the inputs.
    here-less : head.input < stream_count s
    here-less = let less = taken-less filled takes in omega (arith, less, filled.count)

    -- Its input had begun exactly if the start of its range was reported.
    begun-here : begun_of s head.input ≡ head.started
    begun-here = sym (filled.begun head.input) ∙ ap has_begun takes.taken.was

    -- The same other inputs have begun as before.
    begun-there : (place : ℕ) → ¬ (place ≡ head.input)
        → has_begun (head_of u.heads.heads place) ≡ begun_of s place
    begun-there place differs =
        ap has_begun (takes.taken.leaves.others place differs) ∙ filled.begun place

    -- If the event has the head's key, and the heads of the other inputs were not changed since, no
    -- event of another input comes before it.
    least-by : (event : Event) → key_of rank head ≡ key_of_event event → (place : ℕ)
        → ¬ (place ≡ head.input)
        → head_of t.inputs.heads.heads place ≡ head_of u.heads.heads place
        → is_at t.inputs.used place ≡ false
        → (runs : List Interval) → gives_of (sweep_inputs integer stream t place) runs
        → IsNotBefore (events_of_rest place (rest_by (begun_of s place) runs)) event
    least-by event is place differs same due runs gives =
        subst (λ begun. IsNotBefore (events_of_rest place (rest_by begun runs)) event)
        (ap has_begun same ∙ begun-there place differs)
        (first-not_before rank event (head_of t.inputs.heads.heads place) (is_at t.inputs.used place)
        place (may_give_at stream.may_give t.inputs.streams.items place) due
        (rw (same, sym is) (takes.taken.least place)) runs gives)

  -- ---- the least head leaves, and the start of its range was reported
  module _ (head : Head T) (takes : TakesHead integer stream m head t.inputs)
      (ends : head.started ≡ true) where
    -- The end of its range.
    abbrev ending : Event
    ending = End (rank head.end) head.input

    -- Its input uses its range.
    end-uses : Uses (sweep_inputs integer stream s head.input) (run_of_head rank head ∷ [])
        (sweep_inputs integer stream t head.input)
    end-uses = uses-filled head.input (run_of_head rank head ∷ []) (taken-gives filled takes).uses

    -- The other inputs use nothing.
    end-spares : (place : ℕ) → ¬ (place ≡ head.input)
        → Uses (sweep_inputs integer stream s place) [] (sweep_inputs integer stream t place)
    end-spares place differs = uses-filled place [] (taken-spares filled takes place differs)

    -- What each input gives is touching.
    end-touching : (place : ℕ) → gives_of (sweep_inputs integer stream t place) ⊆ IsTouching
    end-touching = at-place (λ place. gives_of (sweep_inputs integer stream t place) ⊆ IsTouching)
        head.input (touching-uses head.input (run_of_head rank head ∷ []) end-uses)
        (λ place differs. touching-uses place [] (end-spares place differs))

    -- The sweep is ready again.
    end-ready : SweepReady integer stream t
    end-ready = sweep-ready integer stream laws t (taken-ready filled takes) end-touching

    -- The number of streams is unchanged.
    end-count : stream_count t ≡ stream_count s
    end-count = taken-long filled takes ∙ filled.count

    -- The input had begun before the call, and has not after it.
    end-begun : (begun_of s head.input ≡ true) × (begun_of t head.input ≡ false)
    end-begun = (begun-here takes ∙ ends, ap has_begun takes.taken.leaves.here)

    -- No other input has an event that comes before the end.
    end-least : (place : ℕ) → ¬ (place ≡ head.input) → (runs : List Interval)
        → gives_of (sweep_inputs integer stream t place) runs
        → IsNotBefore (events_of_rest place (rest_by (begun_of s place) runs)) ending
    end-least place differs = least-by takes ending (key-started rank head head.input ends refl) place
        differs refl (taken-due filled takes place differs)

    -- The end, followed by what the sweep gives after the call, is what it might give before.
    end-told : (told : List Event) → sweep_may_give integer stream t told
        → sweep_may_give integer stream s (ending ∷ told)
    end-told told may = events-told (stream_count s)
        (λ place. gives_of (sweep_inputs integer stream s place))
        (λ place. gives_of (sweep_inputs integer stream t place))
        (begun_of s) (begun_of t) head.input ending
        (run_of_head rank head ∷ []) (here-less takes)
        (gives_of-uses end-uses)
        (λ place less differs. gives_of-uses (end-spares place differs))
        (begun-there takes)
        (λ place less. ready.touching place)
        (λ runs gives. rw (end-begun.0, end-begun.1) refl)
        (λ place less. end-least place)
        told (rw end-count at may)

    -- At least one event fewer is left.
    end-less : IsFinite (events_left integer stream s)
        → size (events_left integer stream t) < size (events_left integer stream s)
    end-less finite =
        let refilled = filled.left 2 finite in
        let taken = taken-fewer filled takes 2 refilled.0 in
        let one = ap (λ each. cond {A = ℕ} each 1 2) ends in
        omega (arith, refilled.1, taken.1, one)

    -- This is a call of the sweep that returns the end, as `Sweeps` states.
    pub end-known : t.inputs.heads.comparisons ≤ m.heads.comparisons + closing_bound m.heads
        → m.heads.comparisons ≤ t.inputs.heads.comparisons
        → Sweeps integer stream s (Some (events.End head.end head.input)) t
    end-known compared counted = record {
      answers = end-told;
      rests = tt;
      asks = record {
        run = run_of_head rank head;
        ends = refl;
        here = record {
          uses = end-uses;
          room = ap (held_of rank) takes.taken.leaves.here;
        };
        elsewhere = end-spares;
      };
      holds = λ place. held-short rank (head_of t.inputs.heads.heads place);
      count = end-count;
      compared = few-made t.inputs.heads.comparisons (omega (arith, compared));
      counted = omega (arith, filled.counted, counted);
    }

    -- The call makes progress.
    pub end-goes : MakesProgress (SweepReady {A = A} integer stream) (events_left integer stream)
        s (Some (events.End head.end head.input)) t
    end-goes = record {
      on = λ finite. (end-ready, end-ready.ends, end-less finite);
      keeps = end-ready;
      rests = λ finite. tt;
    }

  -- ---- the least head leaves and is put back: its range starts
  module _ (head : Head T) (u : Drawn T I A N) (takes : TakesHead integer stream m head u)
      (back : PutsBack u head t.inputs) (starts : head.started ≡ false) where
    -- The start of its range.
    abbrev starting : Event
    starting = Start (run_of_head rank head) head.input

    -- No input uses anything.
    start-uses : (place : ℕ)
        → Uses (sweep_inputs integer stream s place) [] (sweep_inputs integer stream t place)
    start-uses place = uses-filled place [] (back-uses filled takes back place)

    -- The sweep is ready again.
    start-ready : SweepReady integer stream t
    start-ready = sweep-ready integer stream laws t (back-ready filled takes back)
        (λ place. touching-uses place [] (start-uses place))

    -- The number of streams is unchanged.
    start-count : stream_count t ≡ stream_count s
    start-count = back-long filled takes back ∙ filled.count

    -- The input has begun now.
    start-begun : begun_of t head.input ≡ true
    start-begun = ap has_begun back.heads.here

    -- The same other inputs have begun as before.
    start-others : (place : ℕ) → ¬ (place ≡ head.input) → begun_of t place ≡ begun_of s place
    start-others place differs =
        ap has_begun (back.heads.others place differs) ∙ begun-there takes place differs

    -- Only the range of the head is held of its input.
    start-held : (sweep_inputs integer stream t head.input).held ≡ run_of_head rank head ∷ []
    start-held = ap (held_of rank) back.heads.here

    -- No other input has an event that comes before the start.
    start-least : (place : ℕ) → ¬ (place ≡ head.input) → (runs : List Interval)
        → gives_of (sweep_inputs integer stream t place) runs
        → IsNotBefore (events_of_rest place (rest_by (begun_of s place) runs)) starting
    start-least place differs = least-by takes starting
        (key-unstarted rank head head.input starts refl) place differs
        (back.heads.others place differs) (back-due filled takes back place)

    -- The first event of the input is the start, whatever the input gives.
    start-first : (runs : List Interval)
        → gives_of (sweep_inputs integer stream t head.input) runs
        → events_of_rest head.input (rest_by (begun_of s head.input) runs)
        ≡ starting ∷ events_of_rest head.input (rest_by (begun_of t head.input) runs)
    start-first runs gives =
        rw (gives.2, start-held, begun-here takes ∙ starts, start-begun) refl

    -- The start, followed by what the sweep gives after the call, is what it might give before.
    start-told : (told : List Event) → sweep_may_give integer stream t told
        → sweep_may_give integer stream s (starting ∷ told)
    start-told told may = events-told (stream_count s)
        (λ place. gives_of (sweep_inputs integer stream s place))
        (λ place. gives_of (sweep_inputs integer stream t place))
        (begun_of s) (begun_of t) head.input starting []
        (here-less takes)
        (gives_of-uses (start-uses head.input))
        (λ place less differs. gives_of-uses (start-uses place))
        start-others (λ place less. ready.touching place) start-first
        (λ place less. start-least place)
        told (rw start-count at may)

    -- At least one event fewer is left.
    start-less : IsFinite (events_left integer stream s)
        → size (events_left integer stream t) < size (events_left integer stream s)
    start-less finite =
        let refilled = filled.left 2 finite in
        let back = back-fewer filled takes back starts refilled.0 in
        omega (arith, refilled.1, back.1)

    -- This is a call of the sweep that returns the start, as `Sweeps` states.
    pub start-known : (range : RangeInclusive T) → interval_of rank range ≡ run_of_head rank head
        → u.heads.comparisons ≤ m.heads.comparisons + closing_bound m.heads
        → t.inputs.heads.comparisons
        ≤ u.heads.comparisons + 2 * binary_digits (length t.inputs.heads.heads)
        → m.heads.comparisons ≤ u.heads.comparisons
        → u.heads.comparisons ≤ t.inputs.heads.comparisons
        → Sweeps integer stream s (Some (events.Start range head.input)) t
    start-known range is first second taken put_back = record {
      answers = λ told may. subst (λ each. sweep_may_give integer stream s
          (Start each head.input ∷ told)) (sym is) (start-told told may);
      rests = tt;
      asks = record { held = start-held ∙ ap (λ each. each ∷ []) (sym is); uses = start-uses };
      holds = λ place. held-short rank (head_of t.inputs.heads.heads place);
      count = start-count;
      compared =
          let many = ap (λ count. binary_digits count) (back-many filled takes back) in
          few-made t.inputs.heads.comparisons (omega (arith, first, second, many));
      counted = omega (arith, filled.counted, taken, put_back);
    }

    -- The call makes progress.
    pub start-goes : (range : RangeInclusive T)
        → MakesProgress (SweepReady {A = A} integer stream) (events_left integer stream)
        s (Some (events.Start range head.input)) t
    start-goes range = record {
      on = λ finite. (start-ready, start-ready.ends, start-less finite);
      keeps = start-ready;
      rests = λ finite. tt;
    }

  -- ---- there is no head
  module _ (empty : HasNoHead m t.inputs) where
    -- The sweep is ready again.
    none-again : SweepReady integer stream t
    none-again = sweep-ready integer stream laws t (none-ready filled empty)
        (λ place runs gives. rw (none-nothing filled empty place runs gives) tt)

    -- This is a call of the sweep that returns `None`, as `Sweeps` states.
    pub none-known : t.inputs.heads.comparisons ≤ m.heads.comparisons + closing_bound m.heads
        → m.heads.comparisons ≤ t.inputs.heads.comparisons
        → Sweeps integer stream s None t
    none-known compared counted = record {
      answers = events-may_end (stream_count s)
          (λ place. gives_of (sweep_inputs integer stream s place))
          (begun_of s)
          (λ place less. none-might filled empty place);
      rests = (
        none-again,
        events-end_only (stream_count t)
            (λ place. gives_of (sweep_inputs integer stream t place))
            (begun_of t)
            (λ place less. none-nothing filled empty place),
      );
      asks = none-ends filled empty;
      holds = λ place. held-short rank (head_of t.inputs.heads.heads place);
      count = none-long filled empty ∙ filled.count;
      compared = few-made t.inputs.heads.comparisons (omega (arith, compared));
      counted = omega (arith, filled.counted, counted);
    }

    -- The call makes progress.
    pub none-goes : MakesProgress {A = SweepEvent T} (SweepReady {A = A} integer stream)
        (events_left integer stream) s None t
    none-goes = record {
      on = λ finite. tt;
      keeps = tt;
      rests = λ finite. none-again.ends;
    }
