-- The events of any number of streams, as a sweep gives them.
use Rattle.std.specs.Prelude.{◌≡◌, ℕ, ◌+◌, ◌≤◌, List, [], ◌∷◌, length, Option, MatchOption}
use Rattle.std.specs.Iterator.{Count, IsFinite}
use Rattle.rsb_integer.specs.Runs.{Interval}
use Rattle.rsb_integer.specs.declared.integer.Integer.{Ghosts as Elements}
use Rattle.rsb_streams.specs.Lookahead.{Ends, GivesFrom, Input, Uses}
use Rattle.rsb_streams.specs.Stream.{◌⊆◌}
use Rattle.rsb_streams.specs.Touching.{IsTouching, IsTouchingIn}
use Rattle.rsb_streams.specs.declared.draw.Draw.{Ghosts as Stream}
use Rattle.rsb_many.specs.Drawn.{has_begun, inputs_of, DrawnReady}
use Rattle.rsb_many.specs.Heads.{head_of}
use Rattle.rsb_many.specs.Inputs.{input_at, inputs_left}
use Rattle.rsb_many.specs.KMerge.{comparison_bound}
use Rattle.rsb_many.specs.Many.{gives_of, may_give_at, HoldOneAtMost, IsBegun, SomeOfEach}
use Rattle.rsb_many.specs.Sweep.{event_of, rests_by, AreEvents, AreEventsOf, End, Event, Start}
use Rattle.rsb_many.specs.declared.multiway_sweep.MultiwaySweep.{MultiwaySweep}
use Rattle.rsb_many.specs.declared.sweep_event.SweepEvent.{SweepEvent}

-- ---- events that may come

-- The lists of events that a sweep may still give.
abbrev pub EventOutcomes : Type 1
EventOutcomes = List Event → Type 0

-- Whether some list of events may come. “Some” means “not none”: a closure might not return, so we
-- cannot exhibit a list.
abbrev pub HasEvents : EventOutcomes → Type 0
HasEvents P = ¬ ((events : List Event) → ¬ (P events))

-- ---- inputs

-- Whether a range of the input at a place starts. It is then the one range held of that input, and
-- no input uses anything.
pub record StartsAt (place : ℕ) (before : ℕ → Input) (run : Interval) (now : ℕ → Input) : Type 0
  where
    pub held : (now place).held ≡ run ∷ []
    pub uses : (other : ℕ) → Uses (before other) [] (now other)

-- Whether a range of the input at a place ends at the rank `last`. That input uses it and then
-- holds nothing. No other input uses anything.
pub record EndsAt (place : ℕ) (before : ℕ → Input) (last : ℕ) (now : ℕ → Input) : Type 0 where
  pub run : Interval
  pub ends : run.last ≡ last
  pub here : GivesFrom (before place) run (now place)
  pub elsewhere : (other : ℕ) → ¬ (other ≡ place) → Uses (before other) [] (now other)

-- Whether the inputs change as the event asks: they use the range that ends, if one does.
abbrev pub AsksAt : (ℕ → Input) → Event → (ℕ → Input) → Type 0
AsksAt before (Start run place) now = StartsAt place before run now
AsksAt before (End last place) now = EndsAt place before last now

-- ---- a sweep

-- The number of streams of a sweep.
abbrev pub stream_count : {T I A N : Type 0} → MultiwaySweep T I A N → ℕ
stream_count s = length s.inputs.streams.items

module _ {T N I A : Type 0} (integer : Elements T N) (stream : Stream I T N) where
  -- The inputs of a sweep, by their places from 0.
  abbrev pub sweep_inputs : MultiwaySweep T I A N → ℕ → Input
  sweep_inputs s place = input_at integer stream (inputs_of s.inputs) place

  -- The events of lists that the inputs may give. If the first range of an input has started, only
  -- the end of that range is still to come, not its start.
  abbrev pub sweep_may_give : MultiwaySweep T I A N → EventOutcomes
  sweep_may_give s events = SomeOfEach (stream_count s) (λ place. gives_of (sweep_inputs s place))
      (λ lists. AreEventsOf
      (rests_by (λ place. has_begun (head_of s.inputs.heads.heads place)) lists) events)

  -- How many events are left: two for each range, and one if its start was reported.
  abbrev pub events_left : MultiwaySweep T I A N → Count
  events_left s = inputs_left integer stream 2 (inputs_of s.inputs)

  -- Whether the streams are ready, and the ranges of each input ascend and do not overlap. Some
  -- list of their events may come, and it ends.
  pub record SweepReady (s : MultiwaySweep T I A N) : Type 0 where
    pub drawn : DrawnReady integer stream s.inputs
    pub touching : (place : ℕ) → gives_of (sweep_inputs s place) ⊆ IsTouching
    pub some : HasEvents (sweep_may_give s)
    pub ends : IsFinite (events_left s)

  -- Whether a call gives an event that may come next, and leaves only what may follow it. After
  -- `None` the sweep is ready again and no events come. Few comparisons are made, and their count
  -- never falls.
  pub record Sweeps (s : MultiwaySweep T I A N) (item : Option (SweepEvent T))
      (t : MultiwaySweep T I A N) : Type 0 where
    pub answers : MatchOption item (sweep_may_give s [])
        (λ event. (events : List Event) → sweep_may_give t events
        → sweep_may_give s (event_of integer.rank event ∷ events))
    pub rests : MatchOption item
        (SweepReady t × ((events : List Event) → sweep_may_give t events → events ≡ []))
        (λ _. Unit {0})
    pub asks : MatchOption item
        ((place : ℕ) → Ends (sweep_inputs s place) (sweep_inputs t place))
        (λ event. AsksAt (sweep_inputs s) (event_of integer.rank event) (sweep_inputs t))
    pub holds : HoldOneAtMost (sweep_inputs t)
    pub count : stream_count t ≡ stream_count s
    pub compared : t.inputs.heads.comparisons
        ≤ s.inputs.heads.comparisons + comparison_bound (stream_count s)
    pub counted : s.inputs.heads.comparisons ≤ t.inputs.heads.comparisons

  -- Whether `s` has these streams, and gives only the events of lists that they may give.
  pub record SweepsOver (streams : List I) (s : MultiwaySweep T I A N) : Type 0 where
    pub gives : (events : List Event) → sweep_may_give s events
        → SomeOfEach (length streams) (may_give_at stream.may_give streams)
        (λ lists. AreEvents lists events)
    pub count : stream_count s ≡ length streams

  -- Whether `s` is that sweep, is ready, and has the first range of each stream drawn and nothing
  -- more. The ranges of a stream ascend and do not overlap.
  pub record BeginsSweep (streams : List I) (s : MultiwaySweep T I A N) : Type 0 where
    pub made : SweepsOver streams s
    pub ready : SweepReady s
    pub touching : (place : ℕ)
        → may_give_at stream.may_give streams place ⊆ IsTouchingIn integer.value_count
    pub begun : (place : ℕ) → IsBegun (may_give_at stream.may_give streams place)
        (sweep_inputs s place)
