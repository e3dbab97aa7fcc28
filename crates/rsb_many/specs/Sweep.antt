-- Where the ranges of many inputs start and end, in the order in which a sweep gives these events.
use Rattle.std.specs.Prelude.{ℕ, zero, suc, Bool, true, false, ◌+◌, List, [], ◌∷◌, ◌++◌, AllPairs, IsPermutation, IsTrue, Option, Some, None}
use Rattle.rsb_integer.specs.Rank.{interval_of}
use Rattle.rsb_integer.specs.Runs.{Interval}
use Rattle.rsb_streams.specs.Touching.{IsTouchingFrom}
use Rattle.rsb_many.specs.Keys.{comes_before, Key}
use Rattle.rsb_many.specs.declared.sweep_event.SweepEvent.{SweepEvent}
use Rattle.rsb_many.specs.declared.sweep_event.SweepEvent.TheVariants as events

-- ---- events

-- A range of an input starts, or one ends at a rank. Inputs are identified by their numbers.
pub data Event : Type 0 where
  Start : Interval → ℕ → Event
  End : ℕ → ℕ → Event

-- An event of values, with their ranks.
abbrev pub event_of : {T : Type 0} → (T → ℕ) → SweepEvent T → Event
event_of rank (events.Start range input) = Start (interval_of rank range) input
event_of rank (events.End at input) = End (rank at) input

-- The key that orders an event: a start is at the first rank of its range, an end at its rank.
abbrev pub key_of_event : Event → Key
key_of_event (Start range input) = record { at = range.first; is_end = false; input = input }
key_of_event (End at input) = record { at = at; is_end = true; input = input }

-- Whether one event comes before another: by rank, then a start before an end, then by input.
abbrev pub Precedes : Event → Event → Type 0
Precedes one other = IsTrue (comes_before (key_of_event one) (key_of_event other))

-- Whether `events` has the events of `unordered`, each the same number of times, and each comes
-- before all later ones.
pub record AreInOrder (unordered events : List Event) : Type 0 where
  pub all : IsPermutation unordered events
  pub ascending : AllPairs Precedes events

-- ---- inputs

-- The events of an input: each of its ranges starts and ends.
abbrev pub events_of : ℕ → List Interval → List Event
events_of input [] = []
events_of input (range ∷ ranges) =
    Start range input ∷ End range.last input ∷ events_of input ranges

-- The events of inputs, which are numbered from `input`.
abbrev pub events_from : ℕ → List (List Interval) → List Event
events_from input [] = []
events_from input (ranges ∷ inputs) = events_of input ranges ++ events_from (input + 1) inputs

-- The events of a list of inputs, which are numbered from 0.
abbrev pub all_events : List (List Interval) → List Event
all_events inputs = events_from 0 inputs

-- Whether `events` has the events of the inputs, each once and in order.
abbrev pub AreEvents : List (List Interval) → List Event → Type 0
AreEvents inputs events = AreInOrder (all_events inputs) events

-- ---- what is left of inputs

-- What is left of an input: the rank where a range that has started ends, if one has, and the
-- ranges that are still to start.
pub record Rest : Type 0 where
  pub begun : Option ℕ
  pub runs : List Interval

-- What is left of an input if no range has started.
abbrev pub rest_unstarted : List Interval → Rest
rest_unstarted runs = record { begun = None; runs = runs }

-- What is left of an input if a range has started that ends at `last`.
abbrev pub rest_started : ℕ → List Interval → Rest
rest_started last runs = record { begun = Some last; runs = runs }

-- The end of a range that has started, if one has, followed by the other events.
abbrev pub end_then : ℕ → Option ℕ → List Event → List Event
end_then input None others = others
end_then input (Some last) others = End last input ∷ others

-- The events of what is left of an input.
abbrev pub events_of_rest : ℕ → Rest → List Event
events_of_rest input rest = end_then input rest.begun (events_of input rest.runs)

-- The events of what is left of inputs, which are numbered from `input`.
abbrev pub rest_events_from : ℕ → List Rest → List Event
rest_events_from input [] = []
rest_events_from input (rest ∷ rests) =
    events_of_rest input rest ++ rest_events_from (input + 1) rests

-- Whether `events` has the events of what is left of the inputs, each once and in order.
abbrev pub AreEventsOf : List Rest → List Event → Type 0
AreEventsOf rests events = AreInOrder (rest_events_from 0 rests) events

-- The rank past the end of the range that has started, or 0 if none has.
abbrev pub next_low : Option ℕ → ℕ
next_low None = 0
next_low (Some last) = last + 1

-- Whether the ranges left of an input ascend, from past the end of the range that has started. They
-- may touch but do not overlap.
abbrev pub IsTouchingRest : Rest → Type 0
IsTouchingRest rest = IsTouchingFrom (next_low rest.begun) rest.runs

-- What is left of an input that has ended.
abbrev pub nothing_left : Rest
nothing_left = rest_unstarted []

-- What is left of an input that gives these ranges, of which the first has started if the flag is
-- true.
abbrev pub rest_by : Bool → List Interval → Rest
rest_by false runs = rest_unstarted runs
rest_by true [] = nothing_left
rest_by true (run ∷ runs) = rest_started run.last runs

-- What is left of inputs that give these lists. `begun` holds at the places of those whose first
-- range has started.
abbrev pub rests_by : (ℕ → Bool) → List (List Interval) → List Rest
rests_by begun [] = []
rests_by begun (runs ∷ lists) =
    rest_by (begun zero) runs ∷ rests_by (λ place. begun (suc place)) lists
