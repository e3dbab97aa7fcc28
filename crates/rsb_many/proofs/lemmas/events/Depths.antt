-- How many ranges of the inputs have started and not ended, as the events to come show.
use Rattle.std.proofs.Common.{◌≡◌, ℕ, ◌+◌, ◌≤◌, Bool, List, [], ◌∷◌, length, arith, refl, sum_by, Option, Some, None}
use Rattle.std.proofs.lemmas.List.Sorted.{sum_by-IsPermutation}
use Rattle.std.proofs.lemmas.List.Sums.{sum_by-append, sum_by-cons}
use Rattle.rsb_integer.specs.Runs.{Interval}
use Rattle.rsb_streams.specs.Stream.{Outcomes}
use Rattle.rsb_streams.specs.laws.Stream.{settled_le}
use Rattle.rsb_many.specs.Many.{OneOfEach, SomeOfEach}
use Rattle.rsb_many.specs.Rule.{end_count, start_count, IsDepth}
use Rattle.rsb_many.specs.Sweep.{all_events, end_then, events_from, events_of, events_of_rest, rest_events_from, rests_by, AreEvents, AreEventsOf, End, Event, Rest, Start}
use Rattle.rsb_many.proofs.lemmas.inputs.Rests.{length-rests_by, one_of_each-long}

-- How many ranges start.
abbrev pub starts_in : List Event → ℕ
starts_in events = sum_by start_count events

-- How many ranges end.
abbrev pub ends_in : List Event → ℕ
ends_in events = sum_by end_count events

-- Each range of an input starts and ends.
input-depth : (input : ℕ) (runs : List Interval)
    → starts_in (events_of input runs) ≡ ends_in (events_of input runs)
input-depth input [] = refl
input-depth input (run ∷ runs) =
    let others = events_of input runs in
    let rest = input-depth input runs in
    let one = sum_by-cons start_count (Start run input) (End run.last input ∷ others) in
    let two = sum_by-cons start_count (End run.last input) others in
    let three = sum_by-cons end_count (Start run input) (End run.last input ∷ others) in
    let four = sum_by-cons end_count (End run.last input) others in
    omega arith

-- The same holds for several inputs.
lists-depth : (input : ℕ) (lists : List (List Interval))
    → starts_in (events_from input lists) ≡ ends_in (events_from input lists)
lists-depth input [] = refl
lists-depth input (runs ∷ lists) =
    let first = input-depth input runs in
    let rest = lists-depth (input + 1) lists in
    let starts = sum_by-append start_count (events_of input runs) (events_from (input + 1) lists) in
    let ends = sum_by-append end_count (events_of input runs) (events_from (input + 1) lists) in
    omega arith

-- Before the first event, no range has started.
pub none-deep : (lists : List (List Interval)) (events : List Event) → AreEvents lists events
    → IsDepth 0 events
none-deep lists events are =
    let starts = sum_by-IsPermutation start_count (all_events lists) events are.all in
    let ends = sum_by-IsPermutation end_count (all_events lists) events are.all in
    let same = lists-depth 0 lists in
    omega arith

-- Whether at least as many ranges end as start, and at most `more` more.
pub record EndsOneMore (events : List Event) (more : ℕ) : Type 0 where
  pub fewer : starts_in events ≤ ends_in events
  pub most : ends_in events ≤ starts_in events + more

-- Of what is left of an input, at most one more range ends than starts.
rest-depth : (input : ℕ) (begun : Option ℕ) (runs : List Interval)
    → EndsOneMore (end_then input begun (events_of input runs)) 1
rest-depth input None runs =
    let same = input-depth input runs in
    record { fewer = omega arith; most = omega arith }
rest-depth input (Some last) runs =
    let others = events_of input runs in
    let same = input-depth input runs in
    let starts = sum_by-cons start_count (End last input) others in
    let ends = sum_by-cons end_count (End last input) others in
    record { fewer = omega arith; most = omega arith }

-- Of what is left of several inputs, at most one more range for each input ends than starts.
rests-depth : (input : ℕ) (rests : List Rest)
    → EndsOneMore (rest_events_from input rests) (length rests)
rests-depth input [] = record { fewer = omega arith; most = omega arith }
rests-depth input (rest ∷ rests) =
    let first = rest-depth input rest.begun rest.runs in
    let others = rests-depth (input + 1) rests in
    let starts = sum_by-append start_count (events_of_rest input rest)
    (rest_events_from (input + 1) rests) in
    let ends = sum_by-append end_count (events_of_rest input rest)
    (rest_events_from (input + 1) rests) in
    let fewer = first.fewer in
    let most = first.most in
    let also_fewer = others.fewer in
    let also_most = others.most in
    record { fewer = omega arith; most = omega arith }

-- This holds in any order of the events.
events-depth : (rests : List Rest) (events : List Event) → AreEventsOf rests events
    → EndsOneMore events (length rests)
events-depth rests events are =
    let lefts = rest_events_from 0 rests in
    let starts = sum_by-IsPermutation start_count lefts events are.all in
    let ends = sum_by-IsPermutation end_count lefts events are.all in
    let all = rests-depth 0 rests in
    let fewer = all.fewer in
    let most = all.most in
    record { fewer = omega arith; most = omega arith }

-- It holds for the events of lists that the inputs may give.
pub some-depth : (count : ℕ) (may_give : ℕ → Outcomes) (begun : ℕ → Bool) (events : List Event)
    → SomeOfEach count may_give (λ lists. AreEventsOf (rests_by begun lists) events)
    → EndsOneMore events count
some-depth count may_give begun events some = record {
  fewer = settled_le (starts_in events) (ends_in events)
      (λ fails. some (λ lists each are. fails (of_lists lists each are).fewer));
  most = settled_le (ends_in events) (starts_in events + count)
      (λ fails. some (λ lists each are. fails (of_lists lists each are).most));
}
  where
    -- It holds for one list from each input.
    of_lists : (lists : List (List Interval)) → OneOfEach count may_give lists
        → AreEventsOf (rests_by begun lists) events → EndsOneMore events count
    of_lists lists each are =
        let long = one_of_each-long count may_give lists each in
        let same = length-rests_by begun lists in
        let all = events-depth (rests_by begun lists) events are in
        let fewer = all.fewer in
        let most = all.most in
        record { fewer = fewer; most = omega (arith, long, same, most) }
