-- The events of a sweep: there is exactly one list of them.
use Rattle.std.proofs.Common.{◌≡◌, ◌≢◌, ℕ, ◌+◌, ◌<◌, ◌≤◌, List, [], ◌∷◌, ◌++◌, map, All, AllPairs, Contains, Option, None, Some, refl, ap, subst, inl, inr, arith}
use Rattle.std.proofs.lemmas.Bool.Decides.{nat_tests}
use Rattle.std.proofs.lemmas.List.Elements.{All-append, All-cons, All-contains_itself, All-head, All-map, All-nil, All-tail, All-weaker}
use Rattle.std.proofs.lemmas.List.Sorted.{All-permutation, IsPermutation-sym, IsPermutation-trans}
use Rattle.rsb_integer.proofs.lemmas.List.{not_both, true_or_false, AllPairs-cons}
use Rattle.rsb_integer.specs.Runs.{Interval}
use Rattle.rsb_streams.specs.Touching.{IsTouching, IsTouchingFrom, IsTouchingIn}
use Rattle.rsb_many.specs.Keys.{comes_before}
use Rattle.rsb_many.specs.Sweep.{end_then, events_from, events_of, events_of_rest, key_of_event, next_low, rest_unstarted, rest_events_from, AreEvents, AreEventsOf, AreInOrder, End, Event, IsTouchingRest, Precedes, Rest, Start}
use Rattle.rsb_many.proofs.lemmas.events.Ascending.{ascending-cons, ascending-same, ascending-some, AllPairs-append, AllPairs-nil, Apart}
use Rattle.rsb_many.proofs.lemmas.heap.Keys.{comes_before-one_way, comes_before-other, comes_before-through}

-- ---- events

-- Of two events, at most one comes before the other.
precedes-one_way : (one other : Event) → Precedes one other → Precedes other one → ⊥
precedes-one_way one other before after =
    not_both (comes_before (key_of_event other) (key_of_event one)) after
    (comes_before-one_way (key_of_event one) (key_of_event other) before)

-- If one event comes before another, it comes before whatever that one comes before.
pub precedes-through : (one other third : Event) → Precedes one other → Precedes other third
    → Precedes one third
precedes-through one other third =
    comes_before-through (key_of_event one) (key_of_event other) (key_of_event third)

-- An event at a lower rank comes first.
precedes-lower : (one other : Event) → (key_of_event one).at < (key_of_event other).at
    → Precedes one other
precedes-lower one other less = grind (arith, nat_tests)

-- A range starts before it ends.
start-precedes_end : (run : Interval) (input : ℕ) → run.first ≤ run.last
    → Precedes (Start run input) (End run.last input)
start-precedes_end run input ordered = grind (arith, nat_tests)

-- Of two events of different inputs, one comes before the other.
inputs-apart : (one other : Event) → (key_of_event one).input ≢ (key_of_event other).input
    → Apart Precedes one other
inputs-apart one other differ =
    elim (true_or_false (comes_before (key_of_event other) (key_of_event one))) [
      | inl after ↦ inr after
      | inr first ↦ inl (comes_before-other (key_of_event one) (key_of_event other) differ first)
    ]

-- ---- the events of one input

-- If no range of an input starts below `low`, no event of it is at a rank below `low`.
events-from_low : (input low : ℕ) (runs : List Interval) → IsTouchingFrom low runs
    → All (λ event. low ≤ (key_of_event event).at) (events_of input runs)
events-from_low input low [] touching = All-nil (λ event. low ≤ (key_of_event event).at)
events-from_low input low (run ∷ runs) touching =
    let starts = touching.starts in
    let ordered = touching.in_order in
    let past : Event → Type 0 = λ event. low ≤ (key_of_event event).at in
    All-cons past (Start run input) (End run.last input ∷ events_of input runs) starts
    (All-cons past (End run.last input) (events_of input runs) (omega arith)
    (All-weaker (λ event. run.last + 1 ≤ (key_of_event event).at) past (λ event later. omega arith)
    (events_of input runs) (events-from_low input (run.last + 1) runs touching.rest)))

-- Each event of an input has the number of the input.
events-input : (input : ℕ) (runs : List Interval)
    → All (λ event. (key_of_event event).input ≡ input) (events_of input runs)
events-input input [] = All-nil (λ event. (key_of_event event).input ≡ input)
events-input input (run ∷ runs) =
    let own : Event → Type 0 = λ event. (key_of_event event).input ≡ input in
    All-cons own (Start run input) (End run.last input ∷ events_of input runs) refl
    (All-cons own (End run.last input) (events_of input runs) refl (events-input input runs))

-- The end of a range comes before the events of the ranges past it.
end-first : (input last : ℕ) (runs : List Interval) → IsTouchingFrom (last + 1) runs
    → All (Precedes (End last input)) (events_of input runs)
end-first input last runs touching =
    All-weaker (λ event. last + 1 ≤ (key_of_event event).at) (Precedes (End last input))
    (λ event later. precedes-lower (End last input) event (omega arith)) (events_of input runs)
    (events-from_low input (last + 1) runs touching)

-- The events of an input ascend.
events-ascending : (input low : ℕ) (runs : List Interval) → IsTouchingFrom low runs
    → AllPairs Precedes (events_of input runs)
events-ascending input low [] touching = AllPairs-nil Precedes
events-ascending input low (run ∷ runs) touching =
    ascending-cons Precedes precedes-through (Start run input) (End run.last input)
    (events_of input runs) (start-precedes_end run input touching.in_order)
    (AllPairs-cons Precedes (End run.last input) (events_of input runs)
    (end-first input run.last runs touching.rest)
    (events-ascending input (run.last + 1) runs touching.rest))

-- ---- what is left of inputs

-- Each event that is left of an input has the number of the input.
pub end_then-input : (input : ℕ) (begun : Option ℕ) (runs : List Interval)
    → All (λ event. (key_of_event event).input ≡ input)
    (end_then input begun (events_of input runs))
end_then-input input None runs = events-input input runs
end_then-input input (Some last) runs =
    All-cons (λ event. (key_of_event event).input ≡ input) (End last input) (events_of input runs)
    refl (events-input input runs)

-- The events that are left of an input ascend.
pub end_then-ascending : (input : ℕ) (begun : Option ℕ) (runs : List Interval)
    → IsTouchingFrom (next_low begun) runs
    → AllPairs Precedes (end_then input begun (events_of input runs))
end_then-ascending input None runs touching = events-ascending input 0 runs touching
end_then-ascending input (Some last) runs touching =
    AllPairs-cons Precedes (End last input) (events_of input runs)
    (end-first input last runs touching) (events-ascending input (last + 1) runs touching)

-- No event that is left of inputs numbered from `input` has a lower number.
rests-inputs : (input : ℕ) (rests : List Rest)
    → All (λ event. input ≤ (key_of_event event).input) (rest_events_from input rests)
rests-inputs input [] = All-nil (λ event. input ≤ (key_of_event event).input)
rests-inputs input (rest ∷ rests) =
    let past : Event → Type 0 = λ event. input ≤ (key_of_event event).input in
    All-append past (events_of_rest input rest) (rest_events_from (input + 1) rests)
    (All-weaker (λ event. (key_of_event event).input ≡ input) past (λ event own. omega arith)
    (events_of_rest input rest) (end_then-input input rest.begun rest.runs))
    (All-weaker (λ event. input + 1 ≤ (key_of_event event).input) past (λ event later. omega arith)
    (rest_events_from (input + 1) rests) (rests-inputs (input + 1) rests))

-- Of any two events that are left of inputs, one comes before the other.
rests-apart : (input : ℕ) (rests : List Rest) → All IsTouchingRest rests
    → AllPairs (Apart Precedes) (rest_events_from input rests)
rests-apart input [] touching = AllPairs-nil (Apart Precedes)
rests-apart input (rest ∷ rests) touching =
    let own = end_then-ascending input rest.begun rest.runs
    (All-head IsTouchingRest rest rests touching) in
    AllPairs-append (Apart Precedes) (events_of_rest input rest)
    (rest_events_from (input + 1) rests) (λ m n d less within. inl (own m n d less within))
    (rests-apart (input + 1) rests (All-tail IsTouchingRest rest rests touching))
    (All-weaker (λ event. (key_of_event event).input ≡ input)
    (λ one. All (Apart Precedes one) (rest_events_from (input + 1) rests))
    (λ one is. All-weaker (λ event. input + 1 ≤ (key_of_event event).input)
    (Apart Precedes one) (λ other later. inputs-apart one other (λ same. absurd (omega arith)))
    (rest_events_from (input + 1) rests) (rests-inputs (input + 1) rests))
    (events_of_rest input rest) (end_then-input input rest.begun rest.runs))

-- ---- there is exactly one list of the events

-- Two lists that have the same events in order are equal.
pub in_order-unique : (unordered events others : List Event) → AreInOrder unordered events
    → AreInOrder unordered others → events ≡ others
in_order-unique unordered events others left right =
    let there = IsPermutation-trans events unordered others
    (IsPermutation-sym unordered events left.all) right.all in
    let back = IsPermutation-sym events others there in
    ascending-same Precedes precedes-one_way events others left.ascending right.ascending
    (All-permutation (Contains others) others events back (All-contains_itself others))
    (All-permutation (Contains events) events others there (All-contains_itself events))

-- There is a list of the events of what is left of inputs.
pub rests-some : (rests : List Rest) → All IsTouchingRest rests
    → (events : List Event) × AreEventsOf rests events
rests-some rests touching =
    let sorted = ascending-some Precedes precedes-through (rest_events_from 0 rests)
    (rests-apart 0 rests touching) in
    (sorted.0, record { all = sorted.1; ascending = sorted.2 })

-- If no range has started, all events of the inputs are left.
events-not_begun : (input : ℕ) (inputs : List (List Interval))
    → rest_events_from input (map rest_unstarted inputs) ≡ events_from input inputs
events-not_begun input [] = refl
events-not_begun input (runs ∷ inputs) =
    ap (λ others. events_of input runs ++ others) (events-not_begun (input + 1) inputs)

-- If no range has started, the events of what is left are those of the inputs.
pub events-from_rests : (inputs : List (List Interval)) (events : List Event)
    → AreEventsOf (map rest_unstarted inputs) events → AreEvents inputs events
events-from_rests inputs events =
    subst (λ unordered. AreInOrder unordered events) (events-not_begun 0 inputs)

-- There is a list of the events of inputs.
pub events-some : (n : ℕ) (inputs : List (List Interval)) → All (IsTouchingIn n) inputs
    → (events : List Event) × AreEvents inputs events
events-some n inputs touching =
    let some = rests-some (map rest_unstarted inputs)
    (All-map IsTouchingRest rest_unstarted inputs
    (All-weaker (IsTouchingIn n) IsTouching (λ runs within. within.spaced) inputs touching)) in
    (some.0, events-from_rests inputs some.0 some.1)
