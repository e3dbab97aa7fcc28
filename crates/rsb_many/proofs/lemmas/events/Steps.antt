-- How a sweep passes one event, from what is left of its inputs before it to what is left after it.
use Rattle.std.proofs.Common.{◌≡◌, ◌≢◌, ℕ, zero, suc, ◌+◌, ◌<◌, List, [], ◌∷◌, ◌++◌, length, get_or, get_or-set_other, get_or-set_same, length-set, set, All, AllPairs, IsPermutation, IsFalse, refl, sym, ◌∙◌, subst, inl, inr, arith}
use Rattle.std.proofs.lemmas.List.Elements.{All-append, All-get_or, All-head, All-nil, All-tail}
use Rattle.std.proofs.lemmas.List.Sorted.{All-permutation, IsPermutation-append_right, IsPermutation-cons, IsPermutation-middle, IsPermutation-refl, IsPermutation-trans}
use Rattle.rsb_integer.proofs.lemmas.List.{AllPairs-cons}
use Rattle.std.proofs.lemmas.Bool.{cases_eq}
use Rattle.rsb_many.specs.Keys.{comes_before}
use Rattle.rsb_many.specs.Sweep.{events_of_rest, key_of_event, nothing_left, rest_events_from, AreEventsOf, Event, IsTouchingRest, Precedes, Rest}
use Rattle.rsb_many.proofs.lemmas.events.Ascending.{before-all, AllPairs-head, AllPairs-nil}
use Rattle.rsb_many.proofs.lemmas.heap.Keys.{comes_before-other}
use Rattle.rsb_many.proofs.lemmas.events.Lists.{end_then-ascending, end_then-input, precedes-through}

-- ---- what comes first

-- Whether the first of the events, if there is one, does not come before `one`.
abbrev pub IsNotBefore : List Event → Event → Type 0
IsNotBefore [] one = Unit {0}
IsNotBefore (first ∷ others) one = IsFalse (comes_before (key_of_event first) (key_of_event one))

-- Whether in every other input the first event that is left does not come before this one.
abbrev pub IsLeastEvent : List Rest → ℕ → Event → Type 0
IsLeastEvent rests input one = (other : ℕ) (default : Rest) → other < length rests → other ≢ input
    → IsNotBefore (events_of_rest other (get_or rests other default)) one

-- If the first event of another input does not come before `one`, all of its events come after it.
first-all : (one : Event) (input : ℕ) (events : List Event) → AllPairs Precedes events
    → All (λ event. (key_of_event event).input ≡ input) events → (key_of_event one).input ≢ input
    → IsNotBefore events one → All (Precedes one) events
first-all one input [] ascending own differ first = All-nil (Precedes one)
first-all one input (other ∷ events) ascending own differ first =
    let bears = All-head (λ event. (key_of_event event).input ≡ input) other events own in
    before-all Precedes precedes-through one other events
    (comes_before-other (key_of_event one) (key_of_event other) (λ same. differ (same ∙ bears))
    first) ascending

-- ---- an event is taken from one input

-- The events that are left are the first event of one input and those that are left after it.
rests-taken : (input : ℕ) (rests : List Rest) (k at : ℕ) (default : Rest) (event : Event)
    (after : Rest) → at ≡ input + k → k < length rests
    → events_of_rest at (get_or rests k default) ≡ event ∷ events_of_rest at after
    → IsPermutation (rest_events_from input rests)
    (event ∷ rest_events_from input (set rests k after))
rests-taken input [] k at default event after place within is = absurd (omega arith)
rests-taken input (rest ∷ rests) zero at default event after place within is =
    let same : at ≡ input = omega arith in
    let first = subst (λ number. events_of_rest number rest ≡ event ∷ events_of_rest number after)
    same is in
    rw first (IsPermutation-refl _)
rests-taken input (rest ∷ rests) (suc k) at default event after place within is =
    let own = events_of_rest input rest in
    let others = rest_events_from (input + 1) (set rests k after) in
    IsPermutation-trans (own ++ rest_events_from (input + 1) rests) (own ++ event ∷ others)
    (event ∷ (own ++ others))
    (IsPermutation-append_right own (rest_events_from (input + 1) rests) (event ∷ others)
    (rests-taken (input + 1) rests k at default event after (omega arith) (omega arith) is))
    (IsPermutation-middle own event others)

-- If a fact holds of all events that are left of each input, it holds of all events that are left.
rests-all : (P : Event → Type 0) (input : ℕ) (rests : List Rest)
    → ((k at : ℕ) (default : Rest) → at ≡ input + k → k < length rests
    → All P (events_of_rest at (get_or rests k default)))
    → All P (rest_events_from input rests)
rests-all P input [] each = All-nil P
rests-all P input (rest ∷ rests) each =
    All-append P (events_of_rest input rest) (rest_events_from (input + 1) rests)
    (each 0 input rest (omega arith) (omega arith))
    (rests-all P (input + 1) rests (λ k at default place within.
    each (suc k) at default (omega arith) (omega arith)))

-- The events that are left of an input of a list ascend.
rest-ascending : (rests : List Rest) (k : ℕ) (default : Rest) → All IsTouchingRest rests
    → k < length rests → AllPairs Precedes (events_of_rest k (get_or rests k default))
rest-ascending rests k default touching within =
    let rest = get_or rests k default in
    end_then-ascending k rest.begun rest.runs
    (All-get_or IsTouchingRest rests k default within touching)

-- ---- the law of one step

module _ (rests : List Rest) (input : ℕ) (default : Rest) (event : Event) (after : Rest)
    (touching : All IsTouchingRest rests) (within : input < length rests)
    (is : events_of_rest input (get_or rests input default) ≡ event ∷ events_of_rest input after)
    (least : IsLeastEvent rests input event) where
  -- The event has the number of its input.
  bears-input : (key_of_event event).input ≡ input
  bears-input =
      let rest = get_or rests input default in
      let bears : Event → Type 0 = λ each. (key_of_event each).input ≡ input in
      All-head bears event (events_of_rest input after)
      (subst (All bears) is (end_then-input input rest.begun rest.runs))

  -- It comes before all that is left of its input afterwards.
  before-own : All (Precedes event) (events_of_rest input after)
  before-own = AllPairs-head Precedes event (events_of_rest input after)
      (subst (AllPairs Precedes) is (rest-ascending rests input default touching within))

  -- It comes before all that is left of each input.
  before-each : (k : ℕ) (other : Rest) → k < length rests
      → All (Precedes event) (events_of_rest k (get_or (set rests input after) k other))
  before-each k other inside = elim (cases_eq k input) [
    | inl here ↦ rw (here, get_or-set_same rests input after other within) before-own
    | inr there ↦
        let rest = get_or rests k other in
        rw (get_or-set_other rests input k after other there)
        (first-all event k (events_of_rest k rest) (rest-ascending rests k other touching inside)
        (end_then-input k rest.begun rest.runs) (λ same. there (sym same ∙ bears-input))
        (least k other inside there))
  ]

  -- It comes before all that is left of the inputs.
  before-left : All (Precedes event) (rest_events_from 0 (set rests input after))
  before-left = rests-all (Precedes event) 0 (set rests input after) (λ k at other place inside.
      let long = length-set rests input after in
      let same : at ≡ k = omega arith in
      rw same (before-each k other (omega arith)))

  -- The events are the least of the first events, followed by the events of what is left after it.
  pub events-next : (events : List Event) → AreEventsOf (set rests input after) events
      → AreEventsOf rests (event ∷ events)
  events-next events given =
      let lefts = rest_events_from 0 (set rests input after) in
      record {
        all = IsPermutation-trans (rest_events_from 0 rests) (event ∷ lefts) (event ∷ events)
            (rests-taken 0 rests input input default event after (omega arith) within is)
            (IsPermutation-cons event lefts events given.all);
        ascending = AllPairs-cons Precedes event events
            (All-permutation (Precedes event) lefts events given.all before-left) given.ascending;
      }

-- ---- the end of the sweep

-- If nothing is left of any input, no events are left.
pub nothing-left : (input : ℕ) (rests : List Rest) → All (λ rest. rest ≡ nothing_left) rests
    → rest_events_from input rests ≡ []
nothing-left input [] nothing = refl
nothing-left input (rest ∷ rests) nothing =
    let first = All-head (λ each. each ≡ nothing_left) rest rests nothing in
    let others = nothing-left (input + 1) rests
    (All-tail (λ each. each ≡ nothing_left) rest rests nothing) in
    λ i. events_of_rest input (first i) ++ others i

-- So the list of events is then empty.
pub events-none : (rests : List Rest) → All (λ rest. rest ≡ nothing_left) rests
    → AreEventsOf rests []
events-none rests nothing = record {
  all = rw (nothing-left 0 rests nothing) (IsPermutation-refl []);
  ascending = AllPairs-nil Precedes;
}
