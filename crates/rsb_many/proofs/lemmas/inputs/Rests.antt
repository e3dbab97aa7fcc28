-- What is left of inputs that give lists, depending on which have begun, and the events of that.
use Rattle.std.proofs.Common.{◌≡◌, ◌≢◌, inl, inr, ℕ, zero, suc, ◌<◌, Bool, true, false, List, [], ◌∷◌, ◌++◌, length, get_or, get_or-set_other, get_or-set_same, length-set, map, set, All, refl, sym, ap, subst, ◌∙◌, arith}
use Rattle.std.proofs.lemmas.Bool.{cases_eq}
use Rattle.std.proofs.lemmas.List.{set-get_or, set-set}
use Rattle.std.proofs.lemmas.List.Elements.{All-from_get_or}
use Rattle.std.proofs.lemmas.List.Sorted.{length_permutation}
use Rattle.rsb_integer.specs.Runs.{Interval}
use Rattle.rsb_streams.specs.Stream.{◌⊆◌, just, HasOutcome, Outcomes}
use Rattle.rsb_streams.specs.Touching.{IsTouching}
use Rattle.rsb_many.specs.Many.{OneOfEach, SomeOfEach}
use Rattle.rsb_many.specs.MultiwaySweep.{HasEvents}
use Rattle.rsb_many.specs.Sweep.{events_of_rest, rest_unstarted, nothing_left, rest_by, rest_events_from, rests_by, AreEventsOf, Event, IsTouchingRest, Rest}
use Rattle.rsb_many.proofs.lemmas.merging.Sets.{of_each-wider}
use Rattle.rsb_many.proofs.lemmas.events.Steps.{events-next, events-none, nothing-left, IsNotBefore}
use Rattle.rsb_many.proofs.lemmas.events.Lists.{rests-some}

-- ---- lists by their places

-- There are `count` lists.
pub one_of_each-long : (count : ℕ) (may_give : ℕ → Outcomes) (lists : List (List Interval))
    → OneOfEach count may_give lists → length lists ≡ count
one_of_each-long zero may_give [] each = refl
one_of_each-long zero may_give (runs ∷ lists) each = absurd each
one_of_each-long (suc count) may_give [] each = absurd each
one_of_each-long (suc count) may_give (runs ∷ lists) each =
    ap suc (one_of_each-long count (λ place. may_give (suc place)) lists each.1)

-- The list at a place is one that the stream at that place may give.
pub one_of_each-at : (count : ℕ) (may_give : ℕ → Outcomes) (lists : List (List Interval))
    (place : ℕ) → OneOfEach count may_give lists → place < count
    → may_give place (get_or lists place [])
one_of_each-at zero may_give lists place each less = absurd (omega (arith, less))
one_of_each-at (suc count) may_give [] place each less = absurd each
one_of_each-at (suc count) may_give (runs ∷ lists) zero each less = each.0
one_of_each-at (suc count) may_give (runs ∷ lists) (suc place) each less =
    one_of_each-at count (λ other. may_give (suc other)) lists place each.1 (omega (arith, less))

-- If there are `count` lists, each of which the stream at its place may give, they are one of each.
pub one_of_each-from : (count : ℕ) (may_give : ℕ → Outcomes) (lists : List (List Interval))
    → length lists ≡ count
    → ((place : ℕ) → place < count → may_give place (get_or lists place []))
    → OneOfEach count may_give lists
one_of_each-from zero may_give [] long each = tt
one_of_each-from zero may_give (runs ∷ lists) long each = absurd (omega (arith, long))
one_of_each-from (suc count) may_give [] long each = absurd (omega (arith, long))
one_of_each-from (suc count) may_give (runs ∷ lists) long each = (
  each zero (omega arith),
  one_of_each-from count (λ place. may_give (suc place)) lists (omega (arith, long))
      (λ place less. each (suc place) (omega (arith, less))),
)

-- If one list is replaced by one that might come before, and the others might too, the lists might
-- come before.
pub one_of_each-set : (count : ℕ) (before now : ℕ → Outcomes) (lists : List (List Interval))
    (place : ℕ) (runs : List Interval) → OneOfEach count now lists → place < count
    → before place runs
    → ((other : ℕ) → other < count → other ≢ place → now other ⊆ before other)
    → OneOfEach count before (set lists place runs)
one_of_each-set count before now lists place runs each less here elsewhere =
    let long = one_of_each-long count now lists each in
    one_of_each-from count before (set lists place runs) (length-set lists place runs ∙ long)
    (λ other within. elim (cases_eq other place) [
      | inl same ↦ rw (same, get_or-set_same lists place runs [] (omega (arith, long, less))) here
      | inr differs ↦ rw (get_or-set_other lists place other runs [] differs)
          (elsewhere other within differs (get_or lists other [])
          (one_of_each-at count now lists other each within))
    ])

-- If a fact holds of whatever each stream may give, it holds of each list.
pub one_of_each-all : (count : ℕ) (may_give : ℕ → Outcomes) (Fact : List Interval → Type 0)
    (lists : List (List Interval))
    → ((place : ℕ) → place < count → may_give place ⊆ Fact) → OneOfEach count may_give lists
    → All Fact lists
one_of_each-all count may_give Fact lists holds each =
    let long = one_of_each-long count may_give lists each in
    All-from_get_or Fact lists [] (λ place within.
    holds place (omega (arith, within, long)) (get_or lists place [])
    (one_of_each-at count may_give lists place each (omega (arith, within, long))))

-- If each stream may give something, there are lists that are one of each.
pub one_of_each-some : (count : ℕ) (may_give : ℕ → Outcomes)
    → ((place : ℕ) → place < count → HasOutcome (may_give place))
    → ¬ ((lists : List (List Interval)) → ¬ (OneOfEach count may_give lists))
one_of_each-some zero may_give some = λ never. never [] tt
one_of_each-some (suc count) may_give some = λ never. some zero (omega arith) (λ runs may.
    one_of_each-some count (λ place. may_give (suc place))
    (λ place less. some (suc place) (omega (arith, less)))
    (λ lists each. never (runs ∷ lists) (may, each)))

-- ---- what is left

-- What is left depends only on whether each input has begun.
pub rests_by-same : (begun now : ℕ → Bool) (lists : List (List Interval))
    → ((place : ℕ) → now place ≡ begun place) → rests_by now lists ≡ rests_by begun lists
rests_by-same begun now [] same = refl
rests_by-same begun now (runs ∷ lists) same =
    let first = ap (λ each. rest_by each runs) (same zero) in
    let others = rests_by-same (λ place. begun (suc place)) (λ place. now (suc place)) lists
    (λ place. same (suc place)) in
    λ i. first i ∷ others i

-- If no input has begun, all ranges are still to start.
pub rests_by-none : (begun : ℕ → Bool) (lists : List (List Interval))
    → ((place : ℕ) → begun place ≡ false) → rests_by begun lists ≡ map rest_unstarted lists
rests_by-none begun [] none = refl
rests_by-none begun (runs ∷ lists) none =
    let first = ap (λ each. rest_by each runs) (none zero) in
    let others = rests_by-none (λ place. begun (suc place)) lists (λ place. none (suc place)) in
    λ i. first i ∷ others i

-- Each list leaves one rest.
pub length-rests_by : (begun : ℕ → Bool) (lists : List (List Interval))
    → length (rests_by begun lists) ≡ length lists
length-rests_by begun [] = refl
length-rests_by begun (runs ∷ lists) =
    ap suc (length-rests_by (λ place. begun (suc place)) lists)

-- The rest at a place depends on the list there, and on whether its input has begun.
get_or-rests_by : (begun : ℕ → Bool) (lists : List (List Interval)) (place : ℕ) (default : Rest)
    → place < length lists
    → get_or (rests_by begun lists) place default ≡ rest_by (begun place) (get_or lists place [])
get_or-rests_by begun [] place default less = absurd (omega (arith, less))
get_or-rests_by begun (runs ∷ lists) zero default less = refl
get_or-rests_by begun (runs ∷ lists) (suc place) default less =
    get_or-rests_by (λ other. begun (suc other)) lists place default (omega (arith, less))

-- Replacing one list, and perhaps whether its input has begun, replaces one rest.
set-rests_by : (begun now : ℕ → Bool) (lists : List (List Interval)) (place : ℕ)
    (runs : List Interval) → ((other : ℕ) → other ≢ place → now other ≡ begun other)
    → set (rests_by begun lists) place (rest_by (now place) runs)
    ≡ rests_by now (set lists place runs)
set-rests_by begun now [] place runs same = refl
set-rests_by begun now (own ∷ lists) zero runs same =
    let others = rests_by-same (λ other. begun (suc other)) (λ other. now (suc other)) lists
    (λ other. same (suc other) (λ is. absurd (omega (arith, is)))) in
    λ i. rest_by (now zero) runs ∷ sym others i
set-rests_by begun now (own ∷ lists) (suc place) runs same =
    let first = ap (λ each. rest_by each own) (same zero (λ is. absurd (omega (arith, is)))) in
    let others = set-rests_by (λ other. begun (suc other)) (λ other. now (suc other)) lists place
    runs (λ other differs. same (suc other) (λ is. differs (omega (arith, is)))) in
    λ i. sym first i ∷ others i

-- If the list of an input is touching, so is what is left of it.
pub touching-rest : (begun : Bool) (runs : List Interval) → IsTouching runs
    → IsTouchingRest (rest_by begun runs)
touching-rest false runs touching = touching
touching-rest true [] touching = tt
touching-rest true (run ∷ runs) touching = touching.rest

-- An input without ranges leaves nothing.
rest_by-nothing : (begun : Bool) → rest_by begun [] ≡ nothing_left
rest_by-nothing false = refl
rest_by-nothing true = refl

-- So none of its events comes before another event.
pub not_before-nothing : (begun : Bool) (place : ℕ) (event : Event)
    → IsNotBefore (events_of_rest place (rest_by begun [])) event
not_before-nothing begun place event = rw (rest_by-nothing begun) tt

-- If each list is touching, so is what is left of each.
rests-touching : (count : ℕ) (may_give : ℕ → Outcomes) (begun : ℕ → Bool)
    (lists : List (List Interval))
    → ((place : ℕ) → place < count → may_give place ⊆ IsTouching)
    → OneOfEach count may_give lists → All IsTouchingRest (rests_by begun lists)
rests-touching count may_give begun lists touching each =
    let long = one_of_each-long count may_give lists each in
    let same = length-rests_by begun lists in
    All-from_get_or IsTouchingRest (rests_by begun lists) nothing_left (λ place within.
    let less : place < length lists = omega (arith, within, same) in
    subst IsTouchingRest (sym (get_or-rests_by begun lists place nothing_left less))
    (touching-rest (begun place) (get_or lists place [])
    (touching place (omega (arith, less, long)) (get_or lists place [])
    (one_of_each-at count may_give lists place each (omega (arith, less, long))))))

-- ---- the events of lists that inputs may give

-- If each input may give some list, some list of events may come.
pub has_events : (count : ℕ) (may_give : ℕ → Outcomes) (begun : ℕ → Bool)
    → ((place : ℕ) → place < count → HasOutcome (may_give place))
    → ((place : ℕ) → place < count → may_give place ⊆ IsTouching)
    → HasEvents (λ events. SomeOfEach count may_give
    (λ lists. AreEventsOf (rests_by begun lists) events))
has_events count may_give begun some touching = λ never.
    one_of_each-some count may_give some (λ lists each.
    let events = rests-some (rests_by begun lists)
    (rests-touching count may_give begun lists touching each) in
    never events.0 (λ nothing. nothing lists each events.1))

-- If no input gives anything, nothing is left of any.
rests-nothing : (count : ℕ) (may_give : ℕ → Outcomes) (begun : ℕ → Bool)
    (lists : List (List Interval))
    → ((place : ℕ) → place < count → (runs : List Interval) → may_give place runs → runs ≡ [])
    → OneOfEach count may_give lists → All (λ rest. rest ≡ nothing_left) (rests_by begun lists)
rests-nothing count may_give begun lists nothing each =
    let long = one_of_each-long count may_give lists each in
    let same = length-rests_by begun lists in
    All-from_get_or (λ rest. rest ≡ nothing_left) (rests_by begun lists) nothing_left
    (λ place within.
    let less : place < length lists = omega (arith, within, same) in
    let runs = nothing place (omega (arith, less, long)) (get_or lists place [])
    (one_of_each-at count may_give lists place each (omega (arith, less, long))) in
    get_or-rests_by begun lists place nothing_left less
    ∙ (ap (rest_by (begun place)) runs ∙ rest_by-nothing (begun place)))

-- If each input may give no ranges, there may be no events.
pub events-may_end : (count : ℕ) (may_give : ℕ → Outcomes) (begun : ℕ → Bool)
    → ((place : ℕ) → place < count → may_give place [])
    → SomeOfEach count may_give (λ lists. AreEventsOf (rests_by begun lists) [])
events-may_end count may_give begun ends = λ nothing.
    one_of_each-some count (λ place. just []) (λ place less never. never [] refl)
    (λ lists each. nothing lists
    (of_each-wider count (λ place. just []) may_give
    (λ place less runs is. subst (may_give place) (sym is) (ends place less)) lists each)
    (events-none (rests_by begun lists)
    (rests-nothing count (λ place. just []) begun lists (λ place less runs is. is) each)))

-- If no input gives anything, there are no events.
pub events-end_only : (count : ℕ) (may_give : ℕ → Outcomes) (begun : ℕ → Bool)
    → ((place : ℕ) → place < count → (runs : List Interval) → may_give place runs → runs ≡ [])
    → (events : List Event)
    → SomeOfEach count may_give (λ lists. AreEventsOf (rests_by begun lists) events)
    → events ≡ []
events-end_only count may_give begun nothing [] some = refl
events-end_only count may_give begun nothing (event ∷ events) some =
    absurd (some (λ lists each given.
    let rests = rests_by begun lists in
    let none = nothing-left 0 rests (rests-nothing count may_give begun lists nothing each) in
    let same = length_permutation (rest_events_from 0 rests) (event ∷ events) given.all in
    let short = ap (λ (each_event : List Event). length each_event) none in
    omega (arith, same, short)))

-- ---- one event
module _ (count : ℕ) (before now : ℕ → Outcomes) (begun now_begun : ℕ → Bool) (place : ℕ)
    (event : Event) (used : List Interval) (less : place < count)
    (here : (runs : List Interval) → now place runs → before place (used ++ runs))
    (elsewhere : (other : ℕ) → other < count → other ≢ place → now other ⊆ before other)
    (stays : (other : ℕ) → other ≢ place → now_begun other ≡ begun other)
    (touching : (each : ℕ) → each < count → before each ⊆ IsTouching)
    (is : (runs : List Interval) → now place runs
    → events_of_rest place (rest_by (begun place) (used ++ runs))
    ≡ event ∷ events_of_rest place (rest_by (now_begun place) runs))
    (least : (other : ℕ) → other < count → other ≢ place → (runs : List Interval)
    → now other runs → IsNotBefore (events_of_rest other (rest_by (begun other) runs)) event) where
  -- The lists before the event: that at `place` also has the ranges that were used.
  abbrev earlier : List (List Interval) → List (List Interval)
  earlier lists = set lists place (used ++ get_or lists place [])

  module _ (lists : List (List Interval)) (inside : place < length lists) where
    -- What is left before the event.
    abbrev rests : List Rest
    rests = rests_by begun (earlier lists)

    -- There are as many lists before the event.
    earlier-long : length (earlier lists) ≡ length lists
    earlier-long = length-set lists place (used ++ get_or lists place [])

    -- At the place of the event, the list has the ranges that were used, too.
    rest-here : get_or rests place nothing_left
        ≡ rest_by (begun place) (used ++ get_or lists place [])
    rest-here =
        get_or-rests_by begun (earlier lists) place nothing_left (omega (arith, inside, earlier-long))
        ∙ ap (rest_by (begun place))
        (get_or-set_same lists place (used ++ get_or lists place []) [] inside)

    -- At another place, the list is the same as after the event.
    rest-elsewhere : (other : ℕ) (default : Rest) → other < length lists → other ≢ place
        → get_or rests other default ≡ rest_by (begun other) (get_or lists other [])
    rest-elsewhere other default there differs =
        get_or-rests_by begun (earlier lists) other default (omega (arith, there, earlier-long))
        ∙ ap (rest_by (begun other))
        (get_or-set_other lists place other (used ++ get_or lists place []) [] differs)

    -- Only what is left at the place of the event changes.
    rests-after : set rests place (rest_by (now_begun place) (get_or lists place []))
        ≡ rests_by now_begun lists
    rests-after =
        set-rests_by begun now_begun (earlier lists) place (get_or lists place []) stays
        ∙ ap (rests_by now_begun) (set-set lists place (used ++ get_or lists place [])
        (get_or lists place []) ∙ set-get_or lists place [])

  -- If an event is the first of its input and no other input has an earlier one, it may come before
  -- the later events.
  pub events-told : (events : List Event)
      → SomeOfEach count now (λ lists. AreEventsOf (rests_by now_begun lists) events)
      → SomeOfEach count before (λ lists. AreEventsOf (rests_by begun lists) (event ∷ events))
  events-told events some = λ nothing. some (λ lists each given.
      let long = one_of_each-long count now lists each in
      let runs = get_or lists place [] in
      let may = one_of_each-at count now lists place each less in
      let inside : place < length lists = omega (arith, less, long) in
      let before_each = one_of_each-set count before now lists place (used ++ runs) each less
      (here runs may) elsewhere in
      let same_long = length-rests_by begun (earlier lists) ∙ earlier-long lists inside in
      nothing (earlier lists) before_each
      (events-next (rests lists inside) place nothing_left event (rest_by (now_begun place) runs)
      (rests-touching count before begun (earlier lists) touching before_each)
      (omega (arith, inside, same_long))
      (ap (events_of_rest place) (rest-here lists inside) ∙ is runs may)
      (λ other default within differs.
      let there : other < length lists = omega (arith, within, same_long) in
      subst (λ rest. IsNotBefore (events_of_rest other rest) event)
      (sym (rest-elsewhere lists inside other default there differs))
      (least other (omega (arith, there, long)) differs (get_or lists other [])
      (one_of_each-at count now lists other each (omega (arith, there, long)))))
      events (subst (λ each_rest. AreEventsOf each_rest events) (sym (rests-after lists inside)) given)))
