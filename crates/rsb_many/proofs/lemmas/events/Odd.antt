-- A rank lies in an odd number of lists exactly if the number of edges at or before it is odd.
use Rattle.std.proofs.Common.{◌≡◌, ℕ, zero, suc, ◌+◌, ◌-◌, ◌<◌, ◌≤◌, Bool, true, false, not, cond, ◌||◌, nat_le, List, [], ◌∷◌, ◌++◌, map, refl, sym, ap, ◌∙◌, arith, All, AllPairs, sum_by, IsPermutation}
use Rattle.std.proofs.lemmas.Bool.Decides.{nat_tests}
use Rattle.std.proofs.lemmas.List.{map-append}
use Rattle.std.proofs.lemmas.List.Elements.{All-append, All-cons, All-head, All-nil, All-tail, All-weaker}
use Rattle.std.proofs.lemmas.List.Sorted.{All-permutation, sum_by-IsPermutation}
use Rattle.std.proofs.lemmas.List.Sums.{sum_by-cons}
use Rattle.rsb_integer.specs.Runs.{Interval, covers, members, AllEndBelow}
use Rattle.rsb_integer.specs.Selection.{exclusive_or, odd_of}
use Rattle.rsb_integer.proofs.lemmas.List.{AllPairs-tail}
use Rattle.rsb_integer.proofs.lemmas.Members.{members-cons}
use Rattle.rsb_streams.specs.Touching.{IsTouchingFrom, IsTouchingIn}
use Rattle.rsb_many.specs.Sweep.{all_events, events_from, events_of, AreEvents, End, Event, Precedes, Start}
use Rattle.rsb_many.specs.SweepPieces.{edge_of, odd_past, HasEdgesFrom, IsEventIn}
use Rattle.rsb_many.proofs.lemmas.events.Ascending.{AllPairs-head}
use Rattle.rsb_many.proofs.lemmas.events.Edges.{between-edges, odd-before}

-- ---- an odd number of edges, in any order

-- Whether a number is odd.
abbrev is_odd : ℕ → Bool
is_odd zero = false
is_odd (suc n) = not (is_odd n)

-- 1 for an event whose edge is at or before a rank, and otherwise 0.
abbrev edge_by : ℕ → Event → ℕ
edge_by rank event = cond (nat_le (edge_of event) rank) 1 0

-- Adding 1 changes whether a number is odd, and adding 0 does not.
odd-more : (test : Bool) (count : ℕ) → exclusive_or test (is_odd count) ≡ is_odd (cond test 1 0 + count)
odd-more true count = ap is_odd (let more : suc count ≡ 1 + count = omega arith in more)
odd-more false count = ap is_odd (let same : count ≡ 0 + count = omega arith in same)

-- `odd_past` is whether the number of edges at or before a rank is odd.
odd-counted : (events : List Event) (rank : ℕ)
    → odd_past (map edge_of events) rank ≡ is_odd (sum_by (edge_by rank) events)
odd-counted [] rank = refl
odd-counted (event ∷ events) rank =
    ap (λ test. exclusive_or (nat_le (edge_of event) rank) test) (odd-counted events rank)
    ∙ odd-more (nat_le (edge_of event) rank) (sum_by (edge_by rank) events)
    ∙ ap is_odd (sym (sum_by-cons (edge_by rank) event events))

-- So it does not depend on the order of the events.
odd-permutation : (events others : List Event) (rank : ℕ) → IsPermutation events others
    → odd_past (map edge_of others) rank ≡ odd_past (map edge_of events) rank
odd-permutation events others rank same = odd-counted others rank
    ∙ ap is_odd (sum_by-IsPermutation (edge_by rank) events others same)
    ∙ sym (odd-counted events rank)

-- ---- the edges of lists

-- “Exclusive or” is associative.
three : (one other third : Bool)
    → exclusive_or (exclusive_or one other) third ≡ exclusive_or one (exclusive_or other third)
three true true true = refl
three true true false = refl
three true false third = refl
three false other third = refl

-- For two lists of edges together, it is the “exclusive or” of those of each.
odd-append : (edges others : List ℕ) (rank : ℕ)
    → odd_past (edges ++ others) rank ≡ exclusive_or (odd_past edges rank) (odd_past others rank)
odd-append [] others rank = refl
odd-append (edge ∷ edges) others rank =
    ap (λ test. exclusive_or (nat_le edge rank) test) (odd-append edges others rank)
    ∙ sym (three (nat_le edge rank) (odd_past edges rank) (odd_past others rank))

-- The edges of the events of a touching list never fall.
pub edges-events : (n low input : ℕ) (runs : List Interval) → IsTouchingFrom low runs
    → AllEndBelow n runs → HasEdgesFrom n low (events_of input runs)
edges-events n low input [] touching below = tt
edges-events n low input (run ∷ runs) touching below =
    let starts = touching.starts in
    let ordered = touching.in_order in
    let inside = All-head (λ (each : Interval). each.last < n) run runs below in (
      starts,
      (ordered, inside),
      (
        omega (arith, ordered),
        inside,
        edges-events n (run.last + 1) input runs touching.rest
            (All-tail (λ (each : Interval). each.last < n) run runs below),
      ),
    )

-- An odd number of the edges of a touching list is at or before a rank exactly if the list covers
-- it.
pub odd-members : (n low input : ℕ) (runs : List Interval) (rank : ℕ) → IsTouchingFrom low runs
    → AllEndBelow n runs → odd_past (map edge_of (events_of input runs)) rank ≡ members runs rank
odd-members n low input [] rank touching below = refl
odd-members n low input (run ∷ runs) rank touching below =
    let edge = run.last + 1 in
    let later = All-tail (λ (each : Interval). each.last < n) run runs below in
    let others = odd_past (map edge_of (events_of input runs)) rank in
    let ordered = touching.in_order in
    let same : record { first = run.first; last = edge - 1 } ≡ run =
    λ i. record { first = run.first; last = minus-one run.last i } in
    sym (between-edges run.first edge rank others (omega (arith, ordered))
    (λ under. odd-before n edge (events_of input runs) rank
    (edges-events n edge input runs touching.rest later) under))
    ∙ ap (λ each. covers each rank || others) same
    ∙ ap (λ test. covers run rank || test)
    (odd-members n edge input runs rank touching.rest later)
    ∙ sym (members-cons run runs rank)
  where
    -- Adding and subtracting 1 changes nothing.
    minus-one : (last : ℕ) → last + 1 - 1 ≡ last
    minus-one last = omega arith

-- For several lists, that number is odd exactly if an odd number of them covers the rank.
odd-lists : (n input : ℕ) (lists : List (List Interval)) (rank : ℕ) → All (IsTouchingIn n) lists
    → odd_past (map edge_of (events_from input lists)) rank ≡ odd_of (map members lists) rank
odd-lists n input [] rank all = refl
odd-lists n input (runs ∷ lists) rank all =
    let own = All-head (IsTouchingIn n) runs lists all in
    let mine = events_of input runs in
    let others = events_from (input + 1) lists in
    ap (λ edges. odd_past edges rank) (map-append edge_of mine others)
    ∙ odd-append (map edge_of mine) (map edge_of others) rank
    ∙ ap (λ test. exclusive_or test (odd_past (map edge_of others) rank))
    (odd-members n 0 input runs rank own.spaced own.within)
    ∙ ap (λ test. exclusive_or (members runs rank) test)
    (odd-lists n (input + 1) lists rank (All-tail (IsTouchingIn n) runs lists all))

-- The same holds for their events in order.
pub odd-events : (n : ℕ) (lists : List (List Interval)) (events : List Event) (rank : ℕ)
    → All (IsTouchingIn n) lists → AreEvents lists events
    → odd_past (map edge_of events) rank ≡ odd_of (map members lists) rank
odd-events n lists events rank all are =
    odd-permutation (all_events lists) events rank are.all ∙ odd-lists n 0 lists rank all

-- ---- the events of lists in a type

-- The events of a touching list lie in the type.
events-in : (n low input : ℕ) (runs : List Interval) → IsTouchingFrom low runs
    → AllEndBelow n runs → All (IsEventIn n) (events_of input runs)
events-in n low input [] touching below = All-nil (IsEventIn n)
events-in n low input (run ∷ runs) touching below =
    let inside = All-head (λ (each : Interval). each.last < n) run runs below in
    All-cons (IsEventIn n) (Start run input) (End run.last input ∷ events_of input runs)
    (touching.in_order, inside)
    (All-cons (IsEventIn n) (End run.last input) (events_of input runs) inside
    (events-in n (run.last + 1) input runs touching.rest
    (All-tail (λ (each : Interval). each.last < n) run runs below)))

-- So do the events of several lists.
lists-in : (n input : ℕ) (lists : List (List Interval)) → All (IsTouchingIn n) lists
    → All (IsEventIn n) (events_from input lists)
lists-in n input [] all = All-nil (IsEventIn n)
lists-in n input (runs ∷ lists) all =
    let own = All-head (IsTouchingIn n) runs lists all in
    All-append (IsEventIn n) (events_of input runs) (events_from (input + 1) lists)
    (events-in n 0 input runs own.spaced own.within)
    (lists-in n (input + 1) lists (All-tail (IsTouchingIn n) runs lists all))

-- If an event comes before another, its edge is not greater.
precedes-edge : (one other : Event) → Precedes one other → edge_of one ≤ edge_of other
precedes-edge (Start run input) (Start next place) before = grind (arith, nat_tests)
precedes-edge (Start run input) (End last place) before = grind (arith, nat_tests)
precedes-edge (End last input) (Start next place) before = grind (arith, nat_tests)
precedes-edge (End last input) (End next place) before = grind (arith, nat_tests)

-- If events ascend, their edges never fall.
ascending-edges : (n low : ℕ) (events : List Event) → All (λ event. low ≤ edge_of event) events
    → All (IsEventIn n) events → AllPairs Precedes events → HasEdgesFrom n low events
ascending-edges n low [] past all pairs = tt
ascending-edges n low (event ∷ events) past all pairs = (
  All-head (λ each. low ≤ edge_of each) event events past,
  All-head (IsEventIn n) event events all,
  ascending-edges n (edge_of event) events
      (All-weaker (Precedes event) (λ each. edge_of event ≤ edge_of each) (precedes-edge event)
      events (AllPairs-head Precedes event events pairs))
      (All-tail (IsEventIn n) event events all) (AllPairs-tail Precedes event events pairs),
)

-- No edge lies before rank 0.
edges-any : (events : List Event) → All (λ event. 0 ≤ edge_of event) events
edges-any [] = All-nil (λ event. 0 ≤ edge_of event)
edges-any (event ∷ events) =
    All-cons (λ each. 0 ≤ edge_of each) event events (omega arith) (edges-any events)

-- So the edges of the events of touching lists never fall.
pub lists-edges : (n : ℕ) (lists : List (List Interval)) (events : List Event)
    → All (IsTouchingIn n) lists → AreEvents lists events → HasEdgesFrom n 0 events
lists-edges n lists events all are = ascending-edges n 0 events (edges-any events)
    (All-permutation (IsEventIn n) (all_events lists) events are.all (lists-in n 0 lists all))
    are.ascending
