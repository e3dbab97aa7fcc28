-- A rank lies in at least a given number of lists exactly if the number of crossing edges at or
-- before it is odd.
use Rattle.std.proofs.Common.{◌≡◌, ℕ, zero, suc, ◌+◌, ◌-◌, ◌<◌, ◌≤◌, Bool, true, false, not, cond, ◌&&◌, ◌||◌, nat_eq, nat_le, List, [], ◌∷◌, ◌++◌, map, refl, sym, ap, ◌∙◌, inl, inr, arith, All, sum_by}
use Rattle.std.proofs.lemmas.Bool.{cases_lt}
use Rattle.std.proofs.lemmas.Bool.Decides.{nat_tests}
use Rattle.std.proofs.lemmas.List.Elements.{All-head, All-tail}
use Rattle.std.proofs.lemmas.List.Sorted.{sum_by-IsPermutation}
use Rattle.std.proofs.lemmas.List.Sums.{sum_by-append, sum_by-cons}
use Rattle.rsb_integer.specs.Runs.{Interval, members, AllEndBelow}
use Rattle.rsb_integer.specs.Selection.{at_least, exclusive_or, how_many}
use Rattle.rsb_integer.proofs.lemmas.List.{true_or_false}
use Rattle.rsb_integer.proofs.lemmas.Members.{members-cons}
use Rattle.rsb_many.specs.Rule.{deep_crossing, deepest, depth_after, first_edge, CanPass}
use Rattle.rsb_many.specs.Sweep.{all_events, events_from, events_of, AreEvents, End, Event, Start}
use Rattle.rsb_many.specs.declared.sweep_pieces.Rule.TheVariants.{AtLeast}
use Rattle.rsb_streams.specs.Touching.{IsTouchingFrom, IsTouchingIn}
use Rattle.rsb_many.specs.SweepPieces.{edge_of, odd_past, HasEdgesFrom}
use Rattle.rsb_many.proofs.lemmas.events.Edges.{edges-lower, odd-before}
use Rattle.rsb_many.proofs.lemmas.events.Odd.{edges-events, odd-members}

-- ---- the events that cross

-- Adding one to both sides does not change whether they are equal.
both-more : (one other : ℕ) → nat_eq (one + 1) (other + 1) ≡ nat_eq one other
both-more one other = grind (arith, nat_tests)

-- If one more range has started and the bound is one higher, the depth crosses it at the same
-- events.
crossing-shift : (least depth : ℕ) (events : List Event)
    → deep_crossing (least + 1) (depth + 1) events ≡ deep_crossing least depth events
crossing-shift least depth [] = refl
crossing-shift least depth (Start range input ∷ events) =
    let rest = crossing-shift least (depth + 1) events in
    let test = both-more least (depth + 1) in
    λ i. cond (test i) (Start range input ∷ rest i) (rest i)
crossing-shift least depth (End last input ∷ events) =
    let rest = crossing-shift (least + 1) depth events in
    let test = both-more least depth in
    λ i. cond (test i) (End last input ∷ rest i) (rest i)

-- So lowering the depth by one has the same effect as raising the bound by one.
crossing-end : (least depth : ℕ) (events : List Event) → 1 ≤ depth
    → deep_crossing (least + 1) depth events ≡ deep_crossing least (depth - 1) events
crossing-end least zero events some = absurd (omega (arith, some))
crossing-end least (suc depth) events some =
    let same : suc depth ≡ depth + 1 = omega arith in
    let less : depth ≡ suc depth - 1 = omega arith in
    ap (λ each. deep_crossing (least + 1) each events) same
    ∙ crossing-shift least depth events
    ∙ ap (λ each. deep_crossing least each events) less

-- The first event crosses the bound or does not, and the others continue from the depth after it.
pub deep-next : (least depth : ℕ) (event : Event) (events : List Event) → CanPass depth event
    → deep_crossing least depth (event ∷ events)
    ≡ cond (nat_eq least (deepest depth event))
    (event ∷ deep_crossing least (depth_after depth event) events)
    (deep_crossing least (depth_after depth event) events)
deep-next least depth (Start range input) events can = refl
deep-next least depth (End last input) events can =
    let rest = crossing-end least depth events can in
    λ i. cond (nat_eq least depth) (End last input ∷ rest i) (rest i)

-- The edges of the crossing events never fall.
pub deep-edges : (n low least depth : ℕ) (events : List Event) → HasEdgesFrom n low events
    → HasEdgesFrom n low (deep_crossing least depth events)
deep-edges n low least depth [] edges = tt
deep-edges n low least depth (Start range input ∷ events) edges =
    let rest = deep-edges n range.first least (depth + 1) events edges.2 in
    elim (true_or_false (nat_eq least (depth + 1))) [
      | inl edge ↦ rw edge (edges.0, edges.1, rest)
      | inr passes ↦ rw passes (edges-lower n range.first low
          (deep_crossing least (depth + 1) events) edges.0 rest)
    ]
deep-edges n low least depth (End last input ∷ events) edges =
    let rest = deep-edges n (last + 1) (least + 1) depth events edges.2 in
    elim (true_or_false (nat_eq least depth)) [
      | inl edge ↦ rw edge (edges.0, edges.1, rest)
      | inr passes ↦ rw passes (edges-lower n (last + 1) low
          (deep_crossing (least + 1) depth events) edges.0 rest)
    ]

-- ---- starts and ends up to a rank

-- 1 for the start of a range at or before the rank, and otherwise 0.
abbrev start_by : ℕ → Event → ℕ
start_by rank (Start range input) = cond (nat_le range.first rank) 1 0
start_by rank (End last input) = 0

-- 1 for the end of a range before the rank, and otherwise 0.
abbrev end_by : ℕ → Event → ℕ
end_by rank (Start range input) = 0
end_by rank (End last input) = cond (nat_le (last + 1) rank) 1 0

-- How many ranges start at or before the rank.
abbrev starts_by : ℕ → List Event → ℕ
starts_by rank events = sum_by (start_by rank) events

-- How many ranges end before the rank.
abbrev ends_by : ℕ → List Event → ℕ
ends_by rank events = sum_by (end_by rank) events

-- An event with its edge past the rank counts neither as a start nor as an end.
none-by : (event : Event) (rank : ℕ) → rank < edge_of event
    → (start_by rank event ≡ 0) × (end_by rank event ≡ 0)
none-by (Start range input) rank under =
    let test : nat_le range.first rank ≡ false = grind (arith, nat_tests) in
    (rw test refl, refl)
none-by (End last input) rank under =
    let test : nat_le (last + 1) rank ≡ false = grind (arith, nat_tests) in
    (refl, rw test refl)

-- If no edge lies below `low`, no event counts at a rank below it.
none-before : (n low : ℕ) (events : List Event) (rank : ℕ) → HasEdgesFrom n low events
    → rank < low → (starts_by rank events ≡ 0) × (ends_by rank events ≡ 0)
none-before n low [] rank edges under = (refl, refl)
none-before n low (event ∷ events) rank edges under =
    let past = edges.0 in
    let own = none-by event rank (omega (arith, past, under)) in
    let others = none-before n (edge_of event) events rank edges.2 (omega (arith, past, under)) in
    let start = own.0 in
    let end = own.1 in
    let starts = others.0 in
    let ends = others.1 in
    let more_starts = sum_by-cons (start_by rank) event events in
    let more_ends = sum_by-cons (end_by rank) event events in
    (omega arith, omega arith)

-- ---- the test `least ≤ depth`, and the number of crossing edges

-- A start at or before the rank that reaches the bound reverses the test `least ≤ depth`.
turned-start : (least depth : ℕ) (here others later : Bool) → here ≡ true
    → nat_eq least (depth + 1) ≡ true
    → exclusive_or (nat_le least (depth + 1)) others ≡ later
    → exclusive_or (nat_le least depth) (exclusive_or here others) ≡ later
turned-start least depth here others later passed is rest =
    let before : nat_le least depth ≡ false = grind (arith, nat_tests) in
    let now : nat_le least (depth + 1) ≡ true = grind (arith, nat_tests) in
    rw (before, passed) (rw now at rest)

-- So does an end before the rank that falls below the bound.
turned-end : (least depth : ℕ) (here others later : Bool) → here ≡ true
    → nat_eq least depth ≡ true
    → exclusive_or (nat_le (least + 1) depth) others ≡ later
    → exclusive_or (nat_le least depth) (exclusive_or here others) ≡ later
turned-end least depth here others later passed is rest =
    let before : nat_le least depth ≡ true = grind (arith, nat_tests) in
    let now : nat_le (least + 1) depth ≡ false = grind (arith, nat_tests) in
    rw (before, passed) (not-twice others ∙ (rw now at rest))
  where
    -- A test that is negated twice is unchanged.
    not-twice : (test : Bool) → not (not test) ≡ test
    not-twice true = refl
    not-twice false = refl

-- “Exclusive or” with false changes nothing.
xor-false : (test : Bool) → exclusive_or test false ≡ test
xor-false true = refl
xor-false false = refl

-- Adding 0 changes nothing.
more-none : (count more : ℕ) → more ≡ 0 → count ≡ count + more
more-none count more none = omega (arith, none)

-- Whether the number of crossing edges up to the rank is odd exactly if the test `least ≤ depth`
-- changes up to there.
abbrev IsCrossed : ℕ → ℕ → ℕ → List Event → Type 0
IsCrossed rank least depth events =
    exclusive_or (nat_le least depth)
    (odd_past (map edge_of (deep_crossing least depth events)) rank)
    ≡ nat_le (least + ends_by rank events) (depth + starts_by rank events)

-- This holds at a rank before all edges.
crossed-before : (n least depth : ℕ) (event : Event) (events : List Event) (rank : ℕ)
    → HasEdgesFrom n (edge_of event) (event ∷ events) → rank < edge_of event
    → IsCrossed rank least depth (event ∷ events)
crossed-before n least depth event events rank edges under =
    let none = none-before n (edge_of event) (event ∷ events) rank edges under in
    let odd = odd-before n (edge_of event) (deep_crossing least depth (event ∷ events)) rank
    (deep-edges n (edge_of event) least depth (event ∷ events) edges) under in
    ap (λ test. exclusive_or (nat_le least depth) test) odd
    ∙ (xor-false (nat_le least depth)
    ∙ (λ i. nat_le (more-none least (ends_by rank (event ∷ events)) none.1 i)
    (more-none depth (starts_by rank (event ∷ events)) none.0 i)))

-- It holds past a start if it holds for the later events.
crossed-start : (least depth : ℕ) (range : Interval) (input : ℕ) (events : List Event) (rank : ℕ)
    → range.first ≤ rank → IsCrossed rank least (depth + 1) events
    → IsCrossed rank least depth (Start range input ∷ events)
crossed-start least depth range input events rank past after =
    let others = odd_past (map edge_of (deep_crossing least (depth + 1) events)) rank in
    let test : nat_le range.first rank ≡ true = grind (arith, nat_tests) in
    let one : start_by rank (Start range input) ≡ 1 = rw test refl in
    let starts = sum_by-cons (start_by rank) (Start range input) events in
    let ends = sum_by-cons (end_by rank) (Start range input) events in
    let left : least + ends_by rank events ≡ least + ends_by rank (Start range input ∷ events) =
    omega arith in
    let right : depth + 1 + starts_by rank events
    ≡ depth + starts_by rank (Start range input ∷ events) = omega arith in
    let rest = after ∙ (λ i. nat_le (left i) (right i)) in
    elim (true_or_false (nat_eq least (depth + 1))) [
      | inl edge ↦ rw edge (turned-start least depth (nat_le range.first rank) others
          (nat_le (least + ends_by rank (Start range input ∷ events))
          (depth + starts_by rank (Start range input ∷ events))) test edge rest)
      | inr passes ↦
          let same : nat_le least depth ≡ nat_le least (depth + 1) = grind (arith, nat_tests) in
          rw passes (ap (λ each. exclusive_or each others) same ∙ rest)
    ]

-- It holds past an end if it holds for the later events.
crossed-end : (least depth last input : ℕ) (events : List Event) (rank : ℕ) → last + 1 ≤ rank
    → IsCrossed rank (least + 1) depth events
    → IsCrossed rank least depth (End last input ∷ events)
crossed-end least depth last input events rank past after =
    let others = odd_past (map edge_of (deep_crossing (least + 1) depth events)) rank in
    let test : nat_le (last + 1) rank ≡ true = grind (arith, nat_tests) in
    let one : end_by rank (End last input) ≡ 1 = rw test refl in
    let starts = sum_by-cons (start_by rank) (End last input) events in
    let ends = sum_by-cons (end_by rank) (End last input) events in
    let left : least + 1 + ends_by rank events ≡ least + ends_by rank (End last input ∷ events) =
    omega arith in
    let right : depth + starts_by rank events
    ≡ depth + starts_by rank (End last input ∷ events) = omega arith in
    let rest = after ∙ (λ i. nat_le (left i) (right i)) in
    elim (true_or_false (nat_eq least depth)) [
      | inl edge ↦ rw edge (turned-end least depth (nat_le (last + 1) rank) others
          (nat_le (least + ends_by rank (End last input ∷ events))
          (depth + starts_by rank (End last input ∷ events))) test edge rest)
      | inr passes ↦
          let same : nat_le least depth ≡ nat_le (least + 1) depth = grind (arith, nat_tests) in
          rw passes (ap (λ each. exclusive_or each others) same ∙ rest)
    ]

-- It holds at every rank if the edges never fall.
crossing-deep : (n low least depth : ℕ) (events : List Event) (rank : ℕ)
    → HasEdgesFrom n low events → IsCrossed rank least depth events
crossing-deep n low least depth [] rank edges =
    xor-false (nat_le least depth)
    ∙ (λ i. nat_le (more-none least 0 refl i) (more-none depth 0 refl i))
crossing-deep n low least depth (Start range input ∷ events) rank edges =
    elim (cases_lt rank range.first) [
      | inl under ↦ crossed-before n least depth (Start range input) events rank
          (omega arith, edges.1, edges.2) under
      | inr past ↦ crossed-start least depth range input events rank past
          (crossing-deep n range.first least (depth + 1) events rank edges.2)
    ]
crossing-deep n low least depth (End last input ∷ events) rank edges =
    elim (cases_lt rank (last + 1)) [
      | inl under ↦ crossed-before n least depth (End last input) events rank
          (omega arith, edges.1, edges.2) under
      | inr past ↦ crossed-end least depth last input events rank past
          (crossing-deep n (last + 1) (least + 1) depth events rank edges.2)
    ]

-- ---- the events of lists

-- No range of a list covers a rank before all of them.
members-under : (n low : ℕ) (runs : List Interval) (rank : ℕ) → IsTouchingFrom low runs
    → AllEndBelow n runs → rank < low → members runs rank ≡ false
members-under n low runs rank touching below under =
    sym (odd-members n low 0 runs rank touching below)
    ∙ odd-before n low (events_of 0 runs) rank (edges-events n low 0 runs touching below) under

-- With one more range, its start and its end count too.
counts-more : (rank input : ℕ) (run : Interval) (runs : List Interval)
    → (starts_by rank (events_of input (run ∷ runs))
    ≡ start_by rank (Start run input) + starts_by rank (events_of input runs))
    × (ends_by rank (events_of input (run ∷ runs))
    ≡ end_by rank (End run.last input) + ends_by rank (events_of input runs))
counts-more rank input run runs =
    let first = Start run input in
    let last = End run.last input in
    let others = events_of input runs in
    let one = sum_by-cons (start_by rank) first (last ∷ others) in
    let two = sum_by-cons (start_by rank) last others in
    let three = sum_by-cons (end_by rank) first (last ∷ others) in
    let four = sum_by-cons (end_by rank) last others in
    (omega arith, omega arith)

-- Up to the end of the first range, the list covers a rank exactly if that range has started.
members-within : (n : ℕ) (run : Interval) (runs : List Interval) (rank : ℕ)
    → IsTouchingFrom (run.last + 1) runs → AllEndBelow n runs → rank < run.last + 1
    → members (run ∷ runs) rank ≡ nat_le run.first rank
members-within n run runs rank touching below within =
    let outside = members-under n (run.last + 1) runs rank touching below within in
    let under : nat_le rank run.last ≡ true = grind (arith, nat_tests) in
    members-cons run runs rank ∙ (rw (outside, under) (by_both (nat_le run.first rank)))
  where
    -- “And true” and “or false” change nothing.
    by_both : (test : Bool) → ((test && true) || false) ≡ test
    by_both true = refl
    by_both false = refl

-- Past it, only the other ranges matter.
members-past : (run : Interval) (runs : List Interval) (rank : ℕ) → run.last + 1 ≤ rank
    → members (run ∷ runs) rank ≡ members runs rank
members-past run runs rank past =
    let under : nat_le rank run.last ≡ false = grind (arith, nat_tests) in
    members-cons run runs rank ∙ (rw under (by_neither (nat_le run.first rank)))
  where
    -- “And false” is false.
    by_neither : (test : Bool) → ((test && false) || members runs rank) ≡ members runs rank
    by_neither true = refl
    by_neither false = refl

-- At a rank, one more range has started than ended if the list covers the rank. Otherwise the
-- numbers are equal.
deep-members : (n low input : ℕ) (runs : List Interval) (rank : ℕ) → IsTouchingFrom low runs
    → AllEndBelow n runs
    → starts_by rank (events_of input runs)
    ≡ ends_by rank (events_of input runs) + cond (members runs rank) 1 0
deep-members n low input [] rank touching below = refl
deep-members n low input (run ∷ runs) rank touching below =
    let later = All-tail (λ (each : Interval). each.last < n) run runs below in
    let ordered = touching.in_order in
    let counts = counts-more rank input run runs in
    let starts = counts.0 in
    let ends = counts.1 in
    elim (cases_lt rank (run.last + 1)) [
      | inl within ↦
          let none = none-before n (run.last + 1) (events_of input runs) rank
          (edges-events n (run.last + 1) input runs touching.rest later) within in
          let no_starts = none.0 in
          let no_ends = none.1 in
          let over : nat_le (run.last + 1) rank ≡ false = grind (arith, nat_tests) in
          let ongoing : end_by rank (End run.last input) ≡ 0 = rw over refl in
          let same : ◌≡◌ {A = ℕ} (cond (members (run ∷ runs) rank) 1 0)
          (start_by rank (Start run input)) = ap (λ test. cond test 1 0)
          (members-within n run runs rank touching.rest later within) in
          omega arith
      | inr past ↦
          let rest = deep-members n (run.last + 1) input runs rank touching.rest later in
          let over : nat_le (run.last + 1) rank ≡ true = grind (arith, nat_tests) in
          let from : nat_le run.first rank ≡ true = grind (arith, nat_tests) in
          let ended : end_by rank (End run.last input) ≡ 1 = rw over refl in
          let started : start_by rank (Start run input) ≡ 1 = rw from refl in
          let same : ◌≡◌ {A = ℕ} (cond (members (run ∷ runs) rank) 1 0)
          (cond (members runs rank) 1 0) = ap (λ test. cond test 1 0)
          (members-past run runs rank past) in
          omega arith
    ]

-- At a rank, as many more ranges of several lists have started than ended as there are lists that
-- cover it.
deep-lists : (n input : ℕ) (lists : List (List Interval)) (rank : ℕ) → All (IsTouchingIn n) lists
    → starts_by rank (events_from input lists)
    ≡ ends_by rank (events_from input lists) + how_many (map members lists) rank
deep-lists n input [] rank all = refl
deep-lists n input (runs ∷ lists) rank all =
    let own = All-head (IsTouchingIn n) runs lists all in
    let mine = events_of input runs in
    let others = events_from (input + 1) lists in
    let first = deep-members n 0 input runs rank own.spaced own.within in
    let rest = deep-lists n (input + 1) lists rank (All-tail (IsTouchingIn n) runs lists all) in
    let starts = sum_by-append (start_by rank) mine others in
    let ends = sum_by-append (end_by rank) mine others in
    omega arith

-- So the number of crossing edges at or before a rank is odd exactly if at least `least` lists
-- cover the rank. If `least` is 0, it is even instead.
pub deep-events : (n least : ℕ) (lists : List (List Interval)) (events : List Event) (rank : ℕ)
    → All (IsTouchingIn n) lists → AreEvents lists events → HasEdgesFrom n 0 events
    → exclusive_or (nat_le least 0) (odd_past (map edge_of (deep_crossing least 0 events)) rank)
    ≡ at_least least (map members lists) rank
deep-events n least lists events rank all are edges =
    let starts = sum_by-IsPermutation (start_by rank) (all_events lists) events are.all in
    let ends = sum_by-IsPermutation (end_by rank) (all_events lists) events are.all in
    let more = deep-lists n 0 lists rank all in
    crossing-deep n 0 least 0 events rank edges
    ∙ less-same least (ends_by rank events) (starts_by rank events)
    (how_many (map members lists) rank) (omega arith)
  where
    -- The same number on both sides cancels.
    less-same : (few ends starts many : ℕ) → starts ≡ ends + many
        → nat_le (few + ends) (0 + starts) ≡ nat_le few many
    less-same few ends starts many is = grind (arith, nat_tests)

-- If `least` is 0, a piece begins at the first rank.
pub first-odd : (least : ℕ) (edges : List ℕ) (rank : ℕ)
    → odd_past (first_edge (AtLeast least) ++ edges) rank
    ≡ exclusive_or (nat_le least 0) (odd_past edges rank)
first-odd least edges rank = elim (true_or_false (nat_eq least 0)) [
  | inl none ↦
      let few : nat_le least 0 ≡ true = grind (arith, nat_tests) in
      let from : nat_le 0 rank ≡ true = grind (arith, nat_tests) in
      rw (none, few, from) refl
  | inr some ↦
      let few : nat_le least 0 ≡ false = grind (arith, nat_tests) in
      rw (some, few) refl
]
