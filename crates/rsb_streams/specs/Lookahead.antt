-- How far a stream is ahead of what it has returned: what it drew from its inputs, what it used of
-- that, and what it holds.
use Rattle.std.proofs.Common.{◌≡◌, ◌⊎◌, inl, inr, refl, ℕ, ◌+◌, ◌≤◌, List, [], ◌∷◌, ◌++◌, length}
use Rattle.std.specs.Prelude.{Option, MatchOption}
use Rattle.std.specs.declared.ops.RangeInclusive.{RangeInclusive}
use Rattle.rsb_integer.specs.Rank.{interval_of}
use Rattle.rsb_integer.specs.Runs.{Interval}
use Rattle.rsb_streams.specs.Stream.{◌⊆◌, just, Outcomes}

-- ---- an input

-- An input of a stream: the ranges drawn from it and not yet used, and what it may still give.
pub record Input : Type 1 where
  pub held : List Interval
  pub undrawn : Outcomes

-- Whether the ranges were drawn from an input: before the draws, they might have come, followed by
-- what the input may still give.
abbrev pub Drew : Outcomes → List Interval → Outcomes → Type 0
Drew before drawn now = (rest : List Interval) → now rest → before (drawn ++ rest)

-- Whether a call used the ranges of an input: what was held before, followed by what was drawn, is
-- what was used, followed by what is held now.
pub record Uses (before : Input) (used : List Interval) (now : Input) : Type 0 where
  pub drawn : List Interval
  pub drew : Drew before.undrawn drawn now.undrawn
  pub in_order : before.held ++ drawn ≡ used ++ now.held

-- A stream from which nothing has been drawn, as an input.
abbrev pub undrawn_input : Outcomes → Input
undrawn_input may_give = record { held = []; undrawn = may_give }

-- Whether nothing has been drawn yet from a stream that is an input.
pub record IsUndrawn (may_give : Outcomes) (input : Input) : Type 0 where
  pub held : input.held ≡ []
  pub gives : input.undrawn ⊆ may_give

-- Whether nothing of an input is held, and nothing more comes from it.
abbrev pub HasEnded : Input → Type 0
HasEnded = IsUndrawn (just [])

-- Whether an input ends: nothing of it was held before the call, and it gave nothing more.
pub record Ends (before now : Input) : Type 0 where
  pub uses : Uses before [] (undrawn_input (just []))
  pub over : HasEnded now

-- An input with the given ranges held before the others.
abbrev pub with_held_ranges : List Interval → Input → Input
with_held_ranges runs input = record { held = runs ++ input.held; undrawn = input.undrawn }

-- ---- a returned range, and what is ahead of it

-- Whether all of the intervals lie within `answer`.
abbrev pub AreWithin : Interval → List Interval → Type 0
AreWithin answer [] = Unit {0}
AreWithin answer (run ∷ runs) = (answer.first ≤ run.first) × (run.last ≤ answer.last)
    × AreWithin answer runs

-- Whether there is at most one interval, and it starts at the rank or later.
abbrev pub IsOneFrom : ℕ → List Interval → Type 0
IsOneFrom first [] = Unit {0}
IsOneFrom first (run ∷ []) = first ≤ run.first
IsOneFrom first (run ∷ other ∷ runs) = ⊥

-- Whether a call uses only ranges of an input that lie within the returned range. At most one range
-- is held after the call. It starts past the end of the returned one, with a gap between.
pub record LooksAhead (answer : Interval) (before now : Input) : Type 0 where
  pub used : List Interval
  pub uses : Uses before used now
  pub within : AreWithin answer used
  pub ahead : IsOneFrom (answer.last + 2) now.held

-- Whether the ranges that a call drew from a stream outnumber those that lie within the returned
-- range by at most one.
pub record DrawsFew (answer : Interval) (before now : Outcomes) : Type 0 where
  pub drawn : List Interval
  pub inside : List Interval
  pub drew : Drew before drawn now
  pub within : AreWithin answer inside
  pub few : length drawn ≤ length inside + 1

-- ---- inputs at places

-- A test of whether any two places are the same, with a proof of its answer.
abbrev pub Sameness : Type 0 → Type 0
Sameness Place = (one other : Place) → (one ≡ other) ⊎ (¬ (one ≡ other))

-- The runs if two places are the same, and none otherwise.
abbrev pub if_same : {Same Other : Type 0} → Same ⊎ Other → List Interval → List Interval
if_same (inl same) runs = runs
if_same (inr other) runs = []

-- The places of two inputs.
pub data Side : Type 0 where
  Left : Side
  Right : Side

-- What each of two streams may give.
abbrev pub at_side : Outcomes → Outcomes → Side → Outcomes
at_side left right Left = left
at_side left right Right = right

-- The left side is not the right one.
pub left-not_right : ¬ (Left ≡ Right)
left-not_right same = absurd (cc)

-- The right side is not the left one.
pub right-not_left : ¬ (Right ≡ Left)
right-not_left same = absurd (cc)

-- A test of whether two sides are the same, with a proof of its answer.
abbrev pub same_side : Sameness Side
same_side Left Left = inl refl
same_side Right Right = inl refl
same_side Left Right = inr left-not_right
same_side Right Left = inr right-not_left

-- Whether nothing has been drawn yet from the streams that are the inputs.
abbrev pub AreUndrawn : {Place : Type 0} → (Place → Outcomes) → (Place → Input) → Type 0
AreUndrawn {Place} may_give inputs = (place : Place) → IsUndrawn (may_give place) (inputs place)

-- ---- calls

-- Whether a call uses one range of an input and returns it, and holds none of that input
-- afterwards.
pub record GivesFrom (before : Input) (run : Interval) (now : Input) : Type 0 where
  pub uses : Uses before (run ∷ []) now
  pub room : now.held ≡ []

-- Whether a call uses nothing of an input. At most one range of it is held afterwards, and that
-- range starts no earlier than the returned one.
pub record Spares (before : Input) (run : Interval) (now : Input) : Type 0 where
  pub uses : Uses before [] now
  pub later : IsOneFrom run.first now.held

-- Whether a call returns a range of the input at one place, and uses nothing of the others, as
-- `Spares` states.
pub record TakesOne {Place : Type 0} (before : Place → Input) (run : Interval)
    (now : Place → Input) : Type 0 where
  pub place : Place
  pub here : GivesFrom (before place) run (now place)
  pub elsewhere : (other : Place) → ¬ (other ≡ place) → Spares (before other) run (now other)

-- Whether a draw takes one range of one input, or returns `None` and all inputs end.
abbrev pub AsksOne : {Place S T : Type 0} → (T → ℕ) → (S → Place → Input)
    → S → Option (RangeInclusive T) → S → Type 0
AsksOne {Place} rank inputs s item t = MatchOption item
    ((place : Place) → Ends (inputs s place) (inputs t place))
    (λ range. TakesOne (inputs s) (interval_of rank range) (inputs t))

-- Whether a call looks at most one range ahead in each of the inputs.
abbrev pub LooksAheadOfAll : {Place : Type 0} → Interval → (Place → Input) → (Place → Input)
    → Type 0
LooksAheadOfAll {Place} answer before now =
    (place : Place) → LooksAhead answer (before place) (now place)
