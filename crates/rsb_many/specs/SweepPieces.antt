-- The pieces of what a rule selects from the inputs of a sweep.
use Rattle.std.specs.Prelude.{◌≡◌, ℕ, ◌+◌, ◌-◌, ◌<◌, ◌≤◌, Bool, false, cond, nat_eq, nat_le, nat_lt, List, [], ◌∷◌, ◌++◌, map, Option, Some, None, IfSome, MatchBool, MatchOption}
use Rattle.std.specs.Iterator.{Count, count_map, count_unless}
use Rattle.std.specs.Option.{option_len}
use Rattle.std.specs.declared.ops.RangeInclusive.{RangeInclusive}
use Rattle.rsb_integer.specs.Runs.{Interval}
use Rattle.rsb_integer.specs.Selection.{Selection, odd_of}
use Rattle.rsb_integer.specs.declared.integer.Integer.{Ghosts as Elements}
use Rattle.rsb_streams.specs.Lookahead.{undrawn_input, HasEnded, Input, Uses}
use Rattle.rsb_streams.specs.OddPieces.{ArePieces}
use Rattle.rsb_streams.specs.PutBack.{held_list}
use Rattle.rsb_streams.specs.Rows.{stream_asking}
use Rattle.rsb_streams.specs.Stream.{just, outcomes_unless, Outcomes}
use Rattle.rsb_streams.specs.UnionIter.{unless_ended}
use Rattle.rsb_streams.specs.declared.draw.Draw.{Ghosts as Stream}
use Rattle.rsb_many.specs.Many.{HoldOneAtMost}
use Rattle.rsb_many.specs.MultiwaySweep.{events_left, sweep_inputs, sweep_may_give, EventOutcomes, SweepReady}
use Rattle.rsb_many.specs.Rule.{crosses, crossing_events, depth_after, IsDepth}
use Rattle.rsb_many.specs.Sweep.{End, Event, Start}
use Rattle.rsb_many.specs.declared.sweep_pieces.Rule.{Rule}
use Rattle.rsb_many.specs.declared.sweep_pieces.SweepPieces.{SweepPieces}

-- ---- edges

-- The edge of an event: the rank where a range starts, or the rank past the end of a range.
abbrev pub edge_of : Event → ℕ
edge_of (Start range input) = range.first
edge_of (End last input) = last + 1

-- The ranks at or past an edge.
abbrev pub from_edge : ℕ → Selection
from_edge edge rank = nat_le edge rank

-- The ranks that have an odd number of the edges at or before them.
abbrev pub odd_past : List ℕ → Selection
odd_past edges = odd_of (map from_edge edges)

-- The start of a piece that has begun, as a list of edges.
abbrev pub edges_of : {T : Type 0} → (T → ℕ) → Option T → List ℕ
edges_of rank None = []
edges_of rank (Some start) = rank start ∷ []

-- The edge as a list, if it is a rank of a type of `n` values. Otherwise the list is empty.
abbrev pub edge_in : ℕ → ℕ → List ℕ
edge_in n edge = cond (nat_lt edge n) (edge ∷ []) []

-- The piece from one edge up to another, as a list. It is empty if there are no ranks between.
abbrev pub piece_up_to : ℕ → ℕ → List Interval
piece_up_to first edge =
    cond (nat_lt first edge) (record { first = first; last = edge - 1 } ∷ []) []

-- Whether an edge is passed. A piece that has begun ends before it. If none has begun, one begins
-- there.
abbrev pub PassesEdge : {T : Type 0} → (T → ℕ) → ℕ → ℕ → Option T → Option (RangeInclusive T)
    → Option T → Type 0
PassesEdge rank n edge old piece new = MatchOption old
    ((piece ≡ None) × (edges_of rank new ≡ edge_in n edge))
    (λ start. (held_list rank piece ≡ piece_up_to (rank start) edge) × (new ≡ None))

-- ---- lists of events

-- Whether an event lies in a type of `n` values. If a range starts, it must have members.
abbrev pub IsEventIn : ℕ → Event → Type 0
IsEventIn n (Start range input) = (range.first ≤ range.last) × (range.last < n)
IsEventIn n (End last input) = last < n

-- Whether the edges never fall, the first is at `low` or past it, and the events lie in a type of
-- `n` values.
abbrev pub HasEdgesFrom : ℕ → ℕ → List Event → Type 0
HasEdgesFrom n low [] = Unit {0}
HasEdgesFrom n low (event ∷ events) =
    (low ≤ edge_of event) × IsEventIn n event × HasEdgesFrom n (edge_of event) events

-- The rank before which no edge lies: the start of the piece that has begun, or 0 if none has.
abbrev pub low_of : {T : Type 0} → (T → ℕ) → Option T → ℕ
low_of rank None = 0
low_of rank (Some start) = rank start

-- Whether the fact holds of some list of events that may come. “Some” means “not none”.
abbrev pub SomeEvents : EventOutcomes → (List Event → Type 0) → Type 0
SomeEvents P Fact = ¬ ((events : List Event) → P events → ¬ (Fact events))

-- ---- inputs

-- The ranks where the events end ranges of the input at a place.
abbrev pub ends_at : ℕ → List Event → List ℕ
ends_at place [] = []
ends_at place (Start range input ∷ events) = ends_at place events
ends_at place (End last input ∷ events) =
    cond (nat_eq input place) (last ∷ ends_at place events) (ends_at place events)

-- Whether an input uses ranges that end at these ranks.
pub record UsesTo (lasts : List ℕ) (before now : Input) : Type 0 where
  pub used : List Interval
  pub uses : Uses before used now
  pub ends : map (λ (run : Interval). run.last) used ≡ lasts

-- The inputs of a sweep, and the events that may come from them.
pub record Telling : Type 1 where
  pub inputs : ℕ → Input
  pub events : EventOutcomes

-- The inputs and events once all is over: the inputs have ended, and no events come.
abbrev pub all_ended : Telling
all_ended = record { inputs = λ place. undrawn_input (just []); events = λ events. events ≡ [] }

-- Whether some events were passed, ahead of those that may still come. Each input used the ranges
-- whose ends were passed, and at most one range of each is held.
pub record PassesSome (before now : Telling) : Type 0 where
  pub passed : List Event
  pub come : (rest : List Event) → now.events rest → before.events (passed ++ rest)
  pub uses : (place : ℕ) → UsesTo (ends_at place passed) (before.inputs place) (now.inputs place)
  pub holds : HoldOneAtMost now.inputs

-- Whether all events were passed and the inputs have ended.
pub record PassesAll (before now : Telling) : Type 0 where
  pub passes : PassesSome before all_ended
  pub over : (place : ℕ) → HasEnded (now.inputs place)

-- Whether a call passes some events, or all that are left if it returns `None`.
abbrev pub AsksToPass : {T : Type 0} → Telling → Option (RangeInclusive T) → Telling → Type 0
AsksToPass before item now =
    MatchOption item (PassesAll before now) (λ _. PassesSome before now)

-- The given inputs and events. Once the stream is done, all inputs have ended and no event comes.
abbrev pub unless_all_ended : Bool → Telling → Telling
unless_all_ended done telling = record {
  inputs = λ place. unless_ended done (telling.inputs place);
  events = λ events. MatchBool done (events ≡ []) (telling.events events);
}

-- ---- the pieces

-- Whether passing an event counts it, and passes its edge exactly if a piece begins or ends there.
pub record PassesEvent {T : Type 0} (rank : T → ℕ) (n : ℕ) (rule : Rule) (before : ℕ)
    (event : Event) (old : Option T) (piece : Option (RangeInclusive T)) (after : ℕ)
    (new : Option T) : Type 0 where
  pub depth : after ≡ depth_after before event
  pub edge : MatchBool (crosses rule before event)
      (PassesEdge rank n (edge_of event) old piece new) ((piece ≡ None) × (new ≡ old))

module _ {T N I A : Type 0} (integer : Elements T N) (stream : Stream I T N) where
  open integer use {rank, value_count as n}

  -- The inputs of the sweep and the events that it may still give, if it has not ended.
  abbrev pub going_telling : SweepPieces T I A N → Telling
  going_telling s = record {
    inputs = sweep_inputs integer stream s.sweep;
    events = sweep_may_give integer stream s.sweep;
  }

  -- The same, or none once the sweep has ended.
  abbrev pub pieces_telling : SweepPieces T I A N → Telling
  pieces_telling s = unless_all_ended s.done (going_telling s)

  -- Whether the sweep is ready, a piece that has begun starts at a value, no edge to come lies
  -- before that, and every range that has started will end.
  pub record PiecesReady (s : SweepPieces T I A N) : Type 0 where
    pub sweep : SweepReady integer stream s.sweep
    pub start : IfSome s.start (λ value. rank value < n)
    pub edges : (events : List Event) → sweep_may_give integer stream s.sweep events
        → HasEdgesFrom n (low_of rank s.start) events
    pub deep : (events : List Event) → sweep_may_give integer stream s.sweep events
        → IsDepth s.depth events

  -- The pieces that may come if the sweep has not ended: those of the ranks that have an odd number
  -- of crossing edges at or before them.
  abbrev pub going_gives : SweepPieces T I A N → Outcomes
  going_gives s pieces = SomeEvents (sweep_may_give integer stream s.sweep)
      (λ events. ArePieces n (odd_past (edges_of rank s.start
      ++ map edge_of (crossing_events s.rule s.depth events))) pieces)

  -- The same, or none once the sweep has ended.
  abbrev pub pieces_may_give : SweepPieces T I A N → Outcomes
  pieces_may_give s = outcomes_unless s.done (going_gives s)

  -- The greatest number of pieces left: one for each event to come, and the one that has begun.
  abbrev pub pieces_left : SweepPieces T I A N → Count
  pieces_left s = count_unless s.done (count_map (λ left. left + option_len s.start)
      (events_left integer stream s.sweep))

  -- The stream of pieces. A draw passes some events.
  abbrev pub sweep_pieces : Stream (SweepPieces T I A N) T N
  sweep_pieces = stream_asking integer
      (λ s item t. AsksToPass (pieces_telling s) item (pieces_telling t))
      (λ s. s.done ≡ false → PiecesReady s) pieces_left pieces_may_give
