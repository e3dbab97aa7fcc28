-- What a rule selects by the number of streams that have a value. The pieces that it selects begin
-- and end at events where the depth crosses a bound. The depth is how many ranges have started and
-- not ended.
use Rattle.std.specs.Prelude.{◌≡◌, ℕ, ◌+◌, ◌-◌, ◌^◌, ◌<◌, ◌≤◌, Bool, true, cond, nat_eq, List, [], ◌∷◌, sum_by}
use Rattle.rsb_integer.specs.Selection.{Selection, at_least, odd_of}
use Rattle.rsb_many.specs.Sweep.{End, Event, Start}
use Rattle.rsb_many.specs.declared.sweep_pieces.Rule.{Rule}
use Rattle.rsb_many.specs.declared.sweep_pieces.Rule.TheVariants.{AtLeast, Odd}

-- The ranks in an odd number of the sets, or in at least a given number of them.
abbrev pub selected_by : Rule → List Selection → Selection
selected_by Odd sets = odd_of sets
selected_by (AtLeast least) sets = at_least least sets

-- ---- the depth

-- 1 for the start of a range, 0 for an end.
abbrev pub start_count : Event → ℕ
start_count (Start range input) = 1
start_count (End last input) = 0

-- 1 for the end of a range, 0 for a start.
abbrev pub end_count : Event → ℕ
end_count (Start range input) = 0
end_count (End last input) = 1

-- Whether the events end `depth` more ranges than they start.
abbrev pub IsDepth : ℕ → List Event → Type 0
IsDepth depth events = depth + sum_by start_count events ≡ sum_by end_count events

-- The depth after an event: one more after a start, one less after an end.
abbrev pub depth_after : ℕ → Event → ℕ
depth_after depth (Start range input) = depth + 1
depth_after depth (End last input) = depth - 1

-- The greater of the depths before and after an event.
abbrev pub deepest : ℕ → Event → ℕ
deepest depth (Start range input) = depth + 1
deepest depth (End last input) = depth

-- Whether an event can be counted. The depth stays below 2 ^ 64, and a range ends only if it has
-- started.
abbrev pub CanPass : ℕ → Event → Type 0
CanPass depth (Start range input) = depth + 1 < 2 ^ 64
CanPass depth (End last input) = 1 ≤ depth

-- ---- where pieces begin and end

-- Whether a piece begins or ends at an event, by the greater of the depths before and after it: at
-- each event, or where the depth reaches the least number of a rule, or falls below it.
abbrev pub turns_at : Rule → ℕ → Bool
turns_at Odd depth = true
turns_at (AtLeast least) depth = nat_eq least depth

-- Whether a piece begins or ends at an event.
abbrev pub crosses : Rule → ℕ → Event → Bool
crosses rule depth event = turns_at rule (deepest depth event)

-- The events where the depth reaches `least` or falls below it. Past an end, `least` goes up by one
-- instead of the depth going down.
abbrev pub deep_crossing : ℕ → ℕ → List Event → List Event
deep_crossing least depth [] = []
deep_crossing least depth (Start range input ∷ events) = cond (nat_eq least (depth + 1))
    (Start range input ∷ deep_crossing least (depth + 1) events)
    (deep_crossing least (depth + 1) events)
deep_crossing least depth (End last input ∷ events) = cond (nat_eq least depth)
    (End last input ∷ deep_crossing (least + 1) depth events)
    (deep_crossing (least + 1) depth events)

-- The events where a piece begins or ends.
abbrev pub crossing_events : Rule → ℕ → List Event → List Event
crossing_events Odd depth events = events
crossing_events (AtLeast least) depth events = deep_crossing least depth events

-- The edge of a piece that begins before all events: rank 0 if the rule selects what is in no set,
-- and otherwise none.
abbrev pub first_edge : Rule → List ℕ
first_edge Odd = []
first_edge (AtLeast least) = cond (nat_eq least 0) (0 ∷ []) []
