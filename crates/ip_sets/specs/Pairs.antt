-- Ranges that are given as pairs of their ends.
use Rattle.std.specs.Prelude.{◌≡◌, ℕ, ◌+◌, ◌<◌, ◌≤◌, Bool, MatchBool, List, map, max}
use Rattle.range_set_blaze.specs.Runs.{Interval, from_to}

-- The ranks from the first value of a pair to the second one.
abbrev pub span_of : {T : Type 0} → (T → ℕ) → T × T → Interval
span_of rank pair = from_to (rank pair.0) (rank pair.1)

-- The ranks from the first value of each pair to the second one.
abbrev pub spans_of : {T : Type 0} → (T → ℕ) → List (T × T) → List Interval
spans_of rank pairs = map (span_of rank) pairs

-- Whether the next pair starts within the last one or right after it, and the last one then ends
-- where the later of the two does.
pub record IsJoined {T : Type 0} (rank : T → ℕ) (next last joined : T × T) : Type 0 where
  pub reached : rank next.0 ≤ rank last.1 + 1
  pub start : joined.0 ≡ last.0
  pub end : rank joined.1 ≡ max (rank last.1) (rank next.1)

-- Whether the next pair is joined to the last one. Otherwise there is a gap between them, and the
-- last one stays.
abbrev pub MayJoin : {T : Type 0} → (T → ℕ) → T × T → T × T → Bool → T × T → Type 0
MayJoin rank next last is_joined left = MatchBool is_joined (IsJoined rank next last left)
    ((left ≡ last) × (rank last.1 + 1 < rank next.0))
