-- The values in at least a given number of streams.
use Rattle.std.specs.Prelude.{ℕ, ◌≤◌, List, length, map, sum_by}
use Rattle.rsb_integer.specs.Runs.{Interval, members, AreRuns}
use Rattle.rsb_integer.specs.Selection.{at_least}
use Rattle.rsb_integer.specs.declared.integer.Integer.{Ghosts as Elements}
use Rattle.rsb_streams.specs.Rows.{stream_through}
use Rattle.rsb_streams.specs.Stream.{◌⊆◌, IsReadyAnd, Outcomes}
use Rattle.rsb_streams.specs.declared.draw.Draw.{Ghosts as Stream}
use Rattle.rsb_many.specs.JoinedPieces.{joined_pieces}
use Rattle.rsb_many.specs.Many.{may_give_at, SomeOfEach}
use Rattle.rsb_many.specs.MultiwayResults.{GivesByAll}
use Rattle.rsb_many.specs.declared.multiway_at_least.MultiwayAtLeast.{MultiwayAtLeast}

-- Whether what may come is only runs of what lies in at least `least` of the lists of the streams,
-- and at most as many as these lists have together. No proof search unfolds this definition.
unfoldable pub GivesRunsOfAllAtMost : {S : Type 0} → ℕ → ℕ → (S → Outcomes) → List S → Outcomes
    → Type 0
GivesRunsOfAllAtMost least n may_give streams given = given ⊆ (λ runs.
    SomeOfEach (length streams) (may_give_at may_give streams) (λ lists.
    AreRuns n (at_least least (map members lists)) runs
    × (length runs ≤ sum_by (λ (each : List Interval). length each) lists)))

module _ {T N I A : Type 0} (integer : Elements T N) (stream : Stream I T N) where
  -- The values in at least a given number of streams, as a stream: the joined pieces of a sweep. A
  -- draw passes some events.
  abbrev pub multiway_at_least : Stream (MultiwayAtLeast T I A N) T N
  multiway_at_least = stream_through (λ s. s.iter) (joined_pieces integer stream)

  -- Whether `result` is ready and gives only runs of what lies in at least `least` of the streams.
  abbrev pub MakesMultiwayAtLeast : ℕ → Stream (MultiwayAtLeast T I A N) T N → List I
      → MultiwayAtLeast T I A N → Type 0
  MakesMultiwayAtLeast least row streams result = IsReadyAnd row.can_draw result
      (GivesByAll (at_least least) integer.value_count stream.may_give streams
      (row.may_give result))
