-- The part of a map from a rank on, and runs that lie past all pieces.
use Rattle.std.specs.Prelude.{◌≡◌, ℕ, zero, suc, ◌≤◌, List, []}
use Rattle.rsb_integer.specs.Runs.{Interval}
use Rattle.range_map_blaze.specs.Map.{IsJoinedStart}
use Rattle.range_map_blaze.specs.Parts.{after, before}
use Rattle.range_map_blaze.specs.Storage.{pieces_below, pieces_past}

module _ {V : Type 0} where
  -- The parts of the pieces at or past a rank.
  abbrev pub from_rank : ℕ → List (Interval × V) → List (Interval × V)
  from_rank zero pieces = pieces
  from_rank (suc rank) pieces = after rank pieces

  -- Whether all pieces end below `start`. A run with the value that starts there, joined with the last
  -- piece if that ends right below and has the value, must start at `joined`.
  pub record IsStartPast (pieces : List (Interval × V)) (start : ℕ) (value : V) (joined : ℕ) : Type 0
    where
      pub joins : IsJoinedStart pieces start value joined
      pub below : pieces_below joined pieces ≡ before joined pieces
      pub none_past : pieces_past joined pieces ≡ []
      pub none_after : (rank : ℕ) → start ≤ rank → after rank pieces ≡ []
