-- The list of pieces of a function, made rank by rank. It is what a map feeds to a hasher.
use Rattle.std.specs.Prelude.{◌≡◌, ℕ, zero, suc, Bool, cond, ◌&&◌, ◌==◌, ◌++◌, List, [], ◌∷◌, Option, Some, None}
use Rattle.std.specs.Option.{option_map}
use Rattle.std.specs.Hash as fed
use Rattle.rsb_integer.specs.Runs.{Interval, from_to}
use Rattle.range_map_blaze.specs.Map.{value_at}

module _ {V : Type 0} where
  -- Whether each value of the function is what contracts see of it.
  abbrev pub IsSettled : (V → V) → (ℕ → Option V) → Type 0
  IsSettled seen value = (rank : ℕ) → option_map seen (value rank) ≡ value rank

  -- The pieces with one more rank before them, which has this value, if any. It joins the first piece
  -- if that starts right past the rank and has an equal value.
  abbrev pub with_rank : (V → V → Bool) → ℕ → Option V → List (Interval × V) → List (Interval × V)
  with_rank eq rank None pieces = pieces
  with_rank eq rank (Some value) [] = (from_to rank rank, value) ∷ []
  with_rank eq rank (Some value) (piece ∷ pieces) =
      cond ((suc rank == piece.0.first) && eq value piece.1)
      ((from_to rank piece.0.last, value) ∷ pieces)
      ((from_to rank rank, value) ∷ piece ∷ pieces)

  -- The pieces of a function at the given number of ranks from `low` on. This is not an abbreviation,
  -- since that number may be 2 ^ 128.
  unfoldable pub pieces_made : (V → V → Bool) → ℕ → ℕ → (ℕ → Option V) → List (Interval × V)
  pieces_made eq low zero value = []
  pieces_made eq low (suc more) value =
      with_rank eq low (value low) (pieces_made eq (suc low) more value)

  -- What is seen of the values of a function.
  abbrev pub all_seen : (V → V) → (ℕ → Option V) → ℕ → Option V
  all_seen seen value rank = option_map seen (value rank)

  -- What a piece feeds to a hasher: its first and its last key, and its value.
  abbrev pub fed_piece : (ℕ → fed.HashWrites) → (V → fed.HashWrites) → Interval × V → fed.HashWrites
  fed_piece key value piece = key piece.0.first ++ (key piece.0.last ++ value piece.1)

  -- What a map in a type of n values feeds to a hasher: the number of its pieces, and each of them.
  abbrev pub hashed_map : ℕ → (V → V → Bool) → (V → V) → (ℕ → fed.HashWrites)
      → (V → fed.HashWrites) → List (Interval × V) → fed.HashWrites
  hashed_map n eq seen key value pieces =
      fed.slice (fed_piece key value) (pieces_made eq 0 n (all_seen seen (value_at pieces)))
