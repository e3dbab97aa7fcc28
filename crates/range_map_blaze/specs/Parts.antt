-- The parts of a map below a rank and past a rank, as lists of pieces.
use Rattle.std.specs.Prelude.{ℕ, cond, ◌+◌, ◌-◌, nat_lt, List, [], ◌∷◌}
use Rattle.rsb_integer.specs.Runs.{Interval, from_to}

module _ {V : Type 0} where
  -- The parts of the pieces below a rank.
  abbrev pub before : ℕ → List (Interval × V) → List (Interval × V)
  before rank [] = []
  before rank (piece ∷ pieces) = cond (nat_lt piece.0.last rank) (piece ∷ before rank pieces)
      (cond (nat_lt piece.0.first rank) ((from_to piece.0.first (rank - 1), piece.1) ∷ []) [])

  -- The parts of the pieces past a rank.
  abbrev pub after : ℕ → List (Interval × V) → List (Interval × V)
  after rank [] = []
  after rank (piece ∷ pieces) = cond (nat_lt rank piece.0.last)
      (cond (nat_lt rank piece.0.first) (piece ∷ pieces)
      ((from_to (rank + 1) piece.0.last, piece.1) ∷ pieces))
      (after rank pieces)
