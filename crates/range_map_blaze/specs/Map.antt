-- Maps from ranks to values, and the lists of pieces that represent them. A piece is an interval of
-- ranks and the value that all of them have.
use Rattle.std.specs.Prelude.{map, ◌≡◌, ℕ, cond, ◌+◌, ◌-◌, ◌<◌, ◌≤◌, List, [], ◌∷◌, All, AllPairs, Contains, IsTrue, Option, Some, None}
use Rattle.std.specs.Option.{is_some}
use Rattle.rsb_integer.specs.Runs.{Interval, covers}
use Rattle.rsb_integer.specs.Selection.{Selection}

module _ {V : Type 0} where
  -- ---- functions from ranks to values

  -- The function that has no value.
  abbrev pub none_at : ℕ → Option V
  none_at rank = None

  -- Whether the new function has this value at the selected ranks, and elsewhere what the old one
  -- has.
  abbrev pub IsPut : (ℕ → Option V) → Selection → V → (ℕ → Option V) → Type 0
  IsPut old ranks value new = (rank : ℕ) → new rank ≡ cond (ranks rank) (Some value) (old rank)

  -- Whether the new function has no value at the selected ranks, and elsewhere what the old one
  -- has.
  abbrev pub IsWithout : (ℕ → Option V) → Selection → (ℕ → Option V) → Type 0
  IsWithout old ranks new = (rank : ℕ) → new rank ≡ cond (ranks rank) None (old rank)

  -- Whether the new function has at the selected ranks what the old one has, and no value
  -- elsewhere.
  abbrev pub IsWithin : (ℕ → Option V) → Selection → (ℕ → Option V) → Type 0
  IsWithin old ranks new = (rank : ℕ) → new rank ≡ cond (ranks rank) (old rank) None

  -- ---- the maximal pieces of a function, in a type of n values

  module _ (n : ℕ) (value : ℕ → Option V) where
    -- Whether the piece is non-empty and within the type, its ranks all have its value, and no rank
    -- of the type next to it has that value.
    pub record IsMaximalPiece (piece : Interval × V) : Type 0 where
      pub in_order : piece.0.first ≤ piece.0.last
      pub in_type : piece.0.last < n
      pub whole : (rank : ℕ) → IsTrue (covers piece.0 rank) → value rank ≡ Some piece.1
      pub begins_here : 0 < piece.0.first → value (piece.0.first - 1) ≡ Some piece.1 → ⊥
      pub ends_here : piece.0.last + 1 < n → value (piece.0.last + 1) ≡ Some piece.1 → ⊥

    -- Whether the list has all maximal pieces of the function, ascending, and nothing else.
    pub record ArePieces (pieces : List (Interval × V)) : Type 0 where
      pub ascending : AllPairs (λ (before after : Interval × V). before.0.first < after.0.first) pieces
      pub maximal : All IsMaximalPiece pieces
      pub complete : (piece : Interval × V) → IsMaximalPiece piece → Contains pieces piece

    -- Whether the piece is the maximal one that contains the rank.
    pub record IsPieceAround (rank : ℕ) (piece : Interval × V) : Type 0 where
      pub maximal : IsMaximalPiece piece
      pub around : IsTrue (covers piece.0 rank)

  -- ---- lists of pieces

  -- The value at a rank: that of the first piece that contains it.
  abbrev pub value_at : List (Interval × V) → ℕ → Option V
  value_at [] rank = None
  value_at (piece ∷ pieces) rank = cond (covers piece.0 rank) (Some piece.1) (value_at pieces rank)

  -- The ranks that have a value.
  abbrev pub keys : List (Interval × V) → Selection
  keys pieces rank = is_some (value_at pieces rank)

  -- The intervals of the pieces. Those of pieces that touch, with different values, touch too.
  abbrev pub runs_of_keys : List (Interval × V) → List Interval
  runs_of_keys pieces = map (λ piece. piece.0) pieces

  -- Whether the first piece of the list, if it starts right past `piece`, has another value.
  abbrev pub DiffersFromNext : Interval × V → List (Interval × V) → Type 0
  DiffersFromNext piece [] = Unit {0}
  DiffersFromNext piece (next ∷ pieces) =
      piece.0.last + 1 ≡ next.0.first → piece.1 ≡ next.1 → ⊥

  -- Whether the pieces are non-empty, ascend from `low`, do not overlap and end below n, and those
  -- that touch have different values.
  abbrev pub IsMapFrom : ℕ → ℕ → List (Interval × V) → Type 0
  IsMapFrom n low [] = Unit {0}
  IsMapFrom n low (piece ∷ pieces) = (low ≤ piece.0.first) × (piece.0.first ≤ piece.0.last)
      × (piece.0.last < n) × DiffersFromNext piece pieces × IsMapFrom n (piece.0.last + 1) pieces

  -- Whether the list is canonical in a type of n values.
  abbrev pub IsMapIn : ℕ → List (Interval × V) → Type 0
  IsMapIn n pieces = IsMapFrom n 0 pieces

  -- ---- a run that is inserted, joined with the pieces next to it that have its value

  -- Whether the pieces have the value from `joined` to below `start`, and not right below `joined`.
  pub record IsJoinedStart (pieces : List (Interval × V)) (start : ℕ) (value : V) (joined : ℕ)
      : Type 0 where
    pub below : joined ≤ start
    pub same : (rank : ℕ) → joined ≤ rank → rank < start → value_at pieces rank ≡ Some value
    pub apart : 0 < joined → value_at pieces (joined - 1) ≡ Some value → ⊥

  -- Whether the pieces have the value past `end` up to `joined`, and not right past `joined`.
  pub record IsJoinedEnd (n : ℕ) (pieces : List (Interval × V)) (end : ℕ) (value : V) (joined : ℕ)
      : Type 0 where
    pub above : end ≤ joined
    pub in_type : joined < n
    pub same : (rank : ℕ) → end < rank → rank ≤ joined → value_at pieces rank ≡ Some value
    pub apart : value_at pieces (joined + 1) ≡ Some value → ⊥

  -- ---- many pairs, of which later ones win

  -- The first option if it is a value, and otherwise the second.
  abbrev pub or_else : Option V → Option V → Option V
  or_else (Some value) other = Some value
  or_else None other = other

  -- The value of the last piece of a list that contains the rank. The pieces may overlap.
  abbrev pub last_value : List (Interval × V) → ℕ → Option V
  last_value [] rank = None
  last_value (piece ∷ pieces) rank =
      or_else (last_value pieces rank) (cond (covers piece.0 rank) (Some piece.1) None)

  -- Whether the new list has at each rank the value of the last piece that contains it, or what the
  -- old one has if there is none.
  pub record PutsAll (old added new : List (Interval × V)) : Type 0 where
    pub puts : (rank : ℕ) → value_at new rank ≡ or_else (last_value added rank) (value_at old rank)

  -- Whether a list has at each rank the value of the last piece that contains it.
  pub record IsMapOf (added new : List (Interval × V)) : Type 0 where
    pub has : (rank : ℕ) → value_at new rank ≡ last_value added rank
