-- Iterators over the keys of a map and their values. Contracts see such an iterator as the list of the
-- pieces of the keys still to come.
use Rattle.std.specs.Prelude.{◌≡◌, ℕ, cond, ◌+◌, ◌-◌, nat_lt, List, [], ◌∷◌, ◌++◌, Option, Some, None, MatchOption, IfSome, IsTrue}
use Rattle.std.specs.Option.{option_map}
use Rattle.rsb_integer.specs.Runs.{Interval, from_to}
use Rattle.rsb_integer.specs.Selection.{Selection}
use Rattle.rsb_storage.specs.Storage.{run_of}
use Rattle.range_set_blaze.specs.BothEnds.{Takes}
use Rattle.range_map_blaze.specs.Map.{keys, value_at}
use Rattle.range_map_blaze.specs.Storage.{pieces_of}
use Rattle.range_map_blaze.specs.declared.owned.OwnedPiece.{OwnedPiece}
use Rattle.range_map_blaze.specs.declared.pieces.Piece.{Piece}

-- ---- what a call takes

-- Whether the pair is a key, which `IsFound` finds among the keys of the old map, and its value. It is
-- `None` exactly when the old map is empty. The new map is the old one without the key.
pub record TakesPair {T V : Type 0} (rank : T → ℕ) (IsFound : Selection → ℕ → Type 0)
    (old : List (Interval × V)) (item : Option (T × V)) (new : List (Interval × V)) : Type 0 where
  pub key : Takes rank IsFound (keys old) (option_map (λ pair. pair.0) item) (keys new)
  pub value : IfSome item (λ pair. value_at old (rank pair.0) ≡ Some pair.1)
  pub rest : (other : ℕ) → IsTrue (keys new other) → value_at new other ≡ value_at old other

-- Whether the value is that of the key that `IsFound` finds, and the new map is the old one without
-- that key.
abbrev pub TakesValue : {T V : Type 0} → (T → ℕ) → (Selection → ℕ → Type 0) → List (Interval × V)
    → Option V → List (Interval × V) → Type 0
TakesValue {T} {V} rank IsFound old item new = (pair : Option (T × V))
    × TakesPair rank IsFound old pair new × (option_map (λ (each : T × V). each.1) pair ≡ item)

-- ---- what is left

module _ {V : Type 0} where
  -- A piece without its first rank.
  abbrev pub cut_first : Interval × V → List (Interval × V)
  cut_first piece = cond (nat_lt piece.0.first piece.0.last)
      ((from_to (piece.0.first + 1) piece.0.last, piece.1) ∷ []) []

  -- A piece without its last rank.
  abbrev pub cut_last : Interval × V → List (Interval × V)
  cut_last piece = cond (nat_lt piece.0.first piece.0.last)
      ((from_to piece.0.first (piece.0.last - 1), piece.1) ∷ []) []

module _ {T V : Type 0} (rank : T → ℕ) (seen : V → V) where
  -- The piece that is held, if there is one.
  abbrev pub held : Option (Piece T V) → List (Interval × V)
  held None = []
  held (Some piece) = (run_of rank piece.run, seen piece.value.now) ∷ []

  -- What is held at the front, the pieces of entries, and what is held at the back.
  abbrev pub pieces_left : Option (Piece T V) → List (T × (T × V)) → Option (Piece T V)
      → List (Interval × V)
  pieces_left front entries back = held front ++ (pieces_of rank seen entries ++ held back)

  -- Whether the piece was the first of those that are left, and `None` if there was none.
  abbrev pub HasTakenFirst : Option (Piece T V) → List (T × (T × V)) → Option (Piece T V)
      → Option (Piece T V) → List (T × (T × V)) → Option (Piece T V) → Type 0
  HasTakenFirst front entries back taken rest after = MatchOption taken
      ((pieces_left front entries back ≡ []) × (pieces_of rank seen rest ++ held after ≡ []))
      (λ piece. pieces_left front entries back
      ≡ (run_of rank piece.run, seen piece.value.now) ∷ (pieces_of rank seen rest ++ held after))

  -- Whether the piece was the last of those that are left, and `None` if there was none.
  abbrev pub HasTakenLast : Option (Piece T V) → List (T × (T × V)) → Option (Piece T V)
      → Option (Piece T V) → Option (Piece T V) → List (T × (T × V)) → Type 0
  HasTakenLast front entries back taken before rest = MatchOption taken
      ((pieces_left front entries back ≡ []) × (held before ++ pieces_of rank seen rest ≡ []))
      (λ piece. pieces_left front entries back
      ≡ (held before ++ pieces_of rank seen rest) ++ (run_of rank piece.run, seen piece.value.now) ∷ [])

-- ---- the same for values that are owned

module _ {T V : Type 0} (rank : T → ℕ) (seen : V → V) where
  -- The piece that is held, if there is one.
  abbrev pub held_owned : Option (OwnedPiece T V) → List (Interval × V)
  held_owned None = []
  held_owned (Some piece) = (run_of rank piece.run, seen piece.value) ∷ []

  -- What is held at the front, the pieces of entries, and what is held at the back.
  abbrev pub owned_left : Option (OwnedPiece T V) → List (T × (T × V)) → Option (OwnedPiece T V)
      → List (Interval × V)
  owned_left front entries back = held_owned front ++ (pieces_of rank seen entries ++ held_owned back)

  -- Whether the piece was the first of those that are left, and `None` if there was none.
  abbrev pub HasTakenOwnFirst : Option (OwnedPiece T V) → List (T × (T × V)) → Option (OwnedPiece T V)
      → Option (OwnedPiece T V) → List (T × (T × V)) → Option (OwnedPiece T V) → Type 0
  HasTakenOwnFirst front entries back taken rest after = MatchOption taken
      ((owned_left front entries back ≡ []) × (pieces_of rank seen rest ++ held_owned after ≡ []))
      (λ piece. owned_left front entries back
      ≡ (run_of rank piece.run, seen piece.value) ∷ (pieces_of rank seen rest ++ held_owned after))

  -- Whether the piece was the last of those that are left, and `None` if there was none.
  abbrev pub HasTakenOwnLast : Option (OwnedPiece T V) → List (T × (T × V)) → Option (OwnedPiece T V)
      → Option (OwnedPiece T V) → Option (OwnedPiece T V) → List (T × (T × V)) → Type 0
  HasTakenOwnLast front entries back taken before rest = MatchOption taken
      ((owned_left front entries back ≡ []) × (held_owned before ++ pieces_of rank seen rest ≡ []))
      (λ piece. owned_left front entries back
      ≡ (held_owned before ++ pieces_of rank seen rest) ++ (run_of rank piece.run, seen piece.value) ∷ [])
