-- The representation of a map: a map from the starts of its pieces to their ends and values.
-- Internal clauses place pieces in a list by their starts.
use Rattle.std.specs.Prelude.{◌≡◌, ℕ, Bool, not, ◌&&◌, ◌==◌, cond, ◌+◌, ◌<◌, ◌≤◌, nat_le, nat_lt, List, [], ◌∷◌, ◌++◌, map, Contains}
use Rattle.std.specs.List.{filter}
use Rattle.std.specs.declared.ops.RangeInclusive.{RangeInclusive}
use Rattle.rsb_integer.specs.Rank.{interval_of, range_of}
use Rattle.rsb_integer.specs.Runs.{Interval, from_to}

-- The piece of an entry. `seen` is what contracts see of a value.
abbrev pub piece_of : {T V : Type 0} → (T → ℕ) → (V → V) → T × (T × V) → Interval × V
piece_of rank seen entry = (from_to (rank entry.0) (rank entry.1.0), seen entry.1.1)

-- The pieces of entries.
abbrev pub pieces_of : {T V : Type 0} → (T → ℕ) → (V → V) → List (T × (T × V)) → List (Interval × V)
pieces_of rank seen entries = map (piece_of rank seen) entries

-- The ranges of entries, each with its value.
abbrev pub range_values_of : {T V : Type 0} → List (T × (T × V)) → List (RangeInclusive T × V)
range_values_of entries = map (λ entry. (range_of (entry.0, entry.1.0), entry.1.1)) entries

-- The ranges of entries.
abbrev pub key_ranges_of : {T V : Type 0} → List (T × (T × V)) → List (RangeInclusive T)
key_ranges_of entries = map (λ entry. range_of (entry.0, entry.1.0)) entries

-- The pieces that ranges with values represent.
abbrev pub pieces_in : {T V : Type 0} → (T → ℕ) → (V → V) → List (RangeInclusive T × V)
    → List (Interval × V)
pieces_in rank seen items = map (λ item. (interval_of rank item.0, seen item.1)) items

-- The pieces that keys with values represent.
abbrev pub keyed : {T V : Type 0} → (T → ℕ) → (V → V) → List (T × V) → List (Interval × V)
keyed rank seen items = map (λ item. (from_to (rank item.0) (rank item.0), seen item.1)) items

module _ {V : Type 0} where
  -- ---- parts of a list, by starts

  -- The pieces whose starts pass a test.
  abbrev pub pieces_starting : (ℕ → Bool) → List (Interval × V) → List (Interval × V)
  pieces_starting test pieces = filter (λ piece. test piece.0.first) pieces

  -- The pieces that start below the rank.
  abbrev pub pieces_below : ℕ → List (Interval × V) → List (Interval × V)
  pieces_below rank pieces = pieces_starting (λ start. nat_lt start rank) pieces

  -- The pieces that start past the rank.
  abbrev pub pieces_past : ℕ → List (Interval × V) → List (Interval × V)
  pieces_past rank pieces = pieces_starting (λ start. nat_lt rank start) pieces

  -- The pieces that start at the rank or past it.
  abbrev pub pieces_from : ℕ → List (Interval × V) → List (Interval × V)
  pieces_from rank pieces = pieces_starting (λ start. nat_le rank start) pieces

  -- The pieces that do not start at the rank.
  abbrev pub without_start : ℕ → List (Interval × V) → List (Interval × V)
  without_start rank pieces = pieces_starting (λ start. not (start == rank)) pieces

  -- The pieces that do not start past `first` and up to `last`.
  abbrev pub without_inside : ℕ → ℕ → List (Interval × V) → List (Interval × V)
  without_inside first last pieces =
      pieces_starting (λ start. not (nat_lt first start && nat_le start last)) pieces

  -- The pieces with one more inserted where its start belongs. It replaces any piece with the same
  -- start.
  abbrev pub with_piece : Interval × V → List (Interval × V) → List (Interval × V)
  with_piece piece pieces =
      pieces_below piece.0.first pieces ++ piece ∷ pieces_past piece.0.first pieces

  -- The piece with another end, if it starts at the rank.
  abbrev pub with_end : ℕ → ℕ → Interval × V → Interval × V
  with_end start end piece =
      cond (piece.0.first == start) (from_to piece.0.first end, piece.1) piece

  -- The pieces, the one that starts at the rank with another end.
  abbrev pub with_end_at : ℕ → ℕ → List (Interval × V) → List (Interval × V)
  with_end_at start end pieces = map (with_end start end) pieces

  -- Whether the starts ascend strictly, from `low` or later, and are below n.
  abbrev pub StartsAscendFrom : ℕ → ℕ → List (Interval × V) → Type 0
  StartsAscendFrom n low [] = Unit {0}
  StartsAscendFrom n low (piece ∷ pieces) =
      (low ≤ piece.0.first) × (piece.0.first < n) × StartsAscendFrom n (piece.0.first + 1) pieces

  -- ---- one piece among others

  -- Whether the piece is the last of those that start below the rank.
  pub record IsLastBelow (pieces : List (Interval × V)) (bound : ℕ) (piece : Interval × V) : Type 0
    where
      pub among : Contains pieces piece
      pub starts : piece.0.first < bound
      pub last : (other : Interval × V) → Contains pieces other → other.0.first < bound
          → other.0.first ≤ piece.0.first

  -- Whether no piece starts below the rank.
  abbrev pub NoneBelow : List (Interval × V) → ℕ → Type 0
  NoneBelow pieces bound =
      (piece : Interval × V) → Contains pieces piece → piece.0.first < bound → ⊥

  -- Whether a piece starts at the rank, which is past `first` and at or below `last`.
  pub record IsInside (pieces : List (Interval × V)) (first last start : ℕ) : Type 0 where
    pub piece : Interval × V
    pub among : Contains pieces piece
    pub starts : piece.0.first ≡ start
    pub past : first < start
    pub to : start ≤ last
