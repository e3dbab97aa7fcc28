-- The text of a map.
use Rattle.std.specs.Prelude.{ℕ, List, [], Option, Some, codes}
use Rattle.std.specs.Fmt.{◌++?◌, debug_items}
use Rattle.std.specs.Range.{range_inclusive_end, range_inclusive_start}
use Rattle.std.specs.declared.ops.RangeInclusive.{RangeInclusive}
use Rattle.rsb_integer.specs.Runs.{Interval}

-- The text of a range and its value, from the texts of the range's ends and of the value.
abbrev pub range_text : Option (List ℕ) → Option (List ℕ) → Option (List ℕ) → Option (List ℕ)
range_text start end value =
    Some (codes "(") ++? start ++? Some (codes "..=") ++? end ++? Some (codes ", ") ++? value
    ++? Some (codes ")")

-- The text of a piece, from the text of each key and of each value.
abbrev pub piece_text : {V : Type 0} → (ℕ → Option (List ℕ)) → (V → Option (List ℕ)) → Interval × V
    → Option (List ℕ)
piece_text key value piece = range_text (key piece.0.first) (key piece.0.last) (value piece.1)

-- The texts of the pieces, with a comma and a space between them.
abbrev pub map_text : {V : Type 0} → (ℕ → Option (List ℕ)) → (V → Option (List ℕ))
    → List (Interval × V) → Option (List ℕ)
map_text key value pieces = debug_items (piece_text key value) [] pieces

-- The text of a range with a value that a walk gives.
abbrev pub item_text : {T V : Type 0} → (T → Option (List ℕ)) → (V → Option (List ℕ))
    → RangeInclusive T × V → Option (List ℕ)
item_text key value item =
    range_text (key (range_inclusive_start item.0)) (key (range_inclusive_end item.0)) (value item.1)
