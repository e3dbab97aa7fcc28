-- Values by their places in a list, such as the variants of an enum.
use Rattle.std.specs.Prelude.{◌≡◌, ℕ, suc, Bool, true, false, ◌&&◌, List, [], ◌∷◌, slice_get, Some}
use Rattle.std.specs.Ordering.{is_lt}
use Rattle.std.specs.declared.cmp.Ordering.{Ordering}

-- The place of the value in the list, found by a test of equality. If the value is not in the list,
-- the place is the length of the list.
abbrev pub place_in : {T : Type 0} → (T → T → Bool) → List T → T → ℕ
place_in eq [] value = 0
place_in eq (first ∷ others) value =
    elim (eq value first) [ true ↦ 0 | false ↦ suc (place_in eq others value) ]

-- Whether the value is in the list, at its place.
abbrev pub IsListed : {T : Type 0} → (T → T → Bool) → List T → T → Type 0
IsListed eq values value = slice_get values (place_in eq values value) ≡ Some value

-- Whether each value of the list is less than the next.
abbrev pub ascends : {T : Type 0} → (T → T → Ordering) → List T → Bool
ascends cmp [] = true
ascends cmp (first ∷ []) = true
ascends cmp (first ∷ next ∷ others) = is_lt (cmp first next) && ascends cmp (next ∷ others)
