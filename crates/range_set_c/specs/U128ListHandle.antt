-- Written by tools/c/narrow from specs/U64ListHandle.antt.
-- What a handle to a list of sets of `u128` is after a borrow.
use mathlib.Core.Option.{none}
use Rattle.std.specs.Borrow.{Fml, Lends, MutBor, follows_so}
use Rattle.std.specs.Prelude.{◌≡◌, ⊤}
use Rattle.range_set_c.specs.contracts.nullable_box.NullableBox.{the_row as box_row}
use Rattle.range_set_c.specs.contracts.u128_lists.handle.Handle.{the_row as handle_row}
use Rattle.range_set_c.specs.contracts.u128_lists.kept.Kept.{the_row as kept_row}
use Rattle.range_set_c.specs.contracts.u128_lists.kept.KeptEmpty.TheImpl.{ghosts}

-- The handle with the pointer and the list of a nullable box.
abbrev pub handle_of : (box_row kept_row ghosts).Denot → handle_row.Denot
handle_of boxed = record { at = boxed.at; alloc = boxed.alloc; kept = boxed.value }

-- Whether the handle ends as the nullable box behind the borrow.
abbrev pub EndsAsBox : MutBor handle_row.Denot → MutBor (box_row kept_row ghosts).Denot → Fml
EndsAsBox handle boxed = Lends handle_row (box_row kept_row ghosts) handle boxed handle_of

-- Whether the handle ends with the list that it had.
abbrev pub EndsAsItWas : MutBor handle_row.Denot → Fml
EndsAsItWas handle = follows_so handle_row handle_row handle.ghost_name none (λ _ _. ⊤)
    (λ now. now.kept ≡ handle.now.kept)
