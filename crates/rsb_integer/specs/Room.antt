-- How much memory the values of a type need.
use Rattle.std.specs.Borrow.{RattleType, unit}
use Rattle.std.specs.Prelude.{ℕ, ◌<◌, ◌^◌}
use Rattle.std.specs.contracts.option.Option as option
use Rattle.arrayvec.specs.contracts.array_vec.ArrayVec as array_vec
use denote.Param.{layout, number}
use prog.Memory.{size}

-- The size in bytes of a vector of two optional ends of ranges, an `ArrayVec<Option<T>, 2>`.
abbrev pub two_ends : RattleType → ℕ
two_ends T = size (layout (array_vec.the_row (option.the_row T) (number 2) unit))

-- Whether the given number of bytes fits in memory. This is not an abbreviation, so that no proof
-- search unfolds it.
unfoldable pub HaveRoom : ℕ → Type 0
HaveRoom bytes = bytes < 2 ^ 63

-- Builds `HaveRoom` from the size of a type.
pub have_room : (bytes : ℕ) → bytes < 2 ^ 63 → HaveRoom bytes
unfolding HaveRoom
have_room bytes fewer = fewer

-- Gets the bound on the size back from `HaveRoom`.
pub fits_memory : (bytes : ℕ) → HaveRoom bytes → bytes < 2 ^ 63
unfolding HaveRoom
fits_memory bytes room = room
