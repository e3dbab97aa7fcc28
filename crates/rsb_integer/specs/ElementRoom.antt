-- How much memory the elements of a listed type need.
use Rattle.std.specs.Borrow.{RattleType}
use Rattle.std.specs.Prelude.{ℕ}
use Rattle.rsb_integer.specs.contracts.element.Element as element
use Rattle.rsb_integer.specs.Room.{two_ends}

-- The size in bytes of a vector of two optional ends of ranges of such elements.
abbrev pub two_elements : RattleType → ℕ
two_elements T = two_ends (element.the_row T)
