-- What the proofs about `Unboxed` share: its row, and its value as a box of the same types, which
-- owns the same memory.
use denote.RattleType.{RattleType}
use Rattle.std.proofs.BoxSteps.Form.{Bx, D, R, P}
use Rattle.range_set_c.specs.contracts.unboxed.Unboxed as Unboxed

module _ (E : Bx) where
  -- The row of the parts of such a box.
  abbrev pub Row : RattleType
  Row = Unboxed.the_row (R E) (P E) E.al.g

  -- The parts of a box.
  abbrev pub parts_of : D E → Row.Denot
  parts_of boxed = record { at = boxed.ptr; alloc = boxed.alloc; value = boxed.value }

  -- The box of the given parts.
  abbrev pub box_of : Row.Denot → D E
  box_of parts = record { ptr = parts.at; alloc = parts.alloc; value = parts.value }
