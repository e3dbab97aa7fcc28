-- What the proofs about `NullableBox` share: its row, and the form of a box of the same type, with
-- the allocator `Global`.
use mathlib.Core.List.{[], ◌∷◌}
use mir.Syntax.{Args, Dict, a_type, dcons, dnil, impl, tnil}
use mir.Val.{Val, vstruct, vcons, vnil}
use denote.Param.{bounded}
use denote.Param.Laws.{Laws}
use denote.RattleType.{RattleType}
use denote.Struct.Owning.{Owning}
use Rattle.std.proofs.BoxSteps.Form.{Bx, R}
use Rattle.std.proofs.alloc.Global.TheLaws as heap
use Rattle.std.specs.contracts.alloc.Global as Heap
use Rattle.std.specs.contracts.impls.GlobalAllocator.TheImpl.{ghosts, dict}
use Rattle.range_set_c.specs.contracts.nullable_box.NullableBox as NullableBox
use Rattle.range_set_c.specs.contracts.unboxed.Unboxed as Unboxed
use Rattle.range_set_c.specs.declared.nullable_box.Empty.{Ghosts}

-- A machine value of two fields.
abbrev pub both : Val → Val → Val
both v w = vstruct (vcons v (vcons w vnil))

-- What a call passes for the type parameter.
abbrev pub type_args : RattleType → Dict → Dict → Args
type_args T empty drops = bounded (a_type ∷ []) (T, tt) (dcons empty (dcons drops dnil))

module _ (T : RattleType) (laws : Laws T) where
  -- The form of a box of the type.
  abbrev pub E : Bx
  E = record {
    row = T;
    laws = laws;
    al =
        record {
          row = Heap.the_row;
          laws = heap.the_row_laws;
          g = ghosts;
          d = dict;
          drops =
              impl [] tnil dnil;
        };
  }

  -- The row of a nullable box.
  abbrev pub Row : Ghosts T.Denot → RattleType
  Row empty = NullableBox.the_row (R E) empty

  -- The struct of that row.
  abbrev pub the_type : Ghosts T.Denot → Owning
  the_type empty = NullableBox.the_type (R E) empty

  -- The row of the parts of a box.
  abbrev pub Parts : RattleType
  Parts = Unboxed.the_row (R E) Heap.the_row ghosts
