-- What a nullable box owns.
use base.Fml.{Fml, feq}
use denote.RattleType.{RattleType}
use denote.RawPtr.{Ptr, block_ptr, null_ptr}
use Rattle.std.specs.Box.Ownership.{box_owns}
use Rattle.std.specs.Global.{Global}
use Rattle.std.specs.contracts.impls.GlobalAllocator.TheImpl.{ghosts}

-- A boxed value and the right to free its memory. If the pointer is null, the value is the empty
-- one and there is no memory.
abbrev pub nullable_owns : (T : RattleType) → T.Denot → Global → Ptr → T.Denot → Fml
nullable_owns T empty alloc (block_ptr b o) value =
    box_owns (ghosts.dealloc_token alloc) T (block_ptr b o) value
nullable_owns T empty alloc null_ptr value = feq T.Denot value empty
