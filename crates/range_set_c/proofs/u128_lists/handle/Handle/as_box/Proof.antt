-- Written by tools/c/narrow from proofs/u64_lists/handle/Handle/as_box/Proof.antt.
-- `as_box` casts a handle to a nullable box, which has the same layout and owns the same memory.
use mathlib.Core.Path.{refl}
use base.Logic.{id⊢}
use denote.Memory.{part_of}
use denote.RattleType.{RattleType}
use Rattle.range_set_c.proofs.lemmas.Cast.{casts}
use Rattle.range_set_c.specs.U128ListHandle.{handle_of}
use Rattle.range_set_c.specs.contracts.nullable_box.NullableBox as NullableBox
use Rattle.range_set_c.specs.contracts.u128_lists.handle.Handle as Handle
use Rattle.range_set_c.specs.contracts.u128_lists.handle.Handle.as_box.Key as Key
use Rattle.range_set_c.specs.contracts.u128_lists.kept.Kept as Kept
use Rattle.range_set_c.specs.contracts.u128_lists.kept.KeptEmpty.TheImpl.{ghosts}
use Rattle.range_set_c.proofs.u128_lists.handle.Handle.as_box.Code as code
use Rattle.range_set_c.proofs.u128_lists.handle.Handle.as_box.Statement.{statement}

abbrev Boxed : RattleType
Boxed = NullableBox.the_row Kept.the_row ghosts

-- The nullable box with the pointer and the list of a handle.
abbrev box_of : Handle.the_row.Denot → Boxed.Denot
box_of handle = record { at = handle.at; alloc = handle.alloc; value = handle.kept }

pub as_box_spec : {M : Type 1} → statement M
unfolding part_of
as_box_spec 𝓤 𝓛 𝓜 𝓡 wired =
    casts Handle.the_row Boxed tt tt Kept.the_row.Denot (λ handle. handle.kept)
    (λ boxed. boxed.value) handle_of box_of (λ handle. refl) 𝓛 (λ handle b o. id⊢ 𝓤 _)
    (λ boxed b o. id⊢ 𝓤 _) 𝓜 𝓡 _ _ _ _ Key.name (code.unfolded 𝓤 𝓛.H 𝓜 𝓡 wired)
