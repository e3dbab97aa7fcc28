-- Facts of a value that was read.
use Rattle.std.proofs.Common.{Option, Some, None}
use Rattle.std.specs.Prelude.{IfSome}

-- If a fact holds of what was read, so does what follows from it.
pub IfSome-weaker : {X : Type 0} (result : Option X) (Fact Other : X → Type 0) → IfSome result Fact
    → ((x : X) → Fact x → Other x) → IfSome result Other
IfSome-weaker None Fact Other h weaker = tt
IfSome-weaker (Some x) Fact Other h weaker = weaker x h
