-- Written by tools/c/narrow from proofs/u64_sets/arrays/set_of/Invariants.antt.
use Rattle.std.proofs.Common.{take}
use Rattle.range_set_blaze.specs.Set.{IsSetOf}
use Rattle.range_set_c.specs.U128Runs.{values_of}
use Rattle.range_set_c.proofs.u128_sets.arrays.set_of.Given as goal

-- The set has the values of the runs so far.
abbrev pub invariant-loop-run : goal.invariant-loop-run
invariant-loop-run l = IsSetOf l.set (values_of (take l.run-index l.runs))
