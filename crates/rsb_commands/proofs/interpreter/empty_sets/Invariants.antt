use Rattle.std.proofs.Common.{◌≡◌, [], vec_len}
use Rattle.std.proofs.Math.ListN.{replicate}
use Rattle.rsb_commands.proofs.interpreter.empty_sets.Given as goal

abbrev pub invariant-loop : goal.invariant-loop
invariant-loop g l = (l.sets.items ≡ replicate l.counter []) × (vec_len l.sets ≡ l.counter)
