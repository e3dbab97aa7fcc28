use Rattle.std.proofs.Common.{◌≡◌}
use Rattle.ip_sets.proofs.blocks.blocks_of.Given as goal

-- the list has the blocks so far
abbrev pub invariant-loop-block : goal.invariant-loop-block
invariant-loop-block g l = l.blocks.items ≡ l.yielded
