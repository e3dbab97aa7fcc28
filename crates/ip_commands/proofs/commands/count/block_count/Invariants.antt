use Rattle.std.proofs.Common.{◌≡◌, ◌-◌, ◌^◌, length, min}
use Rattle.ip_commands.proofs.commands.count.block_count.Given as goal

-- the count is that of the blocks so far
abbrev pub invariant-loop-block : goal.invariant-loop-block
invariant-loop-block g l = l.count ≡ min (length l.yielded) (2 ^ 64 - 1)
