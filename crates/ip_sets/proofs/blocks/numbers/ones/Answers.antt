use Rattle.std.proofs.Common.{arith}
use Rattle.std.proofs.lemmas.Nat.{one_shl, pow_pos}
use Rattle.ip_sets.proofs.blocks.numbers.ones.Goals as goal

-- The shifted 1 is a power of 2.
pub overflow_sub-result : goal.overflow_sub-result
overflow_sub-result c =
    omega (arith, one_shl c.args.free 128 (omega arith), pow_pos c.args.free)

pub returns : goal.returns
returns c = omega (arith, one_shl c.args.free 128 (omega arith), pow_pos c.args.free)
