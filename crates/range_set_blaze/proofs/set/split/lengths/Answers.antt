use Rattle.std.proofs.Common.{arith}
use Rattle.range_set_blaze.proofs.set.split.lengths.Goals as goal

-- The members of one map are at most as many as those of both.
pub sub_assign-requires : goal.sub_assign-requires
sub_assign-requires g c =
    g.met.T.SafeLen.SafeLength.difference_allowed c.args.total c.length_of_runs-counted.result
    (omega (arith, c.length_of_runs-counted.ensures, c.requires.total))

pub sub_assign-requires-else-len : goal.sub_assign-requires-else-len
sub_assign-requires-else-len g c =
    g.met.T.SafeLen.SafeLength.difference_allowed c.args.total
    c.length_of_runs-counted-else-len.result
    (omega (arith, c.length_of_runs-counted-else-len.ensures, c.requires.total))

-- If the members of the low map are counted, the others are those of the high one.
pub returns-then-len-clause-low : goal.returns-then-len-clause-low
returns-then-len-clause-low g c = c.length_of_runs-counted.ensures

pub returns-then-len-clause-high : goal.returns-then-len-clause-high
returns-then-len-clause-high g c =
    let counted = c.length_of_runs-counted.ensures in
    let exact = g.met.T.SafeLen.SafeLength.difference_exact c.args.total
    c.length_of_runs-counted.result c.sub_assign.new.self (omega (arith, counted, c.requires.total))
    c.sub_assign.ensures.after in omega (arith, exact, counted, c.requires.total)

-- If those of the high map are counted, the others are those of the low one.
pub returns-else-len-clause-low : goal.returns-else-len-clause-low
returns-else-len-clause-low g c =
    let counted = c.length_of_runs-counted-else-len.ensures in
    let exact = g.met.T.SafeLen.SafeLength.difference_exact c.args.total
    c.length_of_runs-counted-else-len.result c.sub_assign-else-len.new.self
    (omega (arith, counted, c.requires.total)) c.sub_assign-else-len.ensures.after in
    omega (arith, exact, counted, c.requires.total)

pub returns-else-len-clause-high : goal.returns-else-len-clause-high
returns-else-len-clause-high g c = c.length_of_runs-counted-else-len.ensures
