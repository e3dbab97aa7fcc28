use Rattle.std.proofs.Common.{◌∙◌, ap, arith}
use Rattle.range_set_blaze.proofs.set.ranked.value_at.Goals as goal

-- One more than the index is at most the number of values of the type, which is a length.
pub add_assign-requires : goal.add_assign-requires
add_assign-requires g c =
    let laws = g.met.T.SafeLen.SafeLength in
    let one = ap g.T.SafeLen.SafeLength.number c.one.ensures ∙ laws.one_is_1 in
    laws.sum_allowed c.args.index c.one.result
    (omega (arith, one, c.requires.index, c.requires.value, g.met.T.Integer.lengths_suffice))

-- The length is one more than the index.
pub inclusive_end_from_start-requires-clause-some :
    goal.inclusive_end_from_start-requires-clause-some
inclusive_end_from_start-requires-clause-some g c =
    let laws = g.met.T.SafeLen.SafeLength in
    let one = ap g.T.SafeLen.SafeLength.number c.one.ensures ∙ laws.one_is_1 in
    let sum = laws.sum_exact c.args.index c.one.result c.add_assign.new.self c.add_assign.ensures.after in
    omega (arith, one, sum)

pub inclusive_end_from_start-requires-clause-room :
    goal.inclusive_end_from_start-requires-clause-room
inclusive_end_from_start-requires-clause-room g c =
    let laws = g.met.T.SafeLen.SafeLength in
    let one = ap g.T.SafeLen.SafeLength.number c.one.ensures ∙ laws.one_is_1 in
    let sum = laws.sum_exact c.args.index c.one.result c.add_assign.new.self c.add_assign.ensures.after in
    omega (arith, one, sum, c.requires.index, c.requires.value)

pub returns : goal.returns
returns g c =
    let laws = g.met.T.SafeLen.SafeLength in
    let one = ap g.T.SafeLen.SafeLength.number c.one.ensures ∙ laws.one_is_1 in
    let sum = laws.sum_exact c.args.index c.one.result c.add_assign.new.self c.add_assign.ensures.after in
    omega (arith, one, sum, c.inclusive_end_from_start.ensures)
