-- The values that are found are the ends of the range, because no two values have the same rank.
use Rattle.std.proofs.Common.{arith}
use Rattle.rsb_integer.proofs.lemmas.Range.{one_place}
use Rattle.rsb_integer.proofs.laws.offsets_undo_length.Goals as goal

pub returns-clause-end : goal.returns-clause-end
returns-clause-end g c start end found length ordered value is leads =
    let laws = g.met.T.Integer in
    one_place g.T.Integer.rank g.T.Integer.value_count g.T.Ord.cmp laws.exact laws.in_order
    found end (omega arith) (omega arith)

pub returns-clause-start : goal.returns-clause-start
returns-clause-start g c start end found length ordered value is leads =
    let laws = g.met.T.Integer in
    one_place g.T.Integer.rank g.T.Integer.value_count g.T.Ord.cmp laws.exact laws.in_order
    found start (omega arith) (omega arith)
