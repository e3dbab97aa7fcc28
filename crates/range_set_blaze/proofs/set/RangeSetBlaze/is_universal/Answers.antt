use Rattle.std.proofs.Common.{arith}
use Rattle.range_set_blaze.proofs.lemmas.order.EndRuns.{count-everything}
use Rattle.range_set_blaze.proofs.set.RangeSetBlaze.is_universal.Goals as goal

-- The length is the number of values of the type exactly if every value is a member.
pub returns : goal.returns
returns g c =
    let all = count-everything g.T.Integer.value_count in
    let same = g.met.T.SafeLen.SafeLength.equal c.self.inside.length c.safe_len.result in
    let length = rw c.self.view_is at c.self.invariant.length in
    grind (arith, all, same, length)
