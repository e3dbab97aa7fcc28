use Rattle.range_set_blaze.proofs.lemmas.order.EndRuns.{kept-nil}
use Rattle.range_set_blaze.proofs.set.RangeSetBlaze.new.Goals as goal

-- The set has no run, and the length is 0.
pub invariant_of-result : goal.invariant_of-result
invariant_of-result g c =
    rw (c.new.ensures, c.zero.ensures)
    (kept-nil g.T.Integer.value_count _ g.met.T.SafeLen.SafeLength.zero_is_0)
