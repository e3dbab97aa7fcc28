use Rattle.range_set_blaze.proofs.lemmas.order.EndRuns.{kept-nil}
use Rattle.range_set_blaze.proofs.set.RangeSetBlaze.clear.Goals as goal

-- No run is left, and the length is 0.
pub invariant_of-self : goal.invariant_of-self
invariant_of-self g c =
    rw (c.clear.ensures, c.zero-self-inside.ensures)
    (kept-nil g.T.Integer.value_count _ g.met.T.SafeLen.SafeLength.zero_is_0)
