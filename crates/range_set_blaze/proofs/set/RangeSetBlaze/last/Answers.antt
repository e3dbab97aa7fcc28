use Rattle.range_set_blaze.proofs.lemmas.order.EndRuns.{last-greatest}
use Rattle.range_set_blaze.proofs.set.RangeSetBlaze.last.Goals as goal

-- The last run ends with the greatest member.
pub returns-clause-found : goal.returns-clause-found
returns-clause-found g c =
    rw (← c.self.view_is)
    (last-greatest g.T.Integer.value_count _ _ c.self.invariant.canonical c.in_ok-run.ensures.last)
