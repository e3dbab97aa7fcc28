use Rattle.range_set_blaze.proofs.lemmas.order.EndRuns.{first-least}
use Rattle.range_set_blaze.proofs.set.RangeSetBlaze.first.Goals as goal

-- The first run starts with the least member.
pub returns-clause-found : goal.returns-clause-found
returns-clause-found g c =
    rw (← c.self.view_is)
    (first-least g.T.Integer.value_count _ _ c.self.invariant.canonical c.in_ok-run.ensures)

-- If there is a first run, the set has runs.
pub returns-clause-none : goal.returns-clause-none
returns-clause-none g c =
    rw (← c.self.view_is, c.in_ok-run.ensures.parts) ((λ none. absurd (cc)), (λ none. absurd (cc)))
