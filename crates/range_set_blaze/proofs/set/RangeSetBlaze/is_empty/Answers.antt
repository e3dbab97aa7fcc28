use Rattle.range_set_blaze.proofs.lemmas.order.EndRuns.{nothing-kept}
use Rattle.range_set_blaze.proofs.set.RangeSetBlaze.is_empty.Goals as goal

-- Every run has a member, so a set without members has no runs.
pub returns : goal.returns
returns g c =
    let nothing = nothing-kept c.self.inside.runs c.self.invariant.canonical.apart in
    let empty = c.is_empty.ensures in
    rw (← c.self.view_is)
    ((λ is. nothing.0 (empty.0 is)), (λ none. empty.1 (nothing.1 none)))
