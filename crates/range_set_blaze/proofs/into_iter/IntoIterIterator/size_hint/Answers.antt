use Rattle.range_set_blaze.proofs.lemmas.elements.Listed.{hint-count}
use Rattle.range_set_blaze.proofs.into_iter.IntoIterIterator.size_hint.Goals as goal

-- Each range has at least one element.
pub returns-clause-lower : goal.returns-clause-lower
returns-clause-lower g c = λ finite. rw (← c.self.view_is)
    (hint-count g.T.Integer.rank g.T.Integer.value_count c.self.inside.elements c.self.invariant
    c.size_hint.result.0 c.size_hint.ensures.ranges)
