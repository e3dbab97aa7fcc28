use Rattle.range_set_blaze.proofs.lemmas.elements.Listed.{listed-takes, takes-goes}
use Rattle.range_set_blaze.proofs.into_iter.IntoIterDoubleEndedIterator.next_back.Goals as goal

-- The element is the greatest of those that are left.
pub returns-clause-steps : goal.returns-clause-steps
returns-clause-steps g c =
    rw (← c.self.view_is)
    (listed-takes g.T.Integer.rank g.T.Integer.value_count c.next_back.ensures.steps)

pub returns-clause-goes : goal.returns-clause-goes
returns-clause-goes g c = takes-goes c.next_back.result (λ point found. (found.in_type, found.here))
    (returns-clause-steps g c)
