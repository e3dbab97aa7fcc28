use Rattle.range_set_blaze.proofs.set.collect.by_reference.LentRangesIterator.next.Goals as goal

-- The range has the ranks of the one that was given by reference.
pub returns-clause-steps : goal.returns-clause-steps
returns-clause-steps g c = (c.in_ok-range.range, c.in_ok-range.ensures.steps, c.range_like.ensures)
