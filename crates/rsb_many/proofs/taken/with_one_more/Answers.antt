use Rattle.rsb_many.proofs.taken.with_one_more.Goals as goal

-- The stream taken comes after those of the list.
pub returns-clause-more : goal.returns-clause-more
returns-clause-more g c = rw c.in_ok-taken.was c.one_more_taken.ensures.more
