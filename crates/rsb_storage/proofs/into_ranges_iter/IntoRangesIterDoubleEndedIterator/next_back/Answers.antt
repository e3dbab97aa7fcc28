use Rattle.rsb_storage.proofs.lemmas.elements.Ranges.{goes-last}
use Rattle.rsb_storage.proofs.into_ranges_iter.IntoRangesIterDoubleEndedIterator.next_back.Goals as goal

-- What is left of canonical ranges is canonical.
pub returns-clause-goes : goal.returns-clause-goes
returns-clause-goes g c = goes-last g.T.Integer.rank g.T.Integer.value_count c.next_back.new.self _
    c.self.view_is c.requires c.in_ok-start.ensures.steps
