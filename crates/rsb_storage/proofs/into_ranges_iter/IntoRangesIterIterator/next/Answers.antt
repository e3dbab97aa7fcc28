use Rattle.rsb_storage.proofs.lemmas.elements.Ranges.{goes-first}
use Rattle.rsb_storage.proofs.into_ranges_iter.IntoRangesIterIterator.next.Goals as goal

-- What is left of canonical ranges is canonical.
pub returns-clause-goes : goal.returns-clause-goes
returns-clause-goes g c = goes-first g.T.Integer.rank g.T.Integer.value_count c.self.view_is
    c.requires c.in_ok-start.ensures.steps
