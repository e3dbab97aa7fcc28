use Rattle.std.proofs.Common.{◌∙◌, sym}
use Rattle.std.specs.Vec.Iter.{into_iter_items}
use Rattle.rsb_streams.proofs.lemmas.sources.ListCalls.{canonical-goes_by}
use Rattle.rsb_many.proofs.dyn_sorted_disjoint.DynSortedDisjointIterator.next.Goals as goal

-- What is left of canonical ranges is canonical.
pub returns-clause-goes : goal.returns-clause-goes
returns-clause-goes g c = canonical-goes_by g.T.Integer.rank g.T.Integer.value_count
    c.args.self.now (into_iter_items c.next.new.self) c.next.result
    (sym c.self.view_is ∙ c.next.ensures.items) c.requires
