use Rattle.rsb_integer.specs.Runs.{IsCanonicalIn}
use Rattle.rsb_integer.proofs.lemmas.Canonical.{canonical-tail}
use Rattle.rsb_streams.specs.laws.Calls.{known-disjoint}
use Rattle.rsb_streams.proofs.lemmas.sources.OneCall.{source-goes}
use Rattle.rsb_streams.proofs.check_sorted_disjoint.CheckSortedDisjointIterator.next.Goals as goal

pub returns-clause-goes : goal.returns-clause-goes
returns-clause-goes g c =
    let n = g.T.Integer.value_count in
    let goes = source-goes g.T.Integer.rank g.I.Iterator (IsCanonicalIn n) (canonical-tail n)
    c.args.self.now.iter c.next.new.self c.next.result c.requires
    (known-disjoint g.T.Integer g.I.Iterator c.args.self.now.iter c.requires).ends
    c.next.ensures.steps c.next.ensures.goes in
    record { on = goes.on; keeps = goes.keeps; rests = goes.rests }
