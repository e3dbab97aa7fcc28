use Rattle.rsb_streams.specs.laws.Calls.{known-sorted}
use Rattle.rsb_streams.specs.Stream.{HasSortedStarts}
use Rattle.rsb_streams.proofs.lemmas.sources.OneCall.{sorted-tail, source-goes}
use Rattle.rsb_streams.proofs.assume_sorted_starts.AssumeSortedStartsIterator.next.Goals as goal

pub returns-clause-goes : goal.returns-clause-goes
returns-clause-goes g c =
    let n = g.T.Integer.value_count in
    let goes = source-goes g.T.Integer.rank g.I.Iterator (HasSortedStarts n) (sorted-tail n)
    c.args.self.now.iter c.next.new.self c.next.result c.requires
    (known-sorted g.T.Integer g.I.Iterator c.args.self.now.iter c.requires).ends
    c.next.ensures.steps c.next.ensures.goes in
    record { on = goes.on; keeps = goes.keeps; rests = goes.rests }
