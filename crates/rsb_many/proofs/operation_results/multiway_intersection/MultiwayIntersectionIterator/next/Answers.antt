use Rattle.rsb_streams.specs.NotIter.{not_iter}
use Rattle.rsb_many.proofs.lemmas.merging.Operations.{passes-use}
use Rattle.rsb_many.proofs.operation_results.multiway_intersection.MultiwayIntersectionIterator.next.Goals as goal

-- One draw of the complement makes draws of the union. These use only ranges of each input that lie
-- within the returned ranges.
pub returns-clause-steps : goal.returns-clause-steps
returns-clause-steps g c = record {
  answers = c.next.ensures.steps.answers;
  rests = c.next.ensures.steps.rests;
  asks = record {
    passes = c.next.ensures.steps.asks;
    uses = λ from one. passes-use g.T.Integer (not_iter g.T.Integer g.I.Draw)
        c.args.self.now.iter c.next.new.self c.next.result c.next.ensures.steps.asks from one;
  };
}
