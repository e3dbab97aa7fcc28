use Rattle.rsb_streams.proofs.lemmas.lookahead.Ahead.{asks-ahead}
use Rattle.rsb_many.specs.KMerge.{kmerge, kmerge_inputs}
use Rattle.rsb_many.specs.MultiwayUnion.{same_place}
use Rattle.rsb_many.proofs.operation_results.multiway_union.MultiwayUnionIterator.next.Goals as goal

-- A union of the merge looks ahead in its inputs.
pub returns-clause-steps : goal.returns-clause-steps
returns-clause-steps g c = record {
  answers = c.next.ensures.steps.answers;
  rests = c.next.ensures.steps.rests;
  asks = asks-ahead same_place g.T.Integer (kmerge_inputs g.T.Integer g.I.Draw)
      (kmerge g.T.Integer g.I.Draw) (λ s t item gives. gives.asks.takes) c.args.self.now.iter
      c.next.new.self c.next.result c.next.ensures.steps.asks;
}
