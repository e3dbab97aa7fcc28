use Rattle.rsb_streams.specs.Lookahead.{same_side}
use Rattle.rsb_streams.specs.Merge.{merge, merge_inputs}
use Rattle.rsb_streams.proofs.lemmas.lookahead.Ahead.{asks-ahead}
use Rattle.rsb_streams.proofs.operation_results.union.UnionIterator.next.Goals as goal

-- A union of the merge looks ahead of its inputs.
pub returns-clause-steps : goal.returns-clause-steps
returns-clause-steps g c =
    let merged = merge g.T.Integer g.L.Draw g.R.Draw in
    record {
      answers = c.next.ensures.steps.answers;
      rests = c.next.ensures.steps.rests;
      asks = asks-ahead same_side g.T.Integer (merge_inputs g.T.Integer g.L.Draw g.R.Draw) merged
          (λ s t item gives. gives.asks) c.args.self.now.iter c.next.new.self c.next.result
          c.next.ensures.steps.asks;
    }
