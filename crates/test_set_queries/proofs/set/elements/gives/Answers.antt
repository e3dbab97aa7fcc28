use Rattle.test_set_queries.proofs.set.elements.gives.Goals as goal
use Rattle.test_set_queries.proofs.set.elements.gives.Goals.{in-Front, in-Back}

-- A call at either end leaves elements that are ready at both ends.
pub loop-end-preserved : goal.loop-end-preserved
loop-end-preserved c = record {
  both_ends = c.loop-end.invariant.both_ends;
  ready = elim c.match-end.branch [
    | in-Front w ↦ rw w.elements-is w.next-found.ensures.steps.ready
    | in-Back w ↦ rw w.elements-is w.next_back-found.ensures.steps.ready
  ];
}
