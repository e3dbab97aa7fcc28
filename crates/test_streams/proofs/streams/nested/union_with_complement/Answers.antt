use Rattle.rsb_integer.specs.Selection.{union}
use Rattle.rsb_streams.proofs.lemmas.calling.Results.{runs_by_two-within}
use Rattle.test_streams.proofs.streams.nested.union_with_complement.Goals as goal

pub returns-clause-gives : goal.returns-clause-gives
returns-clause-gives g c = λ runs may.
    runs_by_two-within g.T.Integer.value_count union _ _ _ _ (λ each at. at)
    c.complement.ensures.made.gives runs
    (c.union.ensures.made.gives runs may)
