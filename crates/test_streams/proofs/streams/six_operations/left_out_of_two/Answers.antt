use Rattle.rsb_streams.proofs.lemmas.calling.Results.{union-of_complements}
use Rattle.test_streams.proofs.streams.six_operations.left_out_of_two.Goals as goal

pub returns-clause-gives : goal.returns-clause-gives
returns-clause-gives g c = λ runs may.
    union-of_complements g.T.Integer.value_count _ _ _ _ c.complement-gaps.ensures.made.gives
    c.complement-others.ensures.made.gives runs (c.union.ensures.made.gives runs may)
