use Rattle.rsb_streams.proofs.lemmas.calling.Results.{intersection-by_complements}
use Rattle.test_streams.proofs.streams.six_operations.in_all_three.Goals as goal

pub returns-clause-gives : goal.returns-clause-gives
returns-clause-gives g c = λ runs may.
    intersection-by_complements g.T.Integer.value_count _ _ _ _ _
    c.left_out_of_two-either.ensures.gives c.complement-last.ensures.made.gives
    c.union-any.ensures.made.gives runs (c.complement.ensures.made.gives runs may)
