use Rattle.rsb_streams.proofs.lemmas.calling.Results.{complement-twice}
use Rattle.test_streams.proofs.streams.nested.complement_twice.Goals as goal

pub returns-clause-gives : goal.returns-clause-gives
returns-clause-gives g c = λ runs may.
    complement-twice g.T.Integer.value_count _ _ c.complement.ensures.made.gives runs
    (c.not.ensures.made.gives runs may)
