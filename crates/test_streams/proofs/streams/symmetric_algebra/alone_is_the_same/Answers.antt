use Rattle.rsb_integer.specs.Selection.{symmetric_difference}
use Rattle.rsb_streams.proofs.lemmas.calling.Nested.{both-of}
use Rattle.test_streams.proofs.streams.symmetric_algebra.alone_is_the_same.Goals as goal

-- Both streams are built by the same operation on the lists.
pub returns : goal.returns
returns g c = λ these those one other some more again other_again.
    let n = g.T.Integer.value_count in
    c.are_the_same.ensures symmetric_difference these those
    (both-of n these those symmetric_difference _ _ _ one other
    c.symmetric_difference-alone.ensures.made.gives)
    (c.unshared-parts.ensures.gives these those some more again other_again)
