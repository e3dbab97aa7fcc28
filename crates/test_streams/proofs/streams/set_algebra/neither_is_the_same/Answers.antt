use Rattle.rsb_integer.specs.Selection.{complement, union}
use Rattle.rsb_streams.proofs.lemmas.calling.Nested.{both-of}
use Rattle.test_streams.proofs.streams.set_algebra.neither_is_the_same.Goals as goal

pub returns : goal.returns
returns g c = λ these those some other again other_again.
    let n = g.T.Integer.value_count in
    c.are_the_same.ensures (λ left right. complement (union left right)) these those
    (both-of n these those (λ left right. complement (union left right)) _ _ _ some other
    c.outside_union-outside.ensures.gives)
    (both-of n these those (λ left right. complement (union left right)) _ _ _ again other_again
    c.inside_complements-inside.ensures.gives)
