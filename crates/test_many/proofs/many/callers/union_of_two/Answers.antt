use Rattle.std.proofs.Common.{[], ◌∷◌}
use Rattle.std.proofs.lemmas.Result.{IfOk-weaker}
use Rattle.std.specs.Prelude.{Ok}
use Rattle.rsb_integer.specs.Selection.{any_of}
use Rattle.rsb_many.proofs.lemmas.calling.Taken.{made-known, more-known, none-known}
use Rattle.test_many.proofs.many.callers.union_of_two.Goals as goal

-- The result is the union of two known lists.
pub returns-clause-gives : goal.returns-clause-gives
returns-clause-gives g c = λ these those left right.
    let first = more-known _ (Ok c.new.result) c.with_one_more-first.result _ [] these
    c.with_one_more-first.ensures.more left (none-known _ _ c.new.ensures.items) in
    let both = more-known _ c.with_one_more-first.result c.with_one_more-both.result _ (these ∷ []) those
    c.with_one_more-both.ensures.more right first in
    IfOk-weaker c.union_of_taken.result _ _ (λ union made.
    made-known _ g.T.Integer.value_count any_of c.with_one_more-both.result _ (these ∷ those ∷ []) _
    made both (λ streams each. each.gives)) c.union_of_taken.ensures.made
