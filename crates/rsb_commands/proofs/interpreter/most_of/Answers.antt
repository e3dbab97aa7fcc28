use Rattle.std.proofs.Common.{[], ◌∷◌, map, subst, arith}
use Rattle.std.proofs.lemmas.Result.{IfOk-weaker}
use Rattle.std.specs.Array.Iter.{array_into_iter_items, array_steps}
use Rattle.rsb_integer.specs.Runs.{members}
use Rattle.rsb_integer.specs.Selection.{at_least}
use Rattle.range_set_blaze.specs.Set.{IsSetOf}
use Rattle.range_set_blaze.proofs.ManySets.{whole-items}
use Rattle.rsb_commands.proofs.interpreter.most_of.Goals as goal

-- The items that are passed are the three sets.
pub returns : goal.returns
returns g c =
    rw (← c.set_at.ensures, ← c.set_at-2.ensures, ← c.set_at-3.ensures)
    (IfOk-weaker c.at_least.result _ _ (λ set gave.
    let three = c.set_at.result ∷ c.set_at-2.result ∷ c.set_at-3.result ∷ [] in
    let are = whole-items array_steps array_into_iter_items three gave.0 _
    gave.1.0 gave.1.2 gave.2 in
    subst (λ items. IsSetOf set (at_least 2 (map members (map (λ lent. lent.now) items)))) are
    gave.2.3)
    (c.at_least.ensures.exactly (omega arith)))
