use Rattle.std.proofs.Common.{◌≡◌, ◌∙◌, Bool, true, false, refl, sym, ap}
use Rattle.std.specs.Bool.{beq}
use Rattle.std.specs.Ordering.{is_eq}
use Rattle.range_set_blaze.specs.laws.Order.{sets_ties}
use Rattle.test_set_queries.proofs.set.order.is_equal_both_ways.Goals as goal

-- Every flag is equal to itself.
itself : (answer : Bool) → beq answer answer ≡ true
itself true = refl
itself false = refl

-- `==` returns true if and only if `cmp` returns `Equal`.
pub returns : goal.returns
returns g c =
    let ties = sets_ties g.T.Integer.value_count c.args.one.now c.args.other.now in
    let same : c.is_eq.result ≡ c.eq.result =
    c.is_eq.ensures ∙ ap is_eq c.cmp.ensures ∙ sym (c.eq.ensures ∙ ties) in
    rw same (itself c.eq.result)
