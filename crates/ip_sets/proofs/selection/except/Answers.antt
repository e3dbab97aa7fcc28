use Rattle.std.proofs.Common.{◌≡◌, ◌∙◌, ap, drop, length, map, subst, sym, take}
use Rattle.std.specs.Prelude.{min}
use Rattle.range_set_blaze.specs.Runs.{members}
use Rattle.range_set_blaze.specs.Selection.{any_of}
use Rattle.rsb_integer.proofs.lemmas.Runs.{runs-along}
use Rattle.ip_sets.specs.Selection.{GiveEach}
use Rattle.ip_sets.proofs.lemmas.Selecting.{drop-least, first-agrees, give-first, give-others, selects-difference, take-least}
use Rattle.ip_sets.proofs.selection.except.Goals as goal

-- The first stream was taken from the others, if there is one.
pub returns-clause-selects : goal.returns-clause-selects
returns-clause-selects g c = λ sets each.
    let n = g.T.Integer.value_count in
    let may_give = g.I.Draw.may_give in
    let streams = c.args.streams.items in
    let at : c.min.result ≡ min (length streams) 1 =
    c.min.ensures ∙ ap (λ many. min many 1) (c.len.ensures ∙ c.args.streams.ok.0) in
    let first = subst (λ items. GiveEach may_give items (take 1 sets))
    (sym (c.in_ok-others.ensures.items ∙ take-least streams c.min.result at))
    (give-first may_give streams sets each) in
    let others = subst (λ items. GiveEach may_give items (drop 1 sets))
    (sym (c.in_ok-others.ensures.tail ∙ drop-least streams c.min.result at))
    (give-others may_give streams sets each) in
    λ runs may. runs-along n _ _ runs (first-agrees n sets)
    (selects-difference n (any_of (map members (take 1 sets))) (any_of (map members (drop 1 sets)))
    _ _ _ (c.in_ok-union.ensures.selects (take 1 sets) first)
    (c.in_ok-union-2.ensures.selects (drop 1 sets) others) c.difference.ensures.made.gives runs may)
