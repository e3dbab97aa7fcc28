use Rattle.std.proofs.Common.{◌∙◌, ◌∷◌, ap, refl, subst, None, rules, sym}
use Rattle.std.proofs.lemmas.List.{nil_from_length}
use Rattle.std.specs.Slice.Iter.{iter_rest}
use Rattle.rsb_integer.specs.Rank.{intervals_of}
use Rattle.rsb_storage.specs.Storage.{run_of}
use Rattle.rsb_storage.proofs.lemmas.gathering.InOrder.{begun-all, begun-first, begun-fits, begun-next, IsBegun}
use Rattle.range_set_blaze.proofs.set.collect.sorted.length_in_order.Goals as goal

pub loop-range-init : goal.loop-range-init
loop-range-init g c =
    let rank = g.T.Integer.rank in
    let n = g.T.Integer.value_count in
    let all = intervals_of rank c.args.ranges.now in
    subst (λ rest. IsBegun rank n all (intervals_of rank rest) None
    (g.T.SafeLen.SafeLength.number c.zero-length.result)) (sym c.iter-rest.ensures.rest)
    (begun-first rank n all _ (ap g.T.SafeLen.SafeLength.number c.zero-length.ensures
    ∙ g.met.T.SafeLen.SafeLength.zero_is_0))

-- The range is the first of those to come.
pub add_length-requires-clause-fits : goal.add_length-requires-clause-fits
add_length-requires-clause-fits g c =
    let rank = g.T.Integer.rank in
    let rest = intervals_of rank (iter_rest c.next.new.self) in
    begun-fits rank g.T.Integer.value_count (intervals_of rank c.args.ranges.now)
    (intervals_of rank (iter_rest c.loop-range.rest)) rest (run_of rank c.in_ok-run.run')
    (ap (intervals_of rank) c.in-Some.ensures.steps
    ∙ ap (λ run. run ∷ rest) (sym c.in_ok-run.ensures.run))
    c.loop-range.previous _ c.loop-range.invariant
    (c.is_past.ensures.0 (search rules)) c.in_ok-run.ensures.some c.in_ok-run.ensures.value

pub loop-range-preserved : goal.loop-range-preserved
loop-range-preserved g c =
    let rank = g.T.Integer.rank in
    let rest = intervals_of rank (iter_rest c.next.new.self) in
    begun-next rank g.T.Integer.value_count (intervals_of rank c.args.ranges.now)
    (intervals_of rank (iter_rest c.loop-range.rest)) rest (run_of rank c.in_ok-run.run')
    (ap (intervals_of rank) c.in-Some.ensures.steps
    ∙ ap (λ run. run ∷ rest) (sym c.in_ok-run.ensures.run))
    c.loop-range.previous _ c.loop-range.invariant
    (c.is_past.ensures.0 (search rules)) c.in_ok-run.ensures.some c.in_ok-run.ensures.value
    c.in_ok-run.run'.end _ refl c.add_length.ensures

-- If no range is left, all of them were tested.
pub returns : goal.returns
returns g c =
    let rank = g.T.Integer.rank in
    let n = g.T.Integer.value_count in
    let all = intervals_of rank c.args.ranges.now in
    begun-all rank n all c.loop-range.previous _
    (subst (λ rest. IsBegun rank n all (intervals_of rank rest) c.loop-range.previous
    (g.T.SafeLen.SafeLength.number c.loop-range.length))
    (nil_from_length (iter_rest c.loop-range.rest) c.in_default.ensures.steps.0)
    c.loop-range.invariant)
