use Rattle.std.proofs.Common.{arith, subst, sym}
use Rattle.rsb_storage.specs.Storage.{IsKept}
use Rattle.range_set_blaze.proofs.lemmas.runs.Appended.{appended-fits, appended-kept}
use Rattle.range_set_blaze.proofs.set.disjoint_union.chained.Goals as goal

-- The lengths of both sets together fit in the type.
pub add_assign-requires : goal.add_assign-requires
add_assign-requires g c =
    let laws = g.met.T.Integer in
    let fits = appended-fits g.T.Integer.value_count c.low.inside.runs c.high.inside.runs
    c.low.invariant.canonical c.high.invariant.canonical _ _
    (rw (c.low.view_is, c.high.view_is) c.requires) c.low.invariant c.high.invariant in
    g.met.T.SafeLen.SafeLength.sum_allowed c.low.inside.length c.high.inside.length
    (omega (arith, fits, laws.lengths_suffice))

-- So they add up to the length of the union.
pub invariant_of-result : goal.invariant_of-result
invariant_of-result g c =
    let sum = g.met.T.SafeLen.SafeLength.sum_exact c.low.inside.length c.high.inside.length
    c.add_assign.new.self c.add_assign.ensures.after in
    subst (λ runs. IsKept g.T.Integer.value_count runs
    (g.T.SafeLen.SafeLength.number c.add_assign.new.self))
    (sym c.in_ok-runs.ensures)
    (appended-kept g.T.Integer.value_count c.low.inside.runs c.high.inside.runs
    c.low.invariant.canonical c.high.invariant.canonical _ _ _
    (rw (c.low.view_is, c.high.view_is) c.requires) c.low.invariant c.high.invariant sum)
