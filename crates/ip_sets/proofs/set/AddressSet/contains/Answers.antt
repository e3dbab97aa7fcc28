use Rattle.std.proofs.Common.{◌∙◌, ap}
use Rattle.range_set_blaze.specs.Runs.{members}
use Rattle.ip_sets.specs.Pairs.{spans_of}
use Rattle.ip_sets.proofs.set.AddressSet.contains.Goals as goal

-- The runs are those of a set.
pub any_has-requires : goal.any_has-requires
any_has-requires g c = rw (c.deref.ensures.value) c.self.invariant

pub returns : goal.returns
returns g c =
    let rank = g.T.Integer.rank in
    rw (← c.self.view_is) (c.any_has.ensures
    ∙ ap (λ pairs. members (spans_of rank pairs) (rank c.args.address)) c.deref.ensures.value)
