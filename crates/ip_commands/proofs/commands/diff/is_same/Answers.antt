use Rattle.ip_commands.proofs.lemmas.Differing.{settled-same}
use Rattle.ip_commands.proofs.commands.diff.is_same.Goals as goal

-- The runs of the sets were compared.
pub returns : goal.returns
returns g c = settled-same c.equal.result g.T.Integer.value_count c.args.one.now c.args.other.now
    _ _ c.ranges-2.ensures.ranges c.ranges-3.ensures.ranges c.equal.ensures
