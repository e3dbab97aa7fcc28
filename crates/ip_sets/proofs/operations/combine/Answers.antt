use Rattle.std.proofs.Common.{map}
use Rattle.ip_sets.proofs.operations.combine.Goals as goal

-- The streams give the runs of the lists.
pub returns-clause-v4 : goal.returns-clause-v4
returns-clause-v4 g c =
    c.in_ok-v4.ensures (map (λ list. list.v4) c.args.lists.now) c.in_ok-v4_streams.ensures.given

pub returns-clause-v6 : goal.returns-clause-v6
returns-clause-v6 g c =
    c.in_ok-v6.ensures (map (λ list. list.v6) c.args.lists.now) c.in_ok-v6_streams.ensures.given
