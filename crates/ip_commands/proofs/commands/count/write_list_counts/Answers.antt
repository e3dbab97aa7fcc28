use Rattle.ip_commands.proofs.lemmas.Count.{both-counted}
use Rattle.ip_commands.proofs.commands.count.write_list_counts.Goals as goal

-- Both families were counted.
pub returns-in_ok-write_v4_count-in-Both : goal.returns-in_ok-write_v4_count-in-Both
returns-in_ok-write_v4_count-in-Both g c =
    both-counted c.args.families c.args.list.now.v4 c.args.list.now.v6 c.write_v6_count.result _ _ _
    c.in-Both.is c.in_ok-write_v4_count-in-Both.ensures c.write_v6_count.ensures
