use Rattle.std.proofs.Common.{◌-◌}
use Rattle.ip_sets.specs.Groups.{AreGroups}
use Rattle.ip_sets.proofs.line.groups.read_groups.Given as goal

-- The groups so far were read.
abbrev pub invariant-reading : goal.invariant-reading
invariant-reading l = AreGroups l.bytes l.read

abbrev pub decreases-reading : goal.decreases-reading
decreases-reading l = 8 - l.read.count
