use Rattle.std.proofs.Common.{◌-◌}
use Rattle.range_set_bytes.proofs.lengths.+number_by.Given as goal

-- The weight doubles, and is at most the length.
abbrev pub decreases-number_by : goal.decreases-number_by
decreases-number_by g l = g.L.SafeLength.number l.length - l.weight
