use Rattle.std.proofs.Common.{rules}
use Rattle.range_set_blaze.proofs.set.collect.by_reference.RangeSetBlazeExtendRefRangeInclusive.TheImpl.Goals as goal

-- The trait requires that the iterator ends.
pub extend-asks : goal.extend-asks
extend-asks g c = search (rules, c.requires)
