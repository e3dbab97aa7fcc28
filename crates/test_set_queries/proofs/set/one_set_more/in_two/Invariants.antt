use Rattle.std.proofs.Common.{map, take}
use Rattle.rsb_integer.specs.Runs.{members}
use Rattle.rsb_integer.specs.Selection.{at_least}
use Rattle.range_set_blaze.specs.Set.{IsSetOf}
use Rattle.test_set_queries.proofs.set.one_set_more.in_two.Given as goal

-- `once` has the members of at least 1 of the sets so far, and `twice` those of at least 2.
abbrev pub invariant-loop-set : goal.invariant-loop-set
invariant-loop-set l =
    IsSetOf l.once (at_least 1 (map members (take l.set-index l.sets)))
    × IsSetOf l.twice (at_least 2 (map members (take l.set-index l.sets)))
