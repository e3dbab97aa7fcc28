-- The runs that were passed are too short.
use Rattle.rsb_integer.specs.Rank.{intervals_of}
use Rattle.range_set_blaze.proofs.lemmas.fitting.FirstFits.{ArePassed}
use Rattle.range_set_c.proofs.long_run.first_run_from.Given as goal

abbrev pub invariant-loop-range : goal.invariant-loop-range
invariant-loop-range g l =
    (goal.iterator-loop-range g).can_next l.ranges
    × (goal.iterator-loop-range g).is_finite l.ranges
    × ArePassed g.T.Integer.value_count (g.T.SafeLen.SafeLength.number l.len)
    (intervals_of g.T.Integer.rank l.initial.ranges) (intervals_of g.T.Integer.rank l.ranges)
