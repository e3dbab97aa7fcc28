use Rattle.std.proofs.Common.{◌-◌, length}
use Rattle.rsb_streams.specs.OutOfPlace.{gap_of}
use Rattle.rsb_streams.proofs.lemmas.checking.FirstFault.{IsChecked}
use Rattle.rsb_streams.proofs.out_of_place.first_bad.Given as goal

abbrev pub invariant-loop-range : goal.invariant-loop-range
invariant-loop-range g l =
    IsChecked g.T.Integer.rank (gap_of l.fn.spacing) g.T.Integer.value_count l.fn.ranges l.position
    l.previous

abbrev pub decreases-loop-range : goal.decreases-loop-range
decreases-loop-range g l = length l.fn.ranges - l.position
