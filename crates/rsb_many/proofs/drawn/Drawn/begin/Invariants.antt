use Rattle.std.proofs.Common.{◌-◌, length}
use Rattle.rsb_many.specs.Drawn.{IsBegunTo}
use Rattle.rsb_many.proofs.drawn.Drawn.begin.Given as goal

-- The first range is drawn from each stream before `place`.
abbrev pub invariant-loop-place : goal.invariant-loop-place
invariant-loop-place g l =
    IsBegunTo g.T.Integer g.I.Draw l.fn.self.streams.items l.place l.self

abbrev pub decreases-loop-place : goal.decreases-loop-place
decreases-loop-place g l = length l.self.streams.items - l.place
