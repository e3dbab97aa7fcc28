use Rattle.std.proofs.Common.{List, ◌++◌, map}
use Rattle.range_set_blaze.specs.MultiwaySweep.{sweep_may_give}
use Rattle.range_set_blaze.specs.Sweep.{event_of, Event}
use Rattle.rsb_examples.proofs.shifts.all_of.Given as goal

-- The events so far, followed by what may still come, might come from the sweep as it was.
abbrev pub invariant-loop-event : goal.invariant-loop-event
invariant-loop-event g l = (rest : List Event) → sweep_may_give g.T.Integer g.I.Draw l.sweep rest
    → sweep_may_give g.T.Integer g.I.Draw l.fn.sweep
    (map (event_of g.T.Integer.rank) l.told.items ++ rest)
