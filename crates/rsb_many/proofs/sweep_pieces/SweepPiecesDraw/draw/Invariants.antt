use Rattle.std.specs.Iterator.{size}
use Rattle.rsb_many.specs.MultiwaySweep.{events_left}
use Rattle.rsb_many.proofs.lemmas.pieces.Draw.{SoFar}
use Rattle.rsb_many.proofs.sweep_pieces.SweepPiecesDraw.draw.Given as goal

abbrev pub invariant-loop-event : goal.invariant-loop-event
invariant-loop-event g l = SoFar g.T.Integer g.I.Draw l.fn.self l.self

abbrev pub decreases-loop-event : goal.decreases-loop-event
decreases-loop-event g l = size (events_left g.T.Integer g.I.Draw l.self.sweep)
