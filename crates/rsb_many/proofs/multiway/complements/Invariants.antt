use Rattle.std.proofs.Common.{All}
use Rattle.rsb_streams.specs.NotIter.{not_iter}
use Rattle.rsb_many.specs.MultiwayBegun.{AreComplements}
use Rattle.rsb_many.proofs.multiway.complements.Given as goal

-- The complements are those of the streams that came so far, and they are ready.
abbrev pub invariant-loop-stream : goal.invariant-loop-stream
invariant-loop-stream g l = record {
  ready : All (not_iter g.T.Integer g.I.Draw).can_draw l.gaps.items;
  made : AreComplements g.T.Integer g.I.Draw l.yielded l.gaps.items;
}
