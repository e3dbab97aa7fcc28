use Rattle.std.specs.Iterator.{IsFinite, size}
use Rattle.rsb_streams.proofs.lemmas.questions.Counting.{CountedSoFar}
use Rattle.rsb_streams.proofs.sorted_disjoint.DrawDisjoint.members_len.Given as goal

abbrev pub invariant-loop-range : goal.invariant-loop-range
invariant-loop-range g l = record {
  ready : g.Self.Draw.can_draw l.stream;
  finite : IsFinite (g.Self.Draw.draws_left l.stream);
  counted : CountedSoFar (g.Self.Draw.may_give l.fn.self) (g.Self.Draw.may_give l.stream)
      (g.T.SafeLen.SafeLength.number l.length);
}

abbrev pub decreases-loop-range : goal.decreases-loop-range
decreases-loop-range g l = size (g.Self.Draw.draws_left l.stream)
