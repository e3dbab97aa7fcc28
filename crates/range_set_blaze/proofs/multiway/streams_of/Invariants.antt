use Rattle.std.proofs.Common.{◌≡◌, map, All}
use Rattle.range_set_blaze.proofs.multiway.streams_of.Given as goal

-- The streams give the runs of the sets that came so far.
abbrev pub invariant-loop-set : goal.invariant-loop-set
invariant-loop-set g l = record {
  ready : All g.S.Stream.Draw.can_draw l.streams.items;
  given : map g.S.GivesRuns.given l.streams.items ≡ g.S.GivesRuns.shown l.yielded;
}
