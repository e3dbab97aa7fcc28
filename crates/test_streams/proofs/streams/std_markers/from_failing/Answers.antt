use Rattle.std.proofs.Common.{rules, subst, sym}
use Rattle.test_streams.proofs.streams.std_markers.from_failing.Goals as goal

-- `next` of the inner stream is its `draw`.
pub returns : goal.returns
returns g c = record {
  source = subst g.I.Draw.can_draw (sym c.skip_while.ensures.source) c.requires.stream;
  closure = search rules;
  drawn = g.met.I.SortedStarts.drawn;
}
