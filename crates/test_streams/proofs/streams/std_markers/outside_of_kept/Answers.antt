use Rattle.std.proofs.Common.{rules, subst, sym}
use Rattle.test_streams.proofs.streams.std_markers.outside_of_kept.Goals as goal

-- The filter is ready, because `next` of its stream is `draw`.
pub complement-requires : goal.complement-requires
complement-requires g c = record {
  source = subst g.I.Draw.can_draw (sym c.filter.ensures.source) c.requires.stream;
  closure = search rules;
  drawn = g.met.I.SortedStarts.drawn;
}
