-- What was taken, followed by what the stream may still give, is a list that it might give at
-- first. The lines of what was taken were laid.
use Rattle.std.proofs.Common.{List, ◌++◌}
use Rattle.std.specs.Iterator.{IsFinite, size}
use Rattle.range_set_blaze.specs.Runs.{Interval}
use Rattle.ip_commands.specs.Page.{Lays, LeavesSome}
use Rattle.ip_commands.specs.Text.{signed_ranges}
use Rattle.ip_commands.proofs.writing.lay_ranges.Given as goal

abbrev pub invariant-loop-range : goal.invariant-loop-range
invariant-loop-range g l = (taken : List Interval) × record {
  ready : g.I.Draw.can_draw l.ranges;
  finite : IsFinite (g.I.Draw.draws_left l.ranges);
  given : (rest : List Interval) → g.I.Draw.may_give l.ranges rest
      → g.I.Draw.may_give l.fn.ranges (taken ++ rest);
  laid : Lays (g.W.Write.contents l.initial.output) (g.W.Write.contents l.output)
      l.initial.page.items l.page.items (signed_ranges l.sign g.T.AddressText.text taken);
  leaves : LeavesSome l.page.items (signed_ranges l.sign g.T.AddressText.text taken);
}

abbrev pub decreases-loop-range : goal.decreases-loop-range
decreases-loop-range g l = size (g.I.Draw.draws_left l.ranges)
