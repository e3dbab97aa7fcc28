use Rattle.std.proofs.Common.{Ok, take}
use Rattle.std.specs.Prelude.{flat_map}
use Rattle.rsb_commands.specs.Page.{Lays}
use Rattle.rsb_commands.specs.Text.{next_range_text}
use Rattle.rsb_commands.proofs.text.write_others.Given as goal

-- The ranges before this one were laid.
abbrev pub invariant-loop-range : goal.invariant-loop-range
invariant-loop-range g l =
    Lays g.W.Write.contents l.initial.page l.page (Ok tt)
    (flat_map next_range_text (take l.range-index l.ranges))
