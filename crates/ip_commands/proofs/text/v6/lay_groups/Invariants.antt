use Rattle.std.proofs.Common.{◌≡◌, ◌+◌, ◌*◌, ◌≤◌, ◌∷◌, ◌++◌, get_or, length, take}
use Rattle.std.specs.Net.Text.{groups_text}
use Rattle.ip_commands.proofs.text.v6.lay_groups.Given as goal

-- the segments before this one were added
abbrev pub invariant-loop-segment : goal.invariant-loop-segment
invariant-loop-segment l =
    (l.page.items ≡ l.fn.page.items
    ++ groups_text (get_or l.segments 0 0 ∷ take l.segment-index l.others))
    × (length l.page.items ≤ length l.fn.page.items + 4 + 5 * l.segment-index)
