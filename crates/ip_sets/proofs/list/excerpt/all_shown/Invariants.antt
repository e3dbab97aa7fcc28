use Rattle.std.proofs.Common.{◌≡◌, ◌*◌, ◌≤◌, length, take}
use Rattle.ip_sets.specs.Excerpt.{shown}
use Rattle.ip_sets.proofs.list.excerpt.all_shown.Given as goal

-- The bytes so far are shown.
abbrev pub invariant-loop-byte : goal.invariant-loop-byte
invariant-loop-byte l = (l.all.bytes ≡ shown (take l.byte-index l.text))
    × (length l.all.bytes ≤ 4 * l.byte-index)
