use Rattle.std.proofs.Common.{◌≡◌, ◌+◌, ◌≤◌, drop, length}
use Rattle.std.specs.Net.Text.{longest_zero_run, zero_run}
use Rattle.ip_commands.proofs.text.v6.longest_zero_run.Given as goal

-- the zeros that the segments from here on begin with, and their longest run of zeros
abbrev pub invariant-loop-at : goal.invariant-loop-at
invariant-loop-at l =
    (l.run ≡ zero_run (drop l.at l.segments))
    × (l.longest ≡ (longest_zero_run (drop l.at l.segments)).1)
    × (l.start ≡ l.at + (longest_zero_run (drop l.at l.segments)).0)
    × (l.at + l.run ≤ length l.segments) × (l.start + l.longest ≤ length l.segments)
