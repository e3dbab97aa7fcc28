use Rattle.std.proofs.Common.{ℕ, ◌≡◌, ◌≤◌, ◌-◌, ◌++◌, drop, length, List, Option}
use Rattle.ip_matches.specs.Progress.{HasKeptUpTo}
use Rattle.ip_matches.proofs.text.reading.add_lines.Given as goal

-- The lines before the rest were worked on.
abbrev pub invariant-loop-end : goal.invariant-loop-end
invariant-loop-end g l = (length l.rest ≤ length l.bytes)
    × (l.rest ≡ drop (length l.bytes - length l.rest) l.bytes)
    × ((all more : List ℕ) (start : Option (List ℕ))
    → HasKeptUpTo l.filter all start (l.bytes ++ more) (g.W.Write.contents l.initial.output)
    l.initial.progress
    → HasKeptUpTo l.filter all start (l.rest ++ more) (g.W.Write.contents l.output) l.progress)

abbrev pub decreases-loop-end : goal.decreases-loop-end
decreases-loop-end g l = length l.rest
