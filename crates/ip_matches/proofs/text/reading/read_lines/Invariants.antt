use Rattle.std.proofs.Common.{ℕ, List, Option}
use Rattle.ip_matches.specs.Progress.{HasKeptTo}
use Rattle.ip_matches.proofs.text.reading.read_lines.Given as goal

-- The lines that were read were worked on.
abbrev pub invariant-loop : goal.invariant-loop
invariant-loop g l = (bytes : List ℕ) (start : Option (List ℕ))
    → HasKeptTo l.filter bytes start (g.R.Read.remaining l.initial.input)
    (g.W.Write.contents l.initial.output) l.initial.progress
    → HasKeptTo l.filter bytes start (g.R.Read.remaining l.input) (g.W.Write.contents l.output)
    l.progress
