use Rattle.std.proofs.Common.{◌+◌, length}
use Rattle.ip_matches.specs.Transfer.{HasWritten}
use Rattle.ip_matches.proofs.page.write_all.Given as goal

abbrev pub invariant-loop-rest : goal.invariant-loop-rest
invariant-loop-rest g l =
    HasWritten (g.W.Write.contents l.initial.output) (g.W.Write.contents l.output) l.bytes l.rest

-- Each iteration writes at least one byte or uses up some of the patience.
abbrev pub decreases-loop-rest : goal.decreases-loop-rest
decreases-loop-rest g l = length l.rest + l.patience
