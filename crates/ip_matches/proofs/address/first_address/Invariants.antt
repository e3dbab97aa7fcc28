use Rattle.std.proofs.Common.{ℕ, ◌≤◌, Option, length}
use Rattle.ip_sets.specs.LineParts.{Reads}
use Rattle.ip_matches.specs.FoundAddress.{IsFirstAddress}
use Rattle.ip_matches.specs.declared.address.FoundAddress.{FoundAddress}
use Rattle.ip_matches.proofs.address.first_address.Given as goal

-- What is first in the rest is first in the whole.
abbrev pub invariant-loop-end : goal.invariant-loop-end
invariant-loop-end l = (length l.rest ≤ length l.text)
    × ((result : Option FoundAddress) → Reads result (IsFirstAddress l.rest)
    → Reads result (IsFirstAddress l.text))

abbrev pub decreases-loop-end : goal.decreases-loop-end
decreases-loop-end l = length l.rest
