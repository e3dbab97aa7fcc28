use Rattle.std.proofs.Common.{ℕ, ◌≤◌, Option, length}
use Rattle.ip_sets.specs.Address.{IsV4}
use Rattle.ip_sets.specs.LineParts.{Reads, parts}
use Rattle.ip_matches.specs.FoundAddress.{IsFirst}
use Rattle.ip_matches.proofs.address.first_v4_address.Given as goal

-- What is first in the rest is first in the whole.
abbrev pub invariant-loop-end : goal.invariant-loop-end
invariant-loop-end l = (length l.rest ≤ length l.word)
    × ((result : Option ℕ) → Reads result (IsFirst IsV4 (parts 58 l.rest))
    → Reads result (IsFirst IsV4 (parts 58 l.word)))

abbrev pub decreases-loop-end : goal.decreases-loop-end
decreases-loop-end l = length l.rest
