use Rattle.std.proofs.Common.{◌≡◌, ◌≤◌, [], get_or, length}
use Rattle.ip_matches.specs.LineFilter.{fields}
use Rattle.ip_matches.proofs.filter.nth_field.Given as goal

-- The field is one of the rest.
abbrev pub invariant-loop-end : goal.invariant-loop-end
invariant-loop-end l = (length l.rest ≤ length l.line)
    × (get_or (fields l.line) l.number [] ≡ get_or (fields l.rest) l.left [])

abbrev pub decreases-loop-end : goal.decreases-loop-end
decreases-loop-end l = length l.rest
