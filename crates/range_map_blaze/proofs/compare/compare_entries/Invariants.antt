-- What is left of both maps has their order.
use Rattle.std.proofs.Common.{◌+◌}
use Rattle.range_map_blaze.specs.Storage.{pieces_of}
use Rattle.range_map_blaze.proofs.lemmas.Comparing.{left_length, IsComparing}
use Rattle.range_map_blaze.proofs.compare.compare_entries.Given as goal

abbrev pub invariant-loop-piece : goal.invariant-loop-piece
invariant-loop-piece g l =
    let rank = g.T.Integer.rank in
    let seen = g.V.MapValue.seen in
    IsComparing rank seen g.T.Integer.value_count g.V.Ord.cmp (pieces_of rank seen l.fn.left)
    (pieces_of rank seen l.fn.right) l.piece (pieces_of rank seen l.left) l.other
    (pieces_of rank seen l.right)

abbrev pub decreases-loop-piece : goal.decreases-loop-piece
decreases-loop-piece g l =
    let rank = g.T.Integer.rank in
    let seen = g.V.MapValue.seen in
    left_length rank seen l.piece (pieces_of rank seen l.left)
    + left_length rank seen l.other (pieces_of rank seen l.right)
