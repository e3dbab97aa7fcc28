-- What the rest of the loop removes is all that has to be removed. If some piece starts inside,
-- `next` is the start of one.
use Rattle.std.proofs.Common.{◌≡◌, length, MatchOption}
use Rattle.range_map_blaze.specs.Storage.{without_inside, IsInside}
use Rattle.range_map_blaze.proofs.cut.remove_inside.Given as goal

abbrev pub invariant-loop-next : goal.invariant-loop-next
invariant-loop-next g l =
    let rank = g.T.Integer.rank in
    (without_inside (rank l.fn.first) (rank l.fn.last) l.pieces
    ≡ without_inside (rank l.fn.first) (rank l.fn.last) l.fn.pieces)
    × MatchOption l.next (without_inside (rank l.fn.first) (rank l.fn.last) l.pieces ≡ l.pieces)
    (λ start. IsInside l.pieces (rank l.fn.first) (rank l.fn.last) (rank start))

abbrev pub decreases-loop-next : goal.decreases-loop-next
decreases-loop-next g l = length l.pieces
