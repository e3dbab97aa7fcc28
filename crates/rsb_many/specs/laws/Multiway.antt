-- The laws of the results of operations on any number of streams: each result is canonical.
use Rattle.rsb_integer.specs.declared.integer.Integer.{Ghosts as Elements}
use Rattle.rsb_streams.specs.NotIter.{not_iter}
use Rattle.rsb_streams.specs.laws.NotIter.{not_iter-disjoint}
use Rattle.rsb_streams.specs.Rows.{IsDisjoint, IsSorted}
use Rattle.rsb_streams.specs.laws.Stream.{disjoint-sorted}
use Rattle.rsb_streams.specs.laws.UnionIter.{union_iter-disjoint}
use Rattle.rsb_streams.specs.declared.draw.Draw.{Ghosts as Stream}
use Rattle.rsb_many.specs.JoinedPieces.{joined_pieces}
use Rattle.rsb_many.specs.KMerge.{kmerge}
use Rattle.rsb_many.specs.laws.KMerge.{kmerge-sorted}
use Rattle.rsb_many.specs.MultiwayAtLeast.{multiway_at_least}
use Rattle.rsb_many.specs.MultiwayIntersection.{left_out, multiway_intersection}
use Rattle.rsb_many.specs.MultiwaySymmetricDifference.{multiway_symmetric_difference}
use Rattle.rsb_many.specs.MultiwayUnion.{multiway_union}
use Rattle.rsb_many.specs.SweepPieces.{sweep_pieces}
use Rattle.rsb_many.specs.laws.SweepPieces.{sweep_pieces-sorted}

-- The union of many streams is canonical.
pub multiway_union-disjoint : {T N I A : Type 0} (integer : Elements T N) (stream : Stream I T N)
    → IsSorted integer stream → IsDisjoint integer (multiway_union {A = A} integer stream)
multiway_union-disjoint integer stream sorted s = union_iter-disjoint integer (kmerge integer stream)
    (kmerge-sorted integer stream sorted) s.iter

-- The intersection of many streams is canonical.
pub multiway_intersection-disjoint : {T N I A : Type 0} (integer : Elements T N)
    (stream : Stream I T N) → IsSorted integer stream
    → IsDisjoint integer (multiway_intersection {A = A} integer stream)
multiway_intersection-disjoint integer stream sorted s =
    let gaps = not_iter integer stream in
    let outside = left_out integer stream in
    not_iter-disjoint integer outside (disjoint-sorted integer outside
    (multiway_union-disjoint integer gaps (disjoint-sorted integer gaps
    (not_iter-disjoint integer stream sorted)))) s.iter

-- The joined pieces of a sweep are canonical.
joined_pieces-disjoint : {T N I A : Type 0} (integer : Elements T N) (stream : Stream I T N)
    → IsDisjoint integer (joined_pieces {A = A} integer stream)
joined_pieces-disjoint integer stream s ready =
    union_iter-disjoint integer (sweep_pieces integer stream) (sweep_pieces-sorted integer stream) s
    ready.union

-- What lies in an odd number of streams is canonical.
pub multiway_symmetric_difference-disjoint : {T N I A : Type 0} (integer : Elements T N)
    (stream : Stream I T N)
    → IsDisjoint integer (multiway_symmetric_difference {A = A} integer stream)
multiway_symmetric_difference-disjoint integer stream s ready =
    joined_pieces-disjoint integer stream s.iter ready

-- What lies in at least a given number of streams is canonical.
pub multiway_at_least-disjoint : {T N I A : Type 0} (integer : Elements T N) (stream : Stream I T N)
    → IsDisjoint integer (multiway_at_least {A = A} integer stream)
multiway_at_least-disjoint integer stream s ready =
    joined_pieces-disjoint integer stream s.iter ready
