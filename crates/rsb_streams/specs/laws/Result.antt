-- The laws of the results of operations on streams: each is canonical.
use Rattle.rsb_integer.specs.declared.integer.Integer.{Ghosts as Elements}
use Rattle.rsb_streams.specs.Difference.{difference_row}
use Rattle.rsb_streams.specs.Intersection.{intersection_row}
use Rattle.rsb_streams.specs.Merge.{merge}
use Rattle.rsb_streams.specs.laws.Merge.{merge-sorted}
use Rattle.rsb_streams.specs.NotIter.{not_iter}
use Rattle.rsb_streams.specs.laws.NotIter.{not_iter-disjoint}
use Rattle.rsb_streams.specs.OddPieces.{odd_pieces}
use Rattle.rsb_streams.specs.laws.OddPieces.{odd_pieces-sorted}
use Rattle.rsb_streams.specs.laws.Stream.{disjoint-sorted}
use Rattle.rsb_streams.specs.Rows.{IsDisjoint, IsSorted}
use Rattle.rsb_streams.specs.SymDiffIter.{sym_diff}
use Rattle.rsb_streams.specs.Union.{union_row}
use Rattle.rsb_streams.specs.UnionIter.{union_iter}
use Rattle.rsb_streams.specs.laws.UnionIter.{union_iter-disjoint}
use Rattle.rsb_streams.specs.declared.draw.Draw.{Ghosts as Stream}

-- The complement of a stream is sorted by start.
not_iter-sorted : {T N S : Type 0} (integer : Elements T N) (stream : Stream S T N)
    → IsSorted integer stream → IsSorted integer (not_iter integer stream)
not_iter-sorted integer stream sorted = disjoint-sorted integer (not_iter integer stream)
    (not_iter-disjoint integer stream sorted)

module _ {T N L R : Type 0} (integer : Elements T N) (left : Stream L T N) (right : Stream R T N)
    (left_sorted : IsSorted integer left) (right_sorted : IsSorted integer right) where
  -- The joined merge of two streams is canonical.
  joined-disjoint : IsDisjoint integer (union_iter integer (merge integer left right))
  joined-disjoint = union_iter-disjoint integer (merge integer left right)
      (merge-sorted integer left right left_sorted right_sorted)

  -- So are its gaps.
  gaps-disjoint : IsDisjoint integer (not_iter integer (union_iter integer (merge integer left right)))
  gaps-disjoint =
      let both = union_iter integer (merge integer left right) in
      not_iter-disjoint integer both (disjoint-sorted integer both joined-disjoint)

  -- The union of two streams is canonical.
  pub union-disjoint : IsDisjoint integer (union_row integer left right)
  union-disjoint s = joined-disjoint s.iter

  -- The symmetric difference of two streams is canonical.
  pub sym_diff-disjoint : IsDisjoint integer (sym_diff integer left right)
  sym_diff-disjoint s =
      let both = merge integer left right in
      union_iter-disjoint integer (odd_pieces integer both) (odd_pieces-sorted integer both
      (merge-sorted integer left right left_sorted right_sorted)) s.iter

module _ {T N L R : Type 0} (integer : Elements T N) (left : Stream L T N) (right : Stream R T N)
    (left_sorted : IsSorted integer left) (right_sorted : IsSorted integer right) where
  -- The difference of two streams is canonical.
  pub difference-disjoint : IsDisjoint integer (difference_row integer left right)
  difference-disjoint s = gaps-disjoint integer (not_iter integer left) right
      (not_iter-sorted integer left left_sorted) right_sorted s.iter

  -- The intersection of two streams is canonical.
  pub intersection-disjoint : IsDisjoint integer (intersection_row integer left right)
  intersection-disjoint s = gaps-disjoint integer (not_iter integer left) (not_iter integer right)
      (not_iter-sorted integer left left_sorted) (not_iter-sorted integer right right_sorted) s.iter
