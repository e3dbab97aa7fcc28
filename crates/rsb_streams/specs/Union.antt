-- The union of two streams.
use Rattle.rsb_integer.specs.declared.integer.Integer.{Ghosts as Elements}
use Rattle.rsb_streams.specs.Lookahead.{at_side, same_side, Input, Side}
use Rattle.rsb_streams.specs.Merge.{merge, merge_inputs}
use Rattle.rsb_streams.specs.Rows.{stream_asking}
use Rattle.rsb_streams.specs.UnionIter.{joined_inputs, union_iter, AsksAhead, JoinsUndrawn}
use Rattle.rsb_streams.specs.declared.draw.Draw.{Ghosts as Stream}
use Rattle.rsb_streams.specs.declared.merge.Merge.{Merge}
use Rattle.rsb_streams.specs.declared.operation_results.union.Union.{Union}
use Rattle.rsb_streams.specs.declared.union_iter.UnionIter.{UnionIter}

module _ {T N L R : Type 0} (integer : Elements T N) (left : Stream L T N)
    (right : Stream R T N) where
  -- The joined merge of two streams.
  abbrev pub joined_merge : Stream (UnionIter T (Merge T L R)) T N
  joined_merge = union_iter integer (merge integer left right)

  -- The union: a draw looks at most one range ahead in each stream.
  abbrev pub union_row : Stream (Union T L R) T N
  union_row = stream_asking integer
      (λ s item t. AsksAhead same_side integer (merge_inputs integer left right) s.iter item t.iter)
      (λ s. joined_merge.can_draw s.iter)
      (λ s. joined_merge.draws_left s.iter)
      (λ s. joined_merge.may_give s.iter)

  -- The inputs of the union, if the range that it holds came from the given side.
  abbrev pub union_inputs : Side → Union T L R → Side → Input
  union_inputs from s = joined_inputs same_side integer (merge_inputs integer left right) from s.iter

  -- Whether nothing has been drawn yet from the two streams of a joined merge.
  abbrev pub UnitesUndrawn : L → R → UnionIter T (Merge T L R) → Type 0
  UnitesUndrawn one other s = JoinsUndrawn same_side integer (merge_inputs integer left right)
      (at_side (left.may_give one) (right.may_give other)) s
