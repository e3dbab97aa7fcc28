-- What operations on streams return: the result is ready, and gives only the runs of what the
-- operation selects. Methods, operators and `From` cite the same definitions, records of two facts,
-- which the proof search takes apart quickly.
use Rattle.rsb_integer.specs.declared.integer.Integer.{Ghosts as Elements}
use Rattle.rsb_streams.specs.Stream.{GivesComplement, GivesDifference, GivesIntersection, GivesSymmetricDifference, GivesUnion, IsReadyAnd}
use Rattle.rsb_streams.specs.NotIter.{ComplementsUndrawn}
use Rattle.rsb_streams.specs.Union.{UnitesUndrawn}
use Rattle.rsb_streams.specs.declared.draw.Draw.{Ghosts as Stream}
use Rattle.rsb_streams.specs.declared.merge.Merge.{Merge}
use Rattle.rsb_streams.specs.declared.not_iter.NotIter.{NotIter}
use Rattle.rsb_streams.specs.declared.operation_results.union.Union.{Union}
use Rattle.rsb_streams.specs.declared.union_iter.UnionIter.{UnionIter}

module _ {T N I : Type 0} (integer : Elements T N) (stream : Stream I T N)
    (row : Stream (NotIter T I) T N) (of : I) (result : NotIter T I) where
  -- Whether the result is the complement of a stream.
  abbrev pub MakesComplement : Type 0
  MakesComplement = IsReadyAnd row.can_draw result
      (GivesComplement integer.value_count (stream.may_give of) (row.may_give result))

  -- Whether it is, and nothing has been drawn yet from the stream.
  pub record MakesComplementUndrawn : Type 0 where
    pub made : MakesComplement
    pub undrawn : ComplementsUndrawn of result

-- Whether both streams are ready.
abbrev pub CanDrawBoth : {T N L R : Type 0} → Stream L T N → Stream R T N → L → R → Type 0
CanDrawBoth left right one other = left.can_draw one × right.can_draw other

module _ {T N L R O : Type 0} (integer : Elements T N) (left : Stream L T N) (right : Stream R T N)
    (row : Stream O T N) (one : L) (other : R) (result : O) where
  -- Whether the result is the union of two streams.
  abbrev pub MakesUnion : Type 0
  MakesUnion = IsReadyAnd row.can_draw result (GivesUnion integer.value_count
      (left.may_give one) (right.may_give other) (row.may_give result))

  -- Whether the result is the intersection of two streams.
  abbrev pub MakesIntersection : Type 0
  MakesIntersection = IsReadyAnd row.can_draw result (GivesIntersection integer.value_count
      (left.may_give one) (right.may_give other) (row.may_give result))

  -- Whether the result is the difference of two streams.
  abbrev pub MakesDifference : Type 0
  MakesDifference = IsReadyAnd row.can_draw result (GivesDifference integer.value_count
      (left.may_give one) (right.may_give other) (row.may_give result))

  -- Whether the result is the symmetric difference of two streams.
  abbrev pub MakesSymmetricDifference : Type 0
  MakesSymmetricDifference = IsReadyAnd row.can_draw result
      (GivesSymmetricDifference integer.value_count
      (left.may_give one) (right.may_give other) (row.may_give result))

module _ {T N L R : Type 0} (integer : Elements T N) (left : Stream L T N) (right : Stream R T N)
  where
    -- Whether the result is the union of two streams, and nothing has been drawn yet from them.
    pub record MakesUnionUndrawn (row : Stream (Union T L R) T N) (one : L) (other : R)
        (result : Union T L R) : Type 0 where
      pub made : MakesUnion integer left right row one other result
      pub undrawn : UnitesUndrawn integer left right one other result.iter

    -- The same, for a union that is built from a merge.
    pub record MakesUnionIterUndrawn (row : Stream (UnionIter T (Merge T L R)) T N) (one : L)
        (other : R) (result : UnionIter T (Merge T L R)) : Type 0 where
      pub made : MakesUnion integer left right row one other result
      pub undrawn : UnitesUndrawn integer left right one other result
