-- The values in all of the given streams.
use Rattle.std.specs.Prelude.{ℕ, Option}
use Rattle.std.specs.declared.ops.RangeInclusive.{RangeInclusive}
use Rattle.rsb_integer.specs.Rank.{intervals_of}
use Rattle.rsb_integer.specs.declared.integer.Integer.{Ghosts as Elements}
use Rattle.rsb_streams.specs.Lookahead.{Input}
use Rattle.rsb_streams.specs.NotIter.{not_iter, PassesOver}
use Rattle.rsb_streams.specs.Rows.{stream_asking}
use Rattle.rsb_streams.specs.declared.draw.Draw.{Ghosts as Stream}
use Rattle.rsb_streams.specs.declared.not_iter.NotIter.{NotIter}
use Rattle.rsb_many.specs.Many.{HoldOneAtMost, UsesWithin}
use Rattle.rsb_many.specs.MultiwayUnion.{multiway_union, multiway_union_inputs}
use Rattle.rsb_many.specs.declared.operation_results.multiway_intersection.MultiwayIntersection.{MultiwayIntersection}
use Rattle.rsb_many.specs.declared.operation_results.multiway_union.MultiwayUnion.{MultiwayUnion}

module _ {T N I A : Type 0} (integer : Elements T N) (stream : Stream I T N) where
  -- What at least one of the streams leaves out: the union of their complements.
  abbrev pub left_out : Stream (MultiwayUnion T (NotIter T I) A N) T N
  left_out = multiway_union integer (not_iter integer stream)

  -- The gaps of that union.
  abbrev pub not_left_out : Stream (NotIter T (MultiwayUnion T (NotIter T I) A N)) T N
  not_left_out = not_iter integer left_out

  -- The inputs of an intersection: the complements of the streams. The range that their union holds
  -- is counted as one from the place `from`.
  abbrev pub multiway_intersection_inputs : ℕ → MultiwayIntersection T I A N → ℕ → Input
  multiway_intersection_inputs from s =
      multiway_union_inputs integer (not_iter integer stream) from s.iter.iter

  -- Whether a draw passes over some ranges of the union. If at most one range of each input was
  -- held, that is still so, and each range of an input that was used lies within one of those
  -- passed over.
  pub record AsksOfAll (s : MultiwayIntersection T I A N) (item : Option (RangeInclusive T))
      (t : MultiwayIntersection T I A N) : Type 0 where
    pub passes : PassesOver integer left_out s.iter item t.iter
    pub uses : (from : ℕ) → HoldOneAtMost (multiway_intersection_inputs from s)
        → (now_from : ℕ) × ((place : ℕ) → UsesWithin (intervals_of integer.rank passes.used)
        (multiway_intersection_inputs from s place) (multiway_intersection_inputs now_from t place))

  -- The intersection as a stream: the gaps of what at least one of the streams leaves out.
  abbrev pub multiway_intersection : Stream (MultiwayIntersection T I A N) T N
  multiway_intersection = stream_asking integer AsksOfAll
      (λ s. not_left_out.can_draw s.iter)
      (λ s. not_left_out.draws_left s.iter)
      (λ s. not_left_out.may_give s.iter)
