-- Results of operations on any number of streams that were just built. Each says what the result
-- gives, and that at most one range has been drawn from each of the same streams
-- (docs/DECISIONS.md, begun-with-made).
use Rattle.std.specs.Prelude.{ℕ, List, [], ◌∷◌}
use Rattle.rsb_integer.specs.declared.integer.Integer.{Ghosts as Elements}
use Rattle.rsb_streams.specs.NotIter.{not_iter}
use Rattle.rsb_streams.specs.Results.{MakesComplementUndrawn}
use Rattle.rsb_streams.specs.declared.draw.Draw.{Ghosts as Stream}
use Rattle.rsb_streams.specs.declared.not_iter.NotIter.{NotIter}
use Rattle.rsb_many.specs.JoinedPieces.{joined_telling}
use Rattle.rsb_many.specs.Many.{may_give_at, IsBegun}
use Rattle.rsb_many.specs.MultiwayAtLeast.{MakesMultiwayAtLeast}
use Rattle.rsb_many.specs.MultiwayIntersection.{multiway_intersection_inputs}
use Rattle.rsb_many.specs.MultiwayResults.{MakesMultiwayIntersection, MakesMultiwaySymmetricDifference, MakesMultiwayUnion}
use Rattle.rsb_many.specs.MultiwayUnion.{multiway_union_inputs}
use Rattle.rsb_many.specs.declared.multiway_at_least.MultiwayAtLeast.{MultiwayAtLeast}
use Rattle.rsb_many.specs.declared.multiway_sym_diff_set.MultiwaySymmetricDifference.{MultiwaySymmetricDifference}
use Rattle.rsb_many.specs.declared.operation_results.multiway_intersection.MultiwayIntersection.{MultiwayIntersection}
use Rattle.rsb_many.specs.declared.operation_results.multiway_union.MultiwayUnion.{MultiwayUnion}

module _ {T N I : Type 0} (integer : Elements T N) (stream : Stream I T N) where
  -- Whether the second list has the complements of the streams in the first, with nothing drawn
  -- from them.
  abbrev pub AreComplements : List I → List (NotIter T I) → Type 0
  AreComplements [] [] = Unit {0}
  AreComplements [] (gap ∷ gaps) = ⊥
  AreComplements (of ∷ streams) [] = ⊥
  AreComplements (of ∷ streams) (gap ∷ gaps) =
      MakesComplementUndrawn integer stream (not_iter integer stream) of gap
      × AreComplements streams gaps

  module _ {A : Type 0} where
    -- Whether the result is the union of the streams, and at most one range of each is drawn.
    pub record BeginsUnion (row : Stream (MultiwayUnion T I A N) T N) (streams : List I)
        (result : MultiwayUnion T I A N) : Type 0 where
      pub made : MakesMultiwayUnion integer stream row streams result
      pub begun : (from place : ℕ) → IsBegun (may_give_at stream.may_give streams place)
          (multiway_union_inputs integer stream from result place)

    -- Whether the result is the intersection of the streams, and at most one gap of each is drawn.
    pub record BeginsIntersection (row : Stream (MultiwayIntersection T I A N) T N)
        (streams : List I) (result : MultiwayIntersection T I A N) : Type 0 where
      pub made : MakesMultiwayIntersection integer stream row streams result
      pub gaps : List (NotIter T I)
      pub complements : AreComplements streams gaps
      pub begun : (from place : ℕ)
          → IsBegun (may_give_at (not_iter integer stream).may_give gaps place)
          (multiway_intersection_inputs integer stream from result place)

    -- Whether the result is what lies in an odd number of the streams, and at most one range of
    -- each is drawn.
    pub record BeginsSymmetricDifference
        (row : Stream (MultiwaySymmetricDifference T I A N) T N) (streams : List I)
        (result : MultiwaySymmetricDifference T I A N) : Type 0 where
      pub made : MakesMultiwaySymmetricDifference integer stream row streams result
      pub begun : (place : ℕ) → IsBegun (may_give_at stream.may_give streams place)
          ((joined_telling integer stream result.iter).inputs place)

    -- Whether the result is what lies in at least `least` of the streams, and at most one range of
    -- each is drawn.
    pub record BeginsAtLeast (least : ℕ) (row : Stream (MultiwayAtLeast T I A N) T N)
        (streams : List I) (result : MultiwayAtLeast T I A N) : Type 0 where
      pub made : MakesMultiwayAtLeast integer stream least row streams result
      pub begun : (place : ℕ) → IsBegun (may_give_at stream.may_give streams place)
          ((joined_telling integer stream result.iter).inputs place)
