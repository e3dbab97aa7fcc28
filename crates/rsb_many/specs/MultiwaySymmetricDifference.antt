-- The values in an odd number of streams.
use Rattle.rsb_integer.specs.declared.integer.Integer.{Ghosts as Elements}
use Rattle.rsb_streams.specs.Rows.{stream_through}
use Rattle.rsb_streams.specs.declared.draw.Draw.{Ghosts as Stream}
use Rattle.rsb_many.specs.JoinedPieces.{joined_pieces}
use Rattle.rsb_many.specs.declared.multiway_sym_diff_set.MultiwaySymmetricDifference.{MultiwaySymmetricDifference}

module _ {T N I A : Type 0} (integer : Elements T N) (stream : Stream I T N) where
  -- The symmetric difference as a stream: the joined pieces of a sweep. A draw passes some events.
  abbrev pub multiway_symmetric_difference : Stream (MultiwaySymmetricDifference T I A N) T N
  multiway_symmetric_difference = stream_through (λ s. s.iter) (joined_pieces integer stream)
