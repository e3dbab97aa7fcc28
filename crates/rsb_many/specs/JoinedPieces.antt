-- The pieces that a rule selects from the inputs of a sweep, joined.
use Rattle.std.specs.Prelude.{ℕ, List, length}
use Rattle.rsb_integer.specs.declared.integer.Integer.{Ghosts as Elements}
use Rattle.rsb_streams.specs.Rows.{stream_asking}
use Rattle.rsb_streams.specs.Stream.{◌⊆◌}
use Rattle.rsb_streams.specs.UnionIter.{union_iter}
use Rattle.rsb_streams.specs.declared.draw.Draw.{Ghosts as Stream}
use Rattle.rsb_streams.specs.declared.union_iter.UnionIter.{UnionIter}
use Rattle.rsb_many.specs.Many.{may_give_at, runs_by_all, HoldOneAtMost, IsBegun}
use Rattle.rsb_many.specs.Rule.{selected_by}
use Rattle.rsb_many.specs.SweepPieces.{pieces_telling, sweep_pieces, unless_all_ended, PassesSome, Telling}
use Rattle.rsb_many.specs.declared.sweep_pieces.Rule.{Rule}
use Rattle.rsb_many.specs.declared.sweep_pieces.SweepPieces.{SweepPieces}

module _ {T N I A : Type 0} (integer : Elements T N) (stream : Stream I T N) where
  -- The union of the pieces.
  abbrev pub pieces_union : Stream (UnionIter T (SweepPieces T I A N)) T N
  pieces_union = union_iter integer (sweep_pieces integer stream)

  -- The inputs of the sweep and the events that it may still give. Once it is done, none come.
  abbrev pub joined_telling : UnionIter T (SweepPieces T I A N) → Telling
  joined_telling s = unless_all_ended s.iter.done (pieces_telling integer stream s.iter.iter)

  -- Whether the union is ready and at most one range of each input is held.
  pub record JoinedReady (s : UnionIter T (SweepPieces T I A N)) : Type 0 where
    pub union : pieces_union.can_draw s
    pub holds : HoldOneAtMost (joined_telling s).inputs

  -- The joined pieces as a stream. A draw passes some events.
  abbrev pub joined_pieces : Stream (UnionIter T (SweepPieces T I A N)) T N
  joined_pieces = stream_asking integer
      (λ s item t. PassesSome (joined_telling s) (joined_telling t))
      JoinedReady pieces_union.draws_left pieces_union.may_give

  -- Whether `result` is ready and gives only runs of what the rule selects from the streams, and at
  -- most one range of each is drawn.
  pub record BeginsJoined (rule : Rule) (streams : List I) (result : UnionIter T (SweepPieces T I A N))
      : Type 0 where
    pub ready : joined_pieces.can_draw result
    pub gives : joined_pieces.may_give result ⊆ runs_by_all integer.value_count (selected_by rule)
        (length streams) (may_give_at stream.may_give streams)
    pub begun : (place : ℕ) → IsBegun (may_give_at stream.may_give streams place)
        ((joined_telling result).inputs place)
