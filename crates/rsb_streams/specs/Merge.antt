-- The merge of two streams by the starts of their ranges.
use Rattle.std.specs.Iterator.{count_add}
use Rattle.rsb_integer.specs.declared.integer.Integer.{Ghosts as Elements}
use Rattle.rsb_streams.specs.Lookahead.{at_side, AreUndrawn, AsksOne, Input, Left, Right, Side}
use Rattle.rsb_streams.specs.PutBack.{input_of, put_back}
use Rattle.rsb_streams.specs.Rows.{stream_asking}
use Rattle.rsb_streams.specs.Stream.{merges}
use Rattle.rsb_streams.specs.declared.draw.Draw.{Ghosts as Stream}
use Rattle.rsb_streams.specs.declared.merge.Merge.{Merge}

module _ {T N L R : Type 0} (integer : Elements T N) (lefts : Stream L T N)
    (rights : Stream R T N) where
  -- Whether both streams are ready.
  pub record MergeReady (s : Merge T L R) : Type 0 where
    pub left : (put_back integer lefts).can_draw s.left
    pub right : (put_back integer rights).can_draw s.right

  -- Both streams, as inputs.
  abbrev pub merge_inputs : Merge T L R → Side → Input
  merge_inputs s Left = input_of integer lefts s.left
  merge_inputs s Right = input_of integer rights s.right

  -- The merge: what is held of both streams and what is still to come, sorted by start. A draw
  -- takes one range of one stream. At most as many are left as in both streams together, including
  -- those held.
  abbrev pub merge : Stream (Merge T L R) T N
  merge = stream_asking integer (AsksOne integer.rank merge_inputs) MergeReady
      (λ s. count_add ((put_back integer lefts).draws_left s.left)
      ((put_back integer rights).draws_left s.right))
      (λ s. merges integer.value_count ((put_back integer lefts).may_give s.left)
      ((put_back integer rights).may_give s.right))

  -- Whether nothing has been drawn yet from the two streams that are merged.
  abbrev pub MergesUndrawn : L → R → Merge T L R → Type 0
  MergesUndrawn left right s =
      AreUndrawn (at_side (lefts.may_give left) (rights.may_give right)) (merge_inputs s)
