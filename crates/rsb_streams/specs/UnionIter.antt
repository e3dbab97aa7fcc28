-- The union of the ranges of a stream that is sorted by start.
use Rattle.std.proofs.Common.{Bool, true, false, ◌+◌, List, [], ◌++◌}
use Rattle.std.specs.Iterator.{YieldsThen}
use Rattle.std.specs.Prelude.{Option, None, MatchOption}
use Rattle.std.specs.declared.ops.RangeInclusive.{RangeInclusive}
use Rattle.rsb_integer.specs.Rank.{interval_of, intervals_of}
use Rattle.rsb_integer.specs.declared.integer.Integer.{Ghosts as Elements}
use Rattle.rsb_streams.specs.Fused.{fused_stream}
use Rattle.rsb_streams.specs.Lookahead.{with_held_ranges, if_same, undrawn_input, AreUndrawn, AreWithin, Ends, Input, IsOneFrom, LooksAheadOfAll, Sameness}
use Rattle.rsb_streams.specs.PutBack.{fused_of, held_list, put_back, HasRoom}
use Rattle.rsb_streams.specs.Rows.{stream_asking}
use Rattle.rsb_streams.specs.Stream.{joined_runs, just, Outcomes}
use Rattle.rsb_streams.specs.declared.draw.Draw.{Ghosts as Stream}
use Rattle.rsb_streams.specs.declared.union_iter.UnionIter.{UnionIter}

module _ {T N S : Type 0} (integer : Elements T N) (stream : Stream S T N) where
  open integer use {rank}

  -- Whether all that was held before, and all that was then drawn, lies within the returned range.
  -- One more draw gave what is held now, which starts past the end of that range, with a gap
  -- between.
  pub record Joins (s : UnionIter T S) (answer : RangeInclusive T) (t : UnionIter T S) : Type 0
    where
      pub drawn : List (RangeInclusive T)
      pub draws : YieldsThen (fused_stream stream).draw_gives (fused_of s.iter) drawn t.iter.held
          (fused_of t.iter)
      pub within : AreWithin (interval_of rank answer)
          (held_list rank s.iter.held ++ intervals_of rank drawn)
      pub ahead : IsOneFrom ((interval_of rank answer).last + 2) (held_list rank t.iter.held)

  -- Whether nothing is held, before or after, and the only draw returned `None`.
  pub record JoinsNothing (s t : UnionIter T S) : Type 0 where
    pub held : HasRoom s.iter
    pub room : HasRoom t.iter
    pub draw : (fused_stream stream).draw_gives (fused_of s.iter) None (fused_of t.iter)

  -- What a draw of the union asks of the stream.
  abbrev pub AsksToJoin : UnionIter T S → Option (RangeInclusive T) → UnionIter T S → Type 0
  AsksToJoin s item t = MatchOption item (JoinsNothing s t) (λ answer. Joins s answer t)

  -- The runs of what is held or still to come. At most as many are left as in the stream, plus one
  -- if a range is held.
  abbrev pub union_iter : Stream (UnionIter T S) T N
  union_iter = stream_asking integer AsksToJoin
      (λ s. (put_back integer stream).can_draw s.iter)
      (λ s. (put_back integer stream).draws_left s.iter)
      (λ s. joined_runs integer.value_count ((put_back integer stream).may_give s.iter))

-- ---- the union of a stream that has inputs itself

-- An input of a stream, or an ended input if the stream has ended, because a stream that has ended
-- is not drawn from again.
abbrev pub unless_ended : Bool → Input → Input
unless_ended true input = undrawn_input (just [])
unless_ended false input = input

module _ {Place S T N : Type 0} (same : Sameness Place) (integer : Elements T N)
    (inputs : S → Place → Input) where
  -- The inputs of the union of a stream, if the range that the union holds came from the given
  -- place.
  abbrev pub joined_inputs : Place → UnionIter T S → Place → Input
  joined_inputs from s place = with_held_ranges
      (if_same (same place from) (held_list integer.rank s.iter.held))
      (unless_ended s.iter.done (inputs s.iter.iter place))

  -- Whether a draw of the union looks at most one range ahead in each input, wherever the range
  -- that it held came from. If it returns `None`, all inputs end.
  abbrev pub AsksAhead : UnionIter T S → Option (RangeInclusive T) → UnionIter T S → Type 0
  AsksAhead s item t = (from : Place) → MatchOption item
      ((place : Place) → Ends (joined_inputs from s place) (joined_inputs from t place))
      (λ answer. (now_from : Place) × LooksAheadOfAll (interval_of integer.rank answer)
      (joined_inputs from s) (joined_inputs now_from t))

  -- Whether nothing has been drawn yet from the streams that are the inputs of the union.
  abbrev pub JoinsUndrawn : (Place → Outcomes) → UnionIter T S → Type 0
  JoinsUndrawn may_give s = (from : Place) → AreUndrawn may_give (joined_inputs from s)
