-- The complement of a stream.
use Rattle.std.proofs.Common.{◌≡◌, ◌⊎◌, ℕ, ◌+◌, ◌<◌, List, []}
use Rattle.std.specs.Prelude.{Option, Some, None, IfSome, is_none}
use Rattle.std.specs.Iterator.{count_map, count_unless, Yields, YieldsThen}
use Rattle.std.specs.declared.ops.RangeInclusive.{RangeInclusive}
use Rattle.rsb_integer.specs.Runs.{IsCanonicalFrom}
use Rattle.rsb_integer.specs.declared.integer.Integer.{Ghosts as Elements}
use Rattle.rsb_streams.specs.Rows.{stream_asking}
use Rattle.rsb_streams.specs.Stream.{Outcomes, ◌⊆◌, gaps_from, runs_by}
use Rattle.rsb_streams.specs.declared.draw.Draw.{Ghosts as Stream}
use Rattle.rsb_streams.specs.declared.not_iter.NotIter.{NotIter}

-- What a complement may give if its next gap would start at the given value. If there is no such
-- value, it gives nothing.
abbrev pub gaps_after : {T : Type 0} → (T → ℕ) → ℕ → Option T → Outcomes → Outcomes
gaps_after rank n None P runs = runs ≡ []
gaps_after rank n (Some start) P runs = runs_by n (gaps_from (rank start)) P runs

-- Whether nothing has been drawn yet from the stream of a complement.
abbrev pub ComplementsUndrawn : {T I : Type 0} → I → NotIter T I → Type 0
ComplementsUndrawn of s = s.iter ≡ of

module _ {T N I : Type 0} (integer : Elements T N) (stream : Stream I T N) where
  -- Whether the input is ready, a gap may start at the value, and no range to come starts before
  -- it.
  pub record NotReady (iter : I) (start : T) : Type 0 where
    pub callable : stream.can_draw iter
    pub value : integer.rank start < integer.value_count
    pub ahead : stream.may_give iter ⊆ IsCanonicalFrom (integer.rank start)

  -- Whether all that was drawn from the input is used, and nothing is held. After the last gap, one
  -- more draw may have returned `None`.
  pub record PassesOver (s : NotIter T I) (item : Option (RangeInclusive T)) (t : NotIter T I) : Type
      0 where
    pub used : List (RangeInclusive T)
    pub draws : Yields stream.draw_gives s.iter used t.iter
        ⊎ (YieldsThen stream.draw_gives s.iter used None t.iter × (t.start ≡ None))

  -- The gaps of the input, from where the next gap would start. The stream is ready if it has given
  -- its last gap, or if the input is ready for the next one. It has at most one more gap left than
  -- the input has ranges, and none after the last gap.
  abbrev pub not_iter : Stream (NotIter T I) T N
  not_iter = stream_asking integer PassesOver
      (λ s. IfSome s.start (NotReady s.iter))
      (λ s. count_unless (is_none s.start) (count_map (λ left. left + 1) (stream.draws_left s.iter)))
      (λ s. gaps_after integer.rank integer.value_count s.start (stream.may_give s.iter))
