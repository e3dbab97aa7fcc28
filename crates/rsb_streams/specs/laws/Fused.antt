-- The laws of streams that are not called again after their end.
use Rattle.std.proofs.Common.{◌≡◌, Bool, true, false, List, [], ◌∷◌, refl}
use Rattle.std.specs.Iterator.{count_unless}
use Rattle.std.specs.Iterator.Adapters.{fuse_done, fuse_source}
use Rattle.std.specs.Prelude.{Option, Some, None, MatchBool, MatchOption}
use Rattle.std.specs.declared.ops.RangeInclusive.{RangeInclusive}
use Rattle.rsb_integer.specs.Rank.{interval_of}
use Rattle.rsb_integer.specs.Runs.{Interval}
use Rattle.rsb_integer.specs.declared.integer.Integer.{Ghosts as Elements}
use Rattle.rsb_streams.specs.Fused.{fuse, fused_stream}
use Rattle.rsb_streams.specs.Rows.{IsAnswered, KeepsLaw}
use Rattle.rsb_streams.specs.Stream.{outcomes_unless, Keeps}
use Rattle.rsb_streams.specs.declared.draw.Draw.{Ghosts as Stream}

module _ {S T N : Type 0} (integer : Elements T N) (stream : Stream S T N)
    (answers : IsAnswered integer stream) where
  -- A call fits what may be given. By cases on whether the stream had ended before it, and after
  -- it.
  answers-by : (done after : Bool) (s t : S) (item : Option (RangeInclusive T))
      → MatchBool done (item ≡ None) (stream.draw_gives s item t)
      → MatchOption item (after ≡ true) (λ _. after ≡ false)
      → MatchOption item (outcomes_unless done (stream.may_give s) [])
      (λ range. (rest : List Interval) → outcomes_unless after (stream.may_give t) rest
      → outcomes_unless done (stream.may_give s) (interval_of integer.rank range ∷ rest))
  answers-by true after s t None call end = refl
  answers-by true after s t (Some range) call end = absurd (cc)
  answers-by false after s t None call end = answers s t None call
  answers-by false true s t (Some range) call end = absurd (cc)
  answers-by false false s t (Some range) call end = answers s t (Some range) call

  -- A call to a `Fuse` fits what may be given.
  pub fuse-answered : IsAnswered integer (fuse stream)
  fuse-answered s t item call =
      answers-by (fuse_done s) (fuse_done t) (fuse_source s) (fuse_source t) item call.0 call.1

  -- A call to a stream with a flag fits what may be given.
  pub fused-answered : IsAnswered integer (fused_stream stream)
  fused-answered s t item call = answers-by s.done t.done s.iter t.iter item call.0 call.1

module _ {S T N : Type 0} (stream : Stream S T N) (law : List Interval → Type 0) (none : law [])
    (keeps : KeepsLaw law stream) where
  -- What may be given satisfies the law. By cases on whether the stream has ended.
  keeps-by : (done : Bool) (s : S) → (done ≡ false → stream.can_draw s)
      → Keeps law (outcomes_unless done (stream.may_give s))
      (count_unless done (stream.draws_left s))
  keeps-by true s can = record {
    some = λ never. never [] refl;
    all = λ runs may. rw may none;
    ends = tt;
  }
  keeps-by false s can =
      let kept = keeps s (can refl) in
      record { some = kept.some; all = kept.all; ends = kept.ends }

  -- A `Fuse` satisfies the law that its stream satisfies.
  pub fuse-keeps : KeepsLaw law (fuse stream)
  fuse-keeps s can = keeps-by (fuse_done s) (fuse_source s) can

  -- A stream with a flag satisfies the law that the stream satisfies.
  pub fused-keeps : KeepsLaw law (fused_stream stream)
  fused-keeps s can = keeps-by s.done s.iter can
