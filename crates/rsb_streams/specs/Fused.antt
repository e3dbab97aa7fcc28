-- Streams that are not called again after their end: in a `Fuse` of std, or with a flag.
use Rattle.std.proofs.Common.{◌≡◌, Bool, true, false}
use Rattle.std.specs.Prelude.{Option, None, MatchBool, MatchOption}
use Rattle.std.specs.declared.iter.Fuse.{Fuse}
use Rattle.std.specs.Iterator.{Count, count_unless}
use Rattle.std.specs.Iterator.Adapters.{fuse_done, fuse_source, fuse_steps}
use Rattle.rsb_streams.specs.Stream.{Outcomes, outcomes_unless}
use Rattle.rsb_streams.specs.declared.draw.Draw.{Ghosts as Stream}

-- What a stream in a `Fuse` may give: nothing once it has ended.
abbrev pub fuse_may_give : {S : Type 0} → (S → Outcomes) → Fuse S → Outcomes
fuse_may_give may_give s = outcomes_unless (fuse_done s) (may_give (fuse_source s))

-- Whether a `Fuse` may be called: its stream may be called, or has ended.
abbrev pub fuse_can_next : {S : Type 0} → (S → Type 0) → Fuse S → Type 0
fuse_can_next can_next s = fuse_done s ≡ false → can_next (fuse_source s)

-- The greatest number of items left in a `Fuse`: that of its stream, or 0 once that has ended.
abbrev pub fuse_remaining : {S : Type 0} → (S → Count) → Fuse S → Count
fuse_remaining remaining s = count_unless (fuse_done s) (remaining (fuse_source s))

-- A stream, with a flag for its end.
pub record Fused (S : Type 0) : Type 0 where
  pub iter : S
  pub done : Bool

-- What a stream with a flag may give: nothing once it has ended.
abbrev pub fused_may_give : {S : Type 0} → (S → Outcomes) → Fused S → Outcomes
fused_may_give may_give s = outcomes_unless s.done (may_give s.iter)

-- Whether a stream with a flag is ready: the stream is ready, or has ended.
abbrev pub fused_can : {S : Type 0} → (S → Type 0) → Fused S → Type 0
fused_can can s = s.done ≡ false → can s.iter

-- The greatest number of ranges left in a stream with a flag: that of the stream, or 0 once that
-- has ended.
abbrev pub fused_left : {S : Type 0} → (S → Count) → Fused S → Count
fused_left left s = count_unless s.done (left s.iter)

-- Whether a call is a call to the stream, or returns `None` because the stream has ended. The flag
-- is set exactly when the call returns `None`.
abbrev pub fused_steps : {S A : Type 0} → (S → Option A → S → Type 0) → Fused S → Option A
    → Fused S → Type 0
fused_steps steps s item t = MatchBool s.done (item ≡ None) (steps s.iter item t.iter)
    × MatchOption item (t.done ≡ true) (λ _. t.done ≡ false)

module _ {S T N : Type 0} (stream : Stream S T N) where
  -- A stream in a `Fuse`, whose draws are its calls.
  abbrev pub fuse : Stream (Fuse S) T N
  fuse = record {
    can_draw = fuse_can_next stream.can_draw;
    draw_gives = fuse_steps stream.draw_gives;
    draws_left = fuse_remaining stream.draws_left;
    may_give = fuse_may_give stream.may_give;
  }

  -- A stream with a flag, whose draws are its calls.
  abbrev pub fused_stream : Stream (Fused S) T N
  fused_stream = record {
    can_draw = fused_can stream.can_draw;
    draw_gives = fused_steps stream.draw_gives;
    draws_left = fused_left stream.draws_left;
    may_give = fused_may_give stream.may_give;
  }
