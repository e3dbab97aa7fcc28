-- A stream to which one range may be put back.
use Rattle.std.proofs.Common.{◌≡◌, ℕ, ◌+◌, false, List, [], ◌∷◌}
use Rattle.std.specs.Prelude.{Option, Some, None, MatchOption}
use Rattle.std.specs.declared.ops.RangeInclusive.{RangeInclusive}
use Rattle.std.specs.Iterator.{count_map}
use Rattle.std.specs.Option.{option_len}
use Rattle.rsb_integer.specs.Rank.{interval_of}
use Rattle.rsb_integer.specs.Runs.{Interval}
use Rattle.rsb_integer.specs.declared.integer.Integer.{Ghosts as Elements}
use Rattle.rsb_streams.specs.Fused.{fused_stream, Fused, fused_steps}
use Rattle.rsb_streams.specs.Lookahead.{Input}
use Rattle.rsb_streams.specs.Stream.{◌⊆◌, after, HasSortedStarts, Outcomes}
use Rattle.rsb_streams.specs.declared.draw.Draw.{Ghosts as Stream}
use Rattle.rsb_streams.specs.declared.put_back.PutBack.{PutBack}

-- The stream, with the flag for its end.
abbrev pub fused_of : {T I : Type 0} → PutBack T I → Fused I
fused_of s = record { iter = s.iter; done = s.done }

-- Whether no range is held.
abbrev pub HasRoom : {T I : Type 0} → PutBack T I → Type 0
HasRoom s = s.held ≡ None

-- The held range, as a list.
abbrev pub held_list : {T : Type 0} → (T → ℕ) → Option (RangeInclusive T) → List Interval
held_list rank None = []
held_list rank (Some range) = interval_of rank range ∷ []

-- Whether nothing has been drawn from the stream yet.
pub record IsFresh {T I : Type 0} (iter : I) (s : PutBack T I) : Type 0 where
  pub room : HasRoom s
  pub source : s.iter ≡ iter
  pub undone : s.done ≡ false

-- Whether the range was put before what the old state gives.
pub record IsPutBack {T I : Type 0} (range : RangeInclusive T) (old new : PutBack T I) : Type
    0 where
  pub held : new.held ≡ Some range
  pub iter : fused_of new ≡ fused_of old

-- Whether a draw returns the held range, or else what the stream gives. Afterwards, none is held.
pub record PutBackSteps {T I : Type 0} (steps : I → Option (RangeInclusive T) → I → Type 0)
    (s : PutBack T I) (item : Option (RangeInclusive T)) (t : PutBack T I) : Type 0 where
  pub room : HasRoom t
  pub call : MatchOption s.held (fused_steps steps (fused_of s) item (fused_of t))
      (λ range. (item ≡ Some range) × (fused_of t ≡ fused_of s))

module _ {T N I : Type 0} (integer : Elements T N) (stream : Stream I T N) where
  -- The held range, if there is one, followed by what the stream may give.
  abbrev pub put_back_may_give : PutBack T I → Outcomes
  put_back_may_give s = after integer.rank s.held ((fused_stream stream).may_give (fused_of s))

  -- Whether the stream is ready, and what is held or still to come is sorted by start.
  pub record PutBackReady (s : PutBack T I) : Type 0 where
    pub callable : (fused_stream stream).can_draw (fused_of s)
    pub sorted : put_back_may_give s ⊆ HasSortedStarts integer.value_count

  -- The stream to which a range may be put back. At most as many ranges are left as in the stream,
  -- plus one if one is held.
  abbrev pub put_back : Stream (PutBack T I) T N
  put_back = record {
    can_draw = PutBackReady;
    draw_gives = PutBackSteps stream.draw_gives;
    draws_left = λ s. count_map (λ left. left + option_len s.held)
        ((fused_stream stream).draws_left (fused_of s));
    may_give = put_back_may_give;
  }

  -- The stream, as an input of another.
  abbrev pub input_of : PutBack T I → Input
  input_of s = record {
    held = held_list integer.rank s.held;
    undrawn = (fused_stream stream).may_give (fused_of s);
  }
