-- What a merge or a sweep of many streams holds.
use Rattle.std.specs.Prelude.{◌≡◌, ℕ, ◌+◌, ◌*◌, ◌<◌, ◌≤◌, false, nat_eq, nat_le, nat_lt, ◌&&◌, Bool, List, [], length, Option, Some, None, IfSome}
use Rattle.std.specs.Iterator.{size, IsFinite}
use Rattle.std.specs.Option.{option_len}
use Rattle.rsb_integer.specs.declared.integer.Integer.{Ghosts as Elements}
use Rattle.rsb_streams.specs.Lookahead.{Uses}
use Rattle.rsb_streams.specs.Stream.{◌⊆◌}
use Rattle.rsb_streams.specs.declared.draw.Draw.{Ghosts as Stream}
use Rattle.rsb_many.specs.Heads.{binary_digits, closing_bound, head_at_end, head_of, HasNone, SetsHead, TakesLeastHead}
use Rattle.rsb_many.specs.Inputs.{input_at, inputs_left, AreReady, Inputs}
use Rattle.rsb_many.specs.Many.{gives_of, may_give_at, IsBegun}
use Rattle.rsb_many.specs.declared.drawn.Drawn.{Drawn}
use Rattle.rsb_many.specs.declared.heads.Head.{Head}

-- Whether the option is this place.
abbrev pub is_at : Option ℕ → ℕ → Bool
is_at None place = false
is_at (Some used) place = nat_eq used place

-- The streams and heads as inputs. A range is due from the input whose range was used last.
abbrev pub inputs_of : {T I A N : Type 0} → Drawn T I A N → Inputs T I
inputs_of s = record {
  streams = s.streams.items;
  head_of = head_of s.heads.heads;
  due = is_at s.used;
}

-- Whether a head is one whose start was reported. Then a range of its input has started and not
-- ended.
abbrev pub has_begun : {T : Type 0} → Option (Head T) → Bool
has_begun None = false
has_begun (Some head) = head.started

-- Whether there is room for a head of each input. There are at most as many heads as inputs, and
-- fewer if there is an input that was used last.
pub record HasRoomForAll {T I A N : Type 0} (s : Drawn T I A N) : Type 0 where
  pub used : IfSome s.used (λ place. place < length s.streams.items)
  pub few : length s.heads.heads + option_len s.used ≤ length s.streams.items
  pub room : length s.streams.items ≤ s.heads.room

module _ {T N I A : Type 0} (integer : Elements T N) (stream : Stream I T N) where
  -- Whether the inputs are ready and there is room for their heads.
  pub record DrawnReady (s : Drawn T I A N) : Type 0 where
    pub inputs : AreReady integer stream (inputs_of s)
    pub room : HasRoomForAll s

  -- Whether the range that is due, if any, is drawn, while no input uses anything. Few comparisons
  -- are made, counting those that will close the open place at the top. Their count never falls.
  pub record Refills (s t : Drawn T I A N) : Type 0 where
    pub ready : DrawnReady t
    pub none : t.used ≡ None
    pub count : length t.streams.items ≡ length s.streams.items
    pub uses : (place : ℕ) → Uses (input_at integer stream (inputs_of s) place) []
        (input_at integer stream (inputs_of t) place)
    pub begun : (place : ℕ)
        → has_begun (head_of t.heads.heads place) ≡ has_begun (head_of s.heads.heads place)
    pub left : (each : ℕ) → IsFinite (inputs_left integer stream each (inputs_of s))
        → IsFinite (inputs_left integer stream each (inputs_of t))
        × (size (inputs_left integer stream each (inputs_of t))
        ≤ size (inputs_left integer stream each (inputs_of s)))
    pub compared : t.heads.comparisons + closing_bound t.heads
        ≤ s.heads.comparisons + 2 * binary_digits (length s.streams.items)
    pub counted : s.heads.comparisons ≤ t.heads.comparisons

  -- Whether the least head is taken out, and a range of its input is due.
  pub record TakesHead (s : Drawn T I A N) (head : Head T) (t : Drawn T I A N) : Type 0 where
    pub taken : TakesLeastHead integer.rank s.heads.heads head t.heads.heads
    pub streams : t.streams ≡ s.streams
    pub used : t.used ≡ Some head.input
    pub room : s.heads.room ≤ t.heads.room

-- Whether the head that was taken last is back with its start reported, and no range is due.
pub record PutsBack {T I A N : Type 0} (s : Drawn T I A N) (head : Head T) (t : Drawn T I A N)
    : Type 0 where
  pub heads : SetsHead s.heads.heads head.input (Some (head_at_end head)) t.heads.heads
  pub count : length t.heads.heads ≡ length s.heads.heads + 1
  pub streams : t.streams ≡ s.streams
  pub used : t.used ≡ None
  pub room : s.heads.room ≤ t.heads.room

-- Whether there are no heads, no range is due, and the streams are unchanged.
pub record HasNoHead {T I A N : Type 0} (s t : Drawn T I A N) : Type 0 where
  pub old : HasNone s.heads.heads
  pub new : HasNone t.heads.heads
  pub streams : t.streams ≡ s.streams
  pub used : t.used ≡ None
  pub room : s.heads.room ≤ t.heads.room

-- ---- streams whose first ranges are drawn

-- The inputs, with a range due from each one at the place `first` or past it.
abbrev pub due_from : {T I A N : Type 0} → ℕ → Drawn T I A N → Inputs T I
due_from first s = record {
  streams = s.streams.items;
  head_of = head_of s.heads.heads;
  due = λ place. nat_le first place && nat_lt place (length s.streams.items);
}

module _ {T N I A : Type 0} (integer : Elements T N) (stream : Stream I T N) where
  -- Whether `s` holds these streams and has drawn the first range of each, and nothing more.
  pub record IsBegunOf (streams : List I) (s : Drawn T I A N) : Type 0 where
    pub ready : DrawnReady integer stream s
    pub unstarted : (place : ℕ) → has_begun (head_of s.heads.heads place) ≡ false
    pub count : length s.streams.items ≡ length streams
    pub begun : (place : ℕ) → IsBegun (may_give_at stream.may_give streams place)
        (input_at integer stream (inputs_of s) place)

  -- Whether `s` holds these streams and has drawn the first range of each one before `first`, and
  -- nothing more.
  pub record IsBegunTo (streams : List I) (first : ℕ) (s : Drawn T I A N) : Type 0 where
    pub ready : AreReady integer stream (due_from first s)
    pub unstarted : (place : ℕ) → has_begun (head_of s.heads.heads place) ≡ false
    pub count : length s.streams.items ≡ length streams
    pub begun : (place : ℕ) → gives_of (input_at integer stream (due_from first s) place)
        ⊆ may_give_at stream.may_give streams place
    pub used : s.used ≡ None
    pub few : length s.heads.heads ≤ first
    pub room : length s.streams.items ≤ s.heads.room
    pub within : first ≤ length streams
