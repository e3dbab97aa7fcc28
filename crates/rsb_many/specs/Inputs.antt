-- Many input streams, and the heads drawn from them.
use Rattle.std.proofs.Common.{◌≡◌, ℕ, set, ◌+◌, ◌*◌, ◌<◌, Bool, true, false, not, cond, List, length, slice_get}
use Rattle.std.specs.Iterator.{Count, at_most, count_add, count_map, count_unless, MakesProgress}
use Rattle.std.specs.Option.{option_map, option_map_or, option_to_list}
use Rattle.std.specs.Prelude.{zero, suc, IfSome, None, Option, Some}
use Rattle.std.specs.declared.ops.RangeInclusive.{RangeInclusive}
use Rattle.rsb_integer.specs.declared.integer.Integer.{Ghosts as Elements}
use Rattle.rsb_streams.specs.Lookahead.{Input}
use Rattle.rsb_streams.specs.Stream.{◌⊆◌, outcomes_unless, HasSortedStarts, Outcomes}
use Rattle.rsb_streams.specs.declared.draw.Draw.{Ghosts as Stream}
use Rattle.rsb_many.specs.Heads.{head_at_start, run_of_head}
use Rattle.rsb_many.specs.Many.{gives_of, may_give_at, merges_all}
use Rattle.rsb_many.specs.declared.heads.Head.{Head}

-- The streams, the head of each input that has one, and which inputs have a range due. A range is
-- due once the last one has been used, and is drawn when one more is asked for.
pub record Inputs (T S : Type 0) : Type 0 where
  pub streams : List S
  pub head_of : ℕ → Option (Head T)
  pub due : ℕ → Bool

-- Whether an input has ended: it has no head, and nothing is due.
abbrev pub is_over : {T : Type 0} → Option (Head T) → Bool → Bool
is_over None due = not due
is_over (Some head) due = false

-- The sum of the counts at the places below `count`.
abbrev pub sum_below : ℕ → (ℕ → Count) → Count
sum_below zero counts = at_most 0
sum_below (suc count) counts =
    count_add (counts zero) (sum_below count (λ place. counts (suc place)))

module _ {T N S : Type 0} (integer : Elements T N) (stream : Stream S T N) where
  open integer use {rank, value_count}

  -- Whether the input at a place has ended.
  abbrev pub has_ended : Inputs T S → ℕ → Bool
  has_ended s place = is_over (s.head_of place) (s.due place)

  -- The input at a place: what is held of it, and what its stream may still give.
  abbrev pub input_at : Inputs T S → ℕ → Input
  input_at s place = record {
    held = option_to_list (option_map (run_of_head rank) (s.head_of place));
    undrawn = outcomes_unless (has_ended s place) (may_give_at stream.may_give s.streams place);
  }

  -- Whether each stream that has not ended is ready, and each head belongs to an input. The ranges
  -- of each input come in the order of their starts, and at most one is held or due.
  pub record AreReady (s : Inputs T S) : Type 0 where
    pub can : (place : ℕ) → has_ended s place ≡ false
        → IfSome (slice_get s.streams place) stream.can_draw
    pub sorted : (place : ℕ) → gives_of (input_at s place) ⊆ HasSortedStarts value_count
    pub one : (place : ℕ) → s.due place ≡ true → s.head_of place ≡ None
    pub within : (place : ℕ) → IfSome (s.head_of place) (λ head. place < length s.streams)

  -- Whether the stream at a place was drawn from: the input has the head of the range now, or its
  -- stream ended and it has none. The other inputs have the heads they had.
  pub record DrawsAt (place : ℕ) (streams : List S) (head_of : ℕ → Option (Head T))
      (now_streams : List S) (now_head_of : ℕ → Option (Head T)) : Type 0 where
    pub before : S
    pub after : S
    pub item : Option (RangeInclusive T)
    pub stood : slice_get streams place ≡ Some before
    pub call : stream.draw_gives before item after
    pub goes : MakesProgress stream.can_draw stream.draws_left before item after
    pub stands : now_streams ≡ set streams place after
    pub here : now_head_of place ≡ option_map (head_at_start place) item
    pub others : (other : ℕ) → ¬ (other ≡ place) → now_head_of other ≡ head_of other

  -- How many items are left of an input: `each` for a range, but one once the start of the range was
  -- reported.
  abbrev pub left_at : ℕ → Inputs T S → ℕ → Count
  left_at each s place = count_map
      (λ left. each * left + option_map_or (λ head. cond head.started 1 each) (s.head_of place) 0)
      (count_unless (has_ended s place)
      (option_map_or stream.draws_left (slice_get s.streams place) (at_most 0)))

  -- How many items are left of all inputs.
  abbrev pub inputs_left : ℕ → Inputs T S → Count
  inputs_left each s = sum_below (length s.streams) (left_at each s)

  -- What all inputs may give, merged by starts.
  abbrev pub inputs_merge : Inputs T S → Outcomes
  inputs_merge s = merges_all value_count (length s.streams) (λ place. gives_of (input_at s place))
