-- One of many inputs, before and after a step of all of them.
use Rattle.std.proofs.Common.{◌≡◌, ℕ, ◌+◌, ◌*◌, ◌≤◌, Bool, length, false, cond, List, [], ◌++◌, slice_get, sym, ap, subst, ◌∙◌, append_assoc, arith, None, Option, Some}
use Rattle.std.proofs.lemmas.List.{append-nil}
use Rattle.std.specs.Iterator.{at_most, count_map, count_unless}
use Rattle.std.specs.Option.{option_map, option_map_or, option_to_list}
use Rattle.std.specs.Prelude.{IfSome, MatchOption}
use Rattle.rsb_integer.specs.Runs.{Interval}
use Rattle.rsb_integer.specs.declared.integer.Integer.{Ghosts as Elements}
use Rattle.rsb_streams.specs.Lookahead.{Input, Uses}
use Rattle.rsb_streams.specs.Stream.{◌⊆◌, outcomes_unless, Outcomes}
use Rattle.rsb_streams.specs.declared.draw.Draw.{Ghosts as Stream}
use Rattle.rsb_many.specs.Heads.{run_of_head}
use Rattle.rsb_many.specs.Inputs.{has_ended, input_at, is_over, left_at, AreReady, Inputs}
use Rattle.rsb_many.specs.Many.{gives_of}
use Rattle.rsb_many.specs.declared.heads.Head.{Head}

-- If an input used ranges, it might before have given them, followed by whatever it may give now.
pub gives_of-uses : {before now : Input} {used : List Interval} → Uses before used now
    → (rest : List Interval) → gives_of now rest → gives_of before (used ++ rest)
gives_of-uses {before} {now} {used} uses rest gives = (
  uses.drawn ++ gives.0,
  uses.drew gives.0 gives.1,
  ap (λ runs. used ++ runs) gives.2
      ∙ sym (append_assoc used now.held gives.0)
      ∙ ap (λ runs. runs ++ gives.0) (sym uses.in_order)
      ∙ append_assoc before.held uses.drawn gives.0,
)

-- The range of the head of an input, if there is one.
abbrev pub held_of : {T : Type 0} → (T → ℕ) → Option (Head T) → List Interval
held_of rank head = option_to_list (option_map (run_of_head rank) head)

-- At most one range of an input is held.
pub held-short : {T : Type 0} (rank : T → ℕ) (head : Option (Head T))
    → length (held_of rank head) ≤ 1
held-short rank None = omega arith
held-short rank (Some head) = omega arith

module _ {T N S : Type 0} (integer : Elements T N) (stream : Stream S T N) where
  open integer use {rank}

  -- What an input still gives, from whether it has ended and its stream.
  abbrev pub undrawn_by : Bool → Option S → Outcomes
  undrawn_by over found =
      outcomes_unless over (λ runs. MatchOption found (runs ≡ []) (λ s. stream.may_give s runs))

  -- It depends only on these.
  pub undrawn-same : (over now_over : Bool) (found now_found : Option S) → now_over ≡ over
      → now_found ≡ found → undrawn_by now_over now_found ⊆ undrawn_by over found
  undrawn-same over now_over found now_found first second rest at =
      subst (λ each. undrawn_by over each rest) second
      (subst (λ each. undrawn_by each now_found rest) first at)

  -- Whether what is held of the input at a place is unchanged, it has ended exactly if it had
  -- before, and its stream is unchanged.
  pub record StaysAt (s t : Inputs T S) (place : ℕ) : Type 0 where
    pub held : held_of rank (t.head_of place) ≡ held_of rank (s.head_of place)
    pub over : has_ended integer stream t place ≡ has_ended integer stream s place
    pub found : slice_get t.streams place ≡ slice_get s.streams place

  module _ {s t : Inputs T S} {place : ℕ} (stays : StaysAt s t place) where
    -- Then it uses nothing.
    pub uses-same : Uses (input_at integer stream s place) [] (input_at integer stream t place)
    uses-same = record {
      drawn = [];
      drew = undrawn-same (has_ended integer stream s place) (has_ended integer stream t place)
          (slice_get s.streams place) (slice_get t.streams place) stays.over stays.found;
      in_order = append-nil (held_of rank (s.head_of place)) ∙ sym stays.held;
    }

    -- Its stream is ready if it was before.
    pub can-same : (has_ended integer stream s place ≡ false
        → IfSome (slice_get s.streams place) stream.can_draw)
        → has_ended integer stream t place ≡ false
        → IfSome (slice_get t.streams place) stream.can_draw
    can-same can going = subst (λ each. IfSome each stream.can_draw) (sym stays.found)
        (can (sym stays.over ∙ going))

  module _ (s t : Inputs T S) (place : ℕ) (head : t.head_of place ≡ s.head_of place)
      (due : t.due place ≡ s.due place)
      (found : slice_get t.streams place ≡ slice_get s.streams place) where
    -- An input with the same head and stream stays, if a range is due exactly if one was before.
    pub all-same : StaysAt s t place
    all-same = record {
      held = ap (held_of rank) head;
      over = λ i. is_over (head i) (due i);
      found = found;
    }

    -- It has as many items left as before.
    pub left-same : (each : ℕ)
        → left_at integer stream each t place ≡ left_at integer stream each s place
    left-same each = λ i. count_map
        (λ left. each * left + option_map_or (λ each_head. cond each_head.started 1 each) (head i) 0)
        (count_unless (is_over (head i) (due i))
        (option_map_or stream.draws_left (found i) (at_most 0)))

  -- If that is so of all inputs, they are ready again.
  pub ready-same : (s t : Inputs T S) → ((place : ℕ) → t.head_of place ≡ s.head_of place)
      → ((place : ℕ) → t.due place ≡ s.due place) → t.streams ≡ s.streams
      → AreReady integer stream s → AreReady integer stream t
  ready-same s t heads dues streams ready =
      let stays : (place : ℕ) → StaysAt s t place = λ place. all-same s t place (heads place)
      (dues place) (ap (λ each. slice_get each place) streams) in
      record {
        can = λ place. can-same (stays place) (ready.can place);
        sorted = λ place runs at.
            ready.sorted place runs (gives_of-uses (uses-same (stays place)) runs at);
        one = λ place is. heads place ∙ ready.one place (sym (dues place) ∙ is);
        within = λ place. rw (heads place, streams) (ready.within place);
      }
