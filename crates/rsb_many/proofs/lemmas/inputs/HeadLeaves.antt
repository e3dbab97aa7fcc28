-- What a merge or a sweep of many streams holds if the least head leaves, if it is put back, and if
-- there is none.
use Rattle.std.proofs.Common.{◌≡◌, inl, inr, ℕ, ◌+◌, ◌*◌, ◌<◌, ◌≤◌, true, false, cond, nat_lt, List, [], ◌++◌, length, slice_get, refl, sym, ap, ◌∙◌, arith}
use Rattle.std.proofs.lemmas.Bool.{ltb-false}
use Rattle.std.proofs.lemmas.List.{append-nil}
use Rattle.std.specs.Iterator.{at_most, count_map}
use Rattle.std.specs.Option.{option_map_or}
use Rattle.std.specs.Prelude.{IfSome}
use Rattle.rsb_integer.specs.declared.integer.Integer.{Ghosts as Elements}
use Rattle.rsb_integer.proofs.lemmas.List.{true_or_false}
use Rattle.rsb_streams.specs.Lookahead.{Ends, HasEnded, Uses}
use Rattle.rsb_streams.specs.Stream.{◌⊆◌, just}
use Rattle.rsb_streams.specs.declared.draw.Draw.{Ghosts as Stream}
use Rattle.rsb_streams.proofs.lemmas.lookahead.EachCall.{uses-then}
use Rattle.rsb_many.specs.Drawn.{inputs_of, is_at, DrawnReady, HasNoHead, PutsBack, Refills, TakesHead}
use Rattle.rsb_many.specs.Heads.{binary_digits, head_of}
use Rattle.rsb_many.specs.Inputs.{has_ended, input_at, inputs_left, Inputs}
use Rattle.rsb_many.specs.KMerge.{comparison_bound}
use Rattle.rsb_many.specs.Many.{gives_of}
use Rattle.rsb_many.specs.declared.drawn.Drawn.{Drawn}
use Rattle.rsb_many.specs.declared.heads.Head.{Head}
use Rattle.rsb_many.proofs.lemmas.heap.Digits.{binary_digits-more}
use Rattle.rsb_many.proofs.lemmas.inputs.Leaves.{taken-inputs, taken-less, taken-long, taken-streams}
use Rattle.rsb_many.proofs.lemmas.inputs.Left.{inputs_left-less, less-as, LessBy}
use Rattle.rsb_many.proofs.lemmas.inputs.OneInput.{all-same, can-same, gives_of-uses, held_of, left-same, ready-same, uses-same, StaysAt}
use Rattle.rsb_many.proofs.lemmas.inputs.Places.{at-place}

-- Two comparisons for each binary digit of `count`, and two for each digit of the number of heads,
-- stay within `comparison_bound`.
pub few-compared : (count heads before middle made : ℕ) → heads ≤ count
    → middle ≤ before + 2 * binary_digits count → made ≤ middle + 2 * binary_digits heads
    → made ≤ before + comparison_bound count
few-compared count heads before middle made short first second =
    let few = binary_digits-more heads count short in
    let some = binary_digits-more count (cond (nat_lt 0 count) count 1) (at-least count) in
    omega (arith, first, second, few, some)
  where
    -- A number is at most itself, or 1 if it is 0.
    at-least : (count : ℕ) → count ≤ cond (nat_lt 0 count) count 1
    at-least count = elim (true_or_false (nat_lt 0 count)) [
      | inl some ↦ rw some (omega arith)
      | inr none ↦ let nothing = ltb-false 0 count none in rw none (omega (arith, nothing))
    ]

-- Here `s` holds the inputs before a call, and `m` once the range that was due is drawn.
module _ {T N I A : Type 0} {integer : Elements T N} {stream : Stream I T N} {s m : Drawn T I A N}
    (filled : Refills integer stream s m) where
  open integer use {rank}
  open filled use {ready, none}

  -- The inputs before the head leaves.
  abbrev before : Inputs T I
  before = inputs_of m

  -- No range is due.
  none-due : (place : ℕ) → is_at m.used place ≡ false
  none-due place = rw none refl

  -- ---- the least head leaves
  module _ {t : Drawn T I A N} {head : Head T} (takes : TakesHead integer stream m head t) where
    -- The head belongs to one of the inputs.
    less : head.input < length m.streams.items
    less = taken-less filled takes

    -- The inputs are ready again, and there is room for their heads.
    pub taken-ready : DrawnReady integer stream t
    taken-ready = record {
      inputs = taken-inputs filled takes;
      room = record {
        used = rw takes.used (omega (arith, less, taken-long filled takes));
        few = rw takes.used few-now;
        room = omega (arith, ready.room.room, takes.room, taken-long filled takes);
      };
    }
      where
        -- There is room for the next head of its input.
        few-now : length t.heads.heads + 1 ≤ length t.streams.items
        few-now = omega (arith, takes.taken.count, ready.room.few, taken-long filled takes)

    -- ---- it is put back
    module _ {u : Drawn T I A N} (back : PutsBack t head u) where
      -- The inputs once the head is back.
      abbrev again : Inputs T I
      again = inputs_of u

      -- The streams are the same.
      back-streams : again.streams ≡ before.streams
      back-streams = ap (λ each. each.items) back.streams ∙ taken-streams filled takes

      -- The number of streams is unchanged.
      pub back-long : length u.streams.items ≡ length m.streams.items
      back-long = ap (λ (each : List I). length each) back-streams

      -- No range is due.
      pub back-due : (place : ℕ) → again.due place ≡ false
      back-due place = rw back.used refl

      -- The heads of the other inputs are unchanged.
      pub back-others : (place : ℕ) → ¬ (place ≡ head.input)
          → head_of u.heads.heads place ≡ head_of m.heads.heads place
      back-others place differs =
          back.heads.others place differs ∙ takes.taken.leaves.others place differs

      -- What each input holds is unchanged, and so is its stream.
      back-stays : (place : ℕ) → StaysAt integer stream before again place
      back-stays = at-place (StaysAt integer stream before again) head.input
          (record {
            held = rw (back.heads.here, takes.taken.was) refl;
            over = rw (back.heads.here, takes.taken.was) refl;
            found = ap (λ each. slice_get each head.input) back-streams;
          })
          (λ place differs. all-same integer stream before again place (back-others place differs)
          (back-due place ∙ sym (none-due place)) (ap (λ each. slice_get each place) back-streams))

      -- No input uses anything.
      pub back-uses : (place : ℕ)
          → Uses (input_at integer stream before place) [] (input_at integer stream again place)
      back-uses place = uses-same integer stream (back-stays place)

      -- There are as many heads as before.
      pub back-many : length u.heads.heads ≡ length m.heads.heads
      back-many = omega (arith, back.count, takes.taken.count)

      -- The inputs are ready again, and there is room for their heads.
      pub back-ready : DrawnReady integer stream u
      back-ready = record {
        inputs = record {
          can = λ place. can-same integer stream (back-stays place) (ready.inputs.can place);
          sorted = λ place runs gives. ready.inputs.sorted place runs
              (gives_of-uses (back-uses place) runs gives);
          one = λ place is. absurd (let no = back-due place in cc);
          within = at-place
              (λ place. IfSome (head_of u.heads.heads place) (λ each. place < length u.streams.items))
              head.input (rw back.heads.here (omega (arith, less, back-long)))
              (λ place differs. rw (back-others place differs, back-streams)
              (ready.inputs.within place));
        };
        room = record {
          used = rw back.used tt;
          few = rw back.used (omega (arith, back-many, back-long, ready.room.few));
          room = omega (arith, ready.room.room, takes.room, back.room, back-long);
        };
      }

      -- If its start had not been reported, one item fewer is left.
      pub back-fewer : head.started ≡ false
          → LessBy 1 (inputs_left integer stream 2 before) (inputs_left integer stream 2 again)
      back-fewer starts =
          let left = option_map_or stream.draws_left (slice_get before.streams head.input) (at_most 0)
          in
          inputs_left-less integer stream 1 2 head.input before again back-long less
          (λ place differs. left-same integer stream before again place (back-others place differs)
          (back-due place ∙ sym (none-due place)) (ap (λ each. slice_get each place) back-streams) 2)
          (less-as 1 _ _ (count_map (λ n. 2 * n + 2) left) (count_map (λ n. 2 * n + 1) left)
          (rw (takes.taken.was, starts) refl) (rw (back.heads.here, back-streams) refl)
          (λ finite. (finite, omega arith)))

  -- ---- there is no head
  module _ {t : Drawn T I A N} (empty : HasNoHead m t) where
    -- The inputs after the call.
    abbrev last : Inputs T I
    last = inputs_of t

    -- The streams are the same.
    none-streams : last.streams ≡ before.streams
    none-streams = ap (λ each. each.items) empty.streams

    -- No input has a head, as before.
    none-heads : (place : ℕ) → last.head_of place ≡ before.head_of place
    none-heads place = empty.new.none place ∙ sym (empty.old.none place)

    -- No range is due, as before.
    none-dues : (place : ℕ) → last.due place ≡ before.due place
    none-dues place = rw (empty.used, none) refl

    -- The number of streams is unchanged.
    pub none-long : length t.streams.items ≡ length m.streams.items
    none-long = ap (λ each. length each.items) empty.streams

    -- Each input has ended.
    none-over : (place : ℕ) → has_ended integer stream last place ≡ true
    none-over place = rw (empty.new.none place, empty.used) refl

    -- So nothing of it is held, and it gives nothing.
    none-ended : (place : ℕ) → HasEnded (input_at integer stream last place)
    none-ended place = record {
      held = ap (held_of rank) (empty.new.none place);
      gives = λ runs at. rw (none-over place) at at;
    }

    -- What each input gives is the empty list.
    pub none-nothing : (place : ℕ) → gives_of (input_at integer stream last place) ⊆ just []
    none-nothing place runs gives =
        let ended = none-ended place in
        gives.2 ∙ ap (λ each. each ++ gives.0) ended.held ∙ ended.gives gives.0 gives.1

    -- An input used nothing in the whole call.
    none-uses : (place : ℕ) → Uses (input_at integer stream (inputs_of s) place) []
        (input_at integer stream last place)
    none-uses place = uses-then (input_at integer stream (inputs_of s) place)
        (input_at integer stream before place) (input_at integer stream last place) [] []
        (filled.uses place) (uses-same integer stream (all-same integer stream before last place (none-heads place)
        (none-dues place) (ap (λ each. slice_get each place) none-streams)))

    -- And it ended.
    pub none-ends : (place : ℕ) → Ends (input_at integer stream (inputs_of s) place)
        (input_at integer stream last place)
    none-ends place =
        let uses = none-uses place in
        let ended = none-ended place in
        record {
          uses = record {
            drawn = uses.drawn;
            drew = λ rest is. uses.drew rest (rw (none-over place) is);
            in_order = uses.in_order ∙ ended.held;
          };
          over = ended;
        }

    -- Before the call, it might have given nothing.
    pub none-might : (place : ℕ) → gives_of (input_at integer stream (inputs_of s) place) []
    none-might place = gives_of-uses (none-uses place) [] (
      [],
      rw (none-over place) refl,
      sym (append-nil (held_of rank (last.head_of place)) ∙ (none-ended place).held),
    )

    -- The inputs are ready again, and there is room for their heads.
    pub none-ready : DrawnReady integer stream t
    none-ready = record {
      inputs = ready-same integer stream before last none-heads none-dues none-streams ready.inputs;
      room = record {
        used = rw empty.used tt;
        few = rw empty.used (omega (arith, empty.new.count));
        room = omega (arith, ready.room.room, empty.room, none-long);
      };
    }
