-- The least head leaves many inputs, so that a range of its input is due.
use Rattle.std.proofs.Common.{◌≡◌, ℕ, ◌+◌, ◌*◌, ◌<◌, ◌≤◌, Bool, true, false, cond, List, [], ◌∷◌, length, slice_get, refl, sym, ap, subst, ◌∙◌, arith, None, Option, Some}
use Rattle.std.specs.Iterator.{at_most, count_map}
use Rattle.std.specs.Option.{option_map_or}
use Rattle.std.specs.Prelude.{IfSome}
use Rattle.rsb_integer.specs.Runs.{Interval}
use Rattle.rsb_integer.specs.declared.integer.Integer.{Ghosts as Elements}
use Rattle.rsb_streams.specs.Lookahead.{GivesFrom, IsOneFrom, Spares, Uses}
use Rattle.rsb_streams.specs.Stream.{◌⊆◌, HasSortedStarts, HasSortedStartsFrom}
use Rattle.rsb_streams.specs.laws.Stream.{sorted-lower}
use Rattle.rsb_streams.specs.declared.draw.Draw.{Ghosts as Stream}
use Rattle.rsb_many.specs.Drawn.{inputs_of, is_at, Refills, TakesHead}
use Rattle.rsb_many.specs.Heads.{run_of_head}
use Rattle.rsb_many.specs.Inputs.{input_at, inputs_left, is_over, has_ended, AreReady, Inputs}
use Rattle.rsb_many.specs.Many.{gives_of}
use Rattle.rsb_many.specs.declared.drawn.Drawn.{Drawn}
use Rattle.rsb_many.specs.declared.heads.Head.{Head}
use Rattle.rsb_many.proofs.lemmas.inputs.Left.{inputs_left-less, less-as, LessBy}
use Rattle.rsb_many.proofs.lemmas.inputs.OneInput.{all-same, can-same, gives_of-uses, held_of, left-same, undrawn-same, undrawn_by, uses-same, StaysAt}
use Rattle.rsb_many.proofs.lemmas.inputs.Places.{at-place, nat_eq-differs, nat_eq-itself}

-- Here `s` holds the inputs before a call, `m` once the range that was due is drawn, and `t` once the
-- least head left.
module _ {T N I A : Type 0} {integer : Elements T N} {stream : Stream I T N} {s m t : Drawn T I A N}
    {head : Head T} (filled : Refills integer stream s m) (takes : TakesHead integer stream m head t)
  where
    open integer use {rank, value_count as n}
    open filled.ready.inputs use {can, sorted, one, within}
    open takes.taken use {was, leaves}

    -- The range of the head.
    abbrev run : Interval
    run = run_of_head rank head

    -- The inputs before the head leaves.
    abbrev before : Inputs T I
    before = inputs_of m

    -- The inputs afterwards.
    abbrev now : Inputs T I
    now = inputs_of t

    -- The streams are unchanged.
    pub taken-streams : now.streams ≡ before.streams
    taken-streams = ap (λ each. each.items) takes.streams

    -- So is their number.
    pub taken-long : length t.streams.items ≡ length m.streams.items
    taken-long = ap (λ (each : List I). length each) taken-streams

    -- So is the stream at each place.
    found : (place : ℕ) → slice_get now.streams place ≡ slice_get before.streams place
    found place = ap (λ each. slice_get each place) taken-streams

    -- A range of the head's input is due.
    due : now.due head.input ≡ true
    due = rw takes.used (nat_eq-itself head.input)

    -- No range of another input is due.
    pub taken-due : (place : ℕ) → ¬ (place ≡ head.input) → is_at t.used place ≡ false
    taken-due place differs = rw takes.used (nat_eq-differs head.input place differs)

    -- Nor was one.
    dues : (place : ℕ) → ¬ (place ≡ head.input) → now.due place ≡ before.due place
    dues place differs = taken-due place differs ∙ rw filled.none refl

    -- The other inputs are unchanged.
    others : (place : ℕ) → ¬ (place ≡ head.input) → StaysAt integer stream before now place
    others place differs = all-same integer stream before now place (leaves.others place differs)
        (dues place differs) (found place)

    -- The head belongs to one of the inputs.
    pub taken-less : head.input < length m.streams.items
    taken-less = subst (λ each. IfSome each (λ other. head.input < length m.streams.items)) was
        (within head.input)

    -- The input gives the range.
    pub taken-gives : GivesFrom (input_at integer stream before head.input) run
        (input_at integer stream now head.input)
    taken-gives = record {
      uses = record {
        drawn = [];
        drew = undrawn-same integer stream (has_ended integer stream before head.input)
            (has_ended integer stream now head.input) (slice_get before.streams head.input)
            (slice_get now.streams head.input) (rw (leaves.here, due, was) refl) (found head.input);
        in_order = rw (was, leaves.here) refl;
      };
      room = ap (held_of rank) leaves.here;
    }

    -- The other inputs use nothing.
    pub taken-spares : (place : ℕ) → ¬ (place ≡ head.input)
        → Uses (input_at integer stream before place) [] (input_at integer stream now place)
    taken-spares place differs = uses-same integer stream (others place differs)

    -- No range that the input still gives starts before the head's range.
    here-from : gives_of (input_at integer stream now head.input) ⊆ HasSortedStartsFrom n run.first
    here-from rest gives = (sorted head.input (run ∷ rest)
        (gives_of-uses taken-gives.uses rest gives)).rest

    -- What each input may still give is sorted by start.
    now-sorted : (place : ℕ) → gives_of (input_at integer stream now place) ⊆ HasSortedStarts n
    now-sorted = at-place
        (λ place. gives_of (input_at integer stream now place) ⊆ HasSortedStarts n) head.input
        (λ rest gives. sorted-lower n run.first 0 rest (omega arith) (here-from rest gives))
        (λ place differs rest gives. sorted place rest
        (gives_of-uses (taken-spares place differs) rest gives))

    -- The inputs are ready again.
    pub taken-inputs : AreReady integer stream now
    taken-inputs = record {
      can = at-place (λ place. has_ended integer stream now place ≡ false
          → IfSome (slice_get now.streams place) stream.can_draw) head.input
          (λ going. subst (λ each. IfSome each stream.can_draw) (sym (found head.input))
          (can head.input (ap (λ each. is_over each (before.due head.input)) was)))
          (λ place differs. can-same integer stream (others place differs) (can place));
      sorted = now-sorted;
      one = at-place (λ place. now.due place ≡ true → now.head_of place ≡ None) head.input
          (λ is. leaves.here)
          (λ place differs is. absurd (let no = taken-due place differs in cc));
      within = at-place (λ place. IfSome (now.head_of place) (λ each. place < length now.streams))
          head.input (rw leaves.here tt)
          (λ place differs. rw (leaves.others place differs, taken-streams) (within place));
    }

    -- There are fewer items left: one if the start of the head's range was reported, and otherwise
    -- `each`.
    pub taken-fewer : (each : ℕ) → LessBy (cond head.started 1 each)
        (inputs_left integer stream each before) (inputs_left integer stream each now)
    taken-fewer each =
        let amount = cond head.started 1 each in
        let left = option_map_or stream.draws_left (slice_get before.streams head.input) (at_most 0) in
        inputs_left-less integer stream amount each head.input before now taken-long taken-less
        (λ place differs. left-same integer stream before now place (leaves.others place differs)
        (dues place differs) (found place) each)
        (less-as amount _ _ (count_map (λ n. each * n + amount) left)
        (count_map (λ n. each * n + 0) left) (rw was refl)
        (rw (leaves.here, due, found head.input) refl) (λ finite. (finite, omega arith)))

    -- ---- no head starts before it
    module _ (least : (place : ℕ) → IfSome (now.head_of place) (λ each. run.first ≤ rank each.start))
      where
        -- At most one range, which starts no earlier, satisfies `IsOneFrom`.
        one-from : (each : Option (Head T)) → IfSome each (λ other. run.first ≤ rank other.start)
            → IsOneFrom run.first (held_of rank each)
        one-from None later = tt
        one-from (Some other) later = later

        -- The other inputs are as `Spares` states.
        pub taken-others_spared : (place : ℕ) → ¬ (place ≡ head.input)
            → Spares (input_at integer stream before place) run (input_at integer stream now place)
        taken-others_spared place differs = record {
          uses = taken-spares place differs;
          later = one-from (now.head_of place) (least place);
        }

        -- If no range is due and the head, if any, starts no earlier, the input gives none that
        -- starts earlier.
        starts-by : (each : Option (Head T)) (is_due : Bool) (at : Option I) → is_due ≡ false
            → IfSome each (λ other. run.first ≤ rank other.start)
            → gives_of (record {
              held = held_of rank each;
              undrawn = undrawn_by integer stream (is_over each is_due) at;
            }) ⊆ HasSortedStarts n
            → gives_of (record {
              held = held_of rank each;
              undrawn = undrawn_by integer stream (is_over each is_due) at;
            }) ⊆ HasSortedStartsFrom n run.first
        starts-by None true at isnt later sorted rest gives = absurd (cc)
        starts-by None false at isnt later sorted rest gives = rw (gives.2, gives.1) tt
        starts-by (Some other) is_due at isnt later sorted rest gives =
            let whole : HasSortedStarts n (run_of_head rank other ∷ gives.0) =
            subst (HasSortedStarts n) gives.2 (sorted rest gives) in
            rw gives.2 (record {
              starts = later;
              in_order = whole.in_order;
              in_type = whole.in_type;
              rest = whole.rest;
            })

        -- No range that an input still gives starts earlier.
        pub taken-starts : (place : ℕ)
            → gives_of (input_at integer stream now place) ⊆ HasSortedStartsFrom n run.first
        taken-starts = at-place
            (λ place. gives_of (input_at integer stream now place) ⊆ HasSortedStartsFrom n run.first)
            head.input here-from (λ place differs. starts-by (now.head_of place) (now.due place)
            (slice_get now.streams place) (taken-due place differs) (least place)
            (now-sorted place))
