-- A sweep that is ready, and one that was just built.
use Rattle.std.proofs.Common.{ℕ, Bool, List, slice_get, subst}
use Rattle.rsb_integer.specs.declared.integer.Integer.{Ghosts as Elements}
use Rattle.rsb_streams.specs.Stream.{◌⊆◌, HasOutcome}
use Rattle.rsb_streams.specs.Touching.{IsTouching, IsTouchingIn}
use Rattle.rsb_streams.specs.declared.draw.Draw.{Ghosts as Stream}
use Rattle.rsb_streams.proofs.lemmas.sources.Known.{IsLawful}
use Rattle.rsb_many.specs.Drawn.{has_begun, inputs_of, DrawnReady, IsBegunOf}
use Rattle.rsb_many.specs.Heads.{head_of}
use Rattle.rsb_many.specs.Inputs.{has_ended, input_at}
use Rattle.rsb_many.specs.laws.KMerge.{inputs-finite, some-by}
use Rattle.rsb_many.specs.Many.{gives_of, may_give_at, OneOfEach}
use Rattle.rsb_many.specs.MultiwaySweep.{stream_count, sweep_inputs, BeginsSweep, SweepReady}
use Rattle.rsb_many.specs.Sweep.{AreEventsOf}
use Rattle.rsb_many.specs.declared.drawn.Drawn.{Drawn}
use Rattle.rsb_many.specs.declared.multiway_sweep.MultiwaySweep.{MultiwaySweep}
use Rattle.rsb_many.proofs.lemmas.inputs.OneInput.{held_of}
use Rattle.rsb_many.proofs.lemmas.inputs.Rests.{has_events, rests_by-none}
use Rattle.rsb_many.proofs.lemmas.merging.Sets.{of_each-wider}
use Rattle.rsb_many.proofs.lemmas.events.Lists.{events-from_rests}

-- Whether a range of the input at a place has started and not ended.
abbrev pub begun_of : {T I A N : Type 0} → MultiwaySweep T I A N → ℕ → Bool
begun_of s place = has_begun (head_of s.inputs.heads.heads place)

module _ {T N I A : Type 0} (integer : Elements T N) (stream : Stream I T N)
    (laws : IsLawful integer stream) where
  open integer use {rank, value_count as n}

  -- Each input may give some list.
  inputs-some : (s : Drawn T I A N) → DrawnReady integer stream s → (place : ℕ)
      → HasOutcome (gives_of (input_at integer stream (inputs_of s) place))
  inputs-some s ready place = some-by integer stream laws.sorted
      (has_ended integer stream (inputs_of s) place) (slice_get s.streams.items place)
      (held_of rank (head_of s.heads.heads place)) (ready.inputs.can place)

  -- A sweep is ready if its inputs are ready and what they give is touching.
  pub sweep-ready : (s : MultiwaySweep T I A N) → DrawnReady integer stream s.inputs
      → ((place : ℕ) → gives_of (sweep_inputs integer stream s place) ⊆ IsTouching)
      → SweepReady integer stream s
  sweep-ready s drawn touching = record {
    drawn = drawn;
    touching = touching;
    some = has_events (stream_count s) (λ place. gives_of (sweep_inputs integer stream s place))
        (begun_of s) (λ place less. inputs-some s.inputs drawn place)
        (λ place less. touching place);
    ends = inputs-finite integer stream laws.sorted 2 (inputs_of s.inputs) drawn.inputs;
  }

  -- A sweep that was just built gives the events of lists that the streams may give.
  pub sweeps-over : (streams : List I) (s : MultiwaySweep T I A N)
      → IsBegunOf integer stream streams s.inputs
      → ((place : ℕ) → may_give_at stream.may_give streams place ⊆ IsTouchingIn n)
      → BeginsSweep integer stream streams s
  sweeps-over streams s begun touching = record {
    made = record {
      gives = λ events may nothing. may (λ lists each given.
          nothing lists
          (subst (λ count. OneOfEach count (may_give_at stream.may_give streams) lists) begun.count
          (of_each-wider (stream_count s)
          (λ place. gives_of (sweep_inputs integer stream s place))
          (may_give_at stream.may_give streams)
          (λ place less. (begun.begun place).gives) lists each))
          (events-from_rests lists events
          (subst (λ rests. AreEventsOf rests events)
          (rests_by-none (begun_of s) lists begun.unstarted) given)));
      count = begun.count;
    };
    ready = sweep-ready s begun.ready
        (λ place runs gives. (touching place runs ((begun.begun place).gives runs gives)).spaced);
    touching = touching;
    begun = begun.begun;
  }
