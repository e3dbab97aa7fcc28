-- The law of a merge of any number of streams: its ranges come in the order of their starts.
use Rattle.std.proofs.Common.{◌≡◌, ℕ, ◌+◌, ◌*◌, Bool, true, false, cond, List, [], ◌++◌, length, slice_get, refl, Option, Some, None}
use Rattle.std.specs.Iterator.{at_most, IsFinite}
use Rattle.std.specs.Option.{option_map_or}
use Rattle.std.specs.Prelude.{IfSome, MatchOption}
use Rattle.rsb_integer.specs.Runs.{Interval}
use Rattle.rsb_integer.specs.declared.integer.Integer.{Ghosts as Elements}
use Rattle.rsb_streams.specs.Rows.{IsSorted}
use Rattle.rsb_streams.specs.Stream.{outcomes_unless, HasOutcome}
use Rattle.rsb_streams.specs.declared.draw.Draw.{Ghosts as Stream}
use Rattle.rsb_many.specs.Drawn.{inputs_of}
use Rattle.rsb_many.specs.Inputs.{has_ended, input_at, inputs_left, left_at, AreReady, Inputs}
use Rattle.rsb_many.specs.laws.Inputs.{left-finite, sum_below-finite}
use Rattle.rsb_many.specs.KMerge.{kmerge}
use Rattle.rsb_many.specs.Many.{gives_of}
use Rattle.rsb_many.specs.laws.Many.{merges_all-some, merges_all-starts}

module _ {T N I : Type 0} (integer : Elements T N) (stream : Stream I T N)
    (sorted : IsSorted integer stream) where
  -- Some list may come from an input. By cases: the input has ended, or it has a stream.
  pub some-by : (over : Bool) (found : Option I) (held : List Interval)
      → (over ≡ false → IfSome found stream.can_draw)
      → HasOutcome (gives_of (record {
        held = held;
        undrawn = outcomes_unless over
            (λ runs. MatchOption found (runs ≡ []) (λ s. stream.may_give s runs));
      }))
  some-by true found held can = λ never. never (held ++ []) ([], refl, refl)
  some-by false None held can = λ never. never (held ++ []) ([], refl, refl)
  some-by false (Some s) held can =
      λ never. (sorted s (can refl)).some (λ runs may. never (held ++ runs) (runs, may, refl))

  -- If an input has a stream, that stream ends.
  ends-by : (found : Option I) → IfSome found stream.can_draw
      → IsFinite (option_map_or stream.draws_left found (at_most 0))
  ends-by None can = tt
  ends-by (Some s) can = (sorted s can).ends

  -- The number of items that ready inputs have left is finite.
  pub inputs-finite : (each : ℕ) (s : Inputs T I) → AreReady integer stream s
      → IsFinite (inputs_left integer stream each s)
  inputs-finite each s ready = sum_below-finite (length s.streams) (left_at integer stream each s)
      (λ place. left-finite (has_ended integer stream s place)
      (λ left. each * left + option_map_or (λ head. cond head.started 1 each) (s.head_of place) 0)
      (option_map_or stream.draws_left (slice_get s.streams place) (at_most 0))
      (λ going. ends-by (slice_get s.streams place) (ready.can place going)))

  -- The ranges come in the order of their starts, some list of them may come, and they end.
  pub kmerge-sorted : {A : Type 0} → IsSorted integer (kmerge {A = A} integer stream)
  kmerge-sorted s ready =
      let inputs = inputs_of s.inputs in
      let are = ready.drawn.inputs in
      let count = length inputs.streams in
      record {
        some = merges_all-some integer.value_count count
            (λ place. gives_of (input_at integer stream inputs place))
            (λ place less. some-by (has_ended integer stream inputs place)
            (slice_get inputs.streams place) (input_at integer stream inputs place).held
            (are.can place))
            (λ place less. are.sorted place);
        all = merges_all-starts integer.value_count 0 count
            (λ place. gives_of (input_at integer stream inputs place))
            (λ place less. are.sorted place);
        ends = inputs-finite 1 inputs are;
      }
