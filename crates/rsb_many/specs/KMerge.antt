-- The merge of any number of streams by the starts of their ranges.
use Rattle.std.specs.Prelude.{◌≡◌, ℕ, ◌+◌, ◌*◌, ◌≤◌, false, cond, nat_lt, List, length, Option}
use Rattle.std.specs.declared.ops.RangeInclusive.{RangeInclusive}
use Rattle.rsb_integer.specs.declared.integer.Integer.{Ghosts as Elements}
use Rattle.rsb_streams.specs.Lookahead.{AsksOne, Input}
use Rattle.rsb_streams.specs.Rows.{stream_asking}
use Rattle.rsb_streams.specs.Stream.{◌⊆◌, IsReadyAnd}
use Rattle.rsb_streams.specs.declared.draw.Draw.{Ghosts as Stream}
use Rattle.rsb_many.specs.Drawn.{has_begun, inputs_of, DrawnReady}
use Rattle.rsb_many.specs.Heads.{binary_digits, head_of}
use Rattle.rsb_many.specs.Inputs.{input_at, inputs_left, inputs_merge}
use Rattle.rsb_many.specs.Many.{may_give_at, merges_all, IsBegun}
use Rattle.rsb_many.specs.declared.kmerge.KMerge.{KMerge}

-- The most comparisons of keys that one call may make with `count` inputs: four for each binary
-- digit of `count`, with at least one digit, and four more.
abbrev pub comparison_bound : ℕ → ℕ
comparison_bound count = 4 * binary_digits (cond (nat_lt 0 count) count 1) + 4

module _ {T N I A : Type 0} (integer : Elements T N) (stream : Stream I T N) where
  -- Whether the streams are ready, and the start of no held range was reported.
  pub record KMergeReady (s : KMerge T I A N) : Type 0 where
    pub drawn : DrawnReady integer stream s.inputs
    pub unstarted : (place : ℕ) → has_begun (head_of s.inputs.heads.heads place) ≡ false

  -- The inputs of a merge, by their places from 0.
  abbrev pub kmerge_inputs : KMerge T I A N → ℕ → Input
  kmerge_inputs s place = input_at integer stream (inputs_of s.inputs) place

  -- Whether a draw takes one range from one of the streams, or finds that all have ended. It makes
  -- few comparisons, and their count never falls.
  pub record AsksInOrder (s : KMerge T I A N) (item : Option (RangeInclusive T))
      (t : KMerge T I A N) : Type 0 where
    pub takes : AsksOne integer.rank kmerge_inputs s item t
    pub count : length t.inputs.streams.items ≡ length s.inputs.streams.items
    pub compared : t.inputs.heads.comparisons
        ≤ s.inputs.heads.comparisons + comparison_bound (length s.inputs.streams.items)
    pub counted : s.inputs.heads.comparisons ≤ t.inputs.heads.comparisons

  -- The merge as a stream: what is held of all inputs and what is still to come, by starts.
  abbrev pub kmerge : Stream (KMerge T I A N) T N
  kmerge = stream_asking integer AsksInOrder KMergeReady
      (λ s. inputs_left integer stream 1 (inputs_of s.inputs))
      (λ s. inputs_merge integer stream (inputs_of s.inputs))

  -- Whether `s` is ready and gives only merges of what the streams may give.
  abbrev pub MakesKMerge : Stream (KMerge T I A N) T N → List I → KMerge T I A N → Type 0
  MakesKMerge row streams s = IsReadyAnd row.can_draw s (row.may_give s
      ⊆ merges_all integer.value_count (length streams) (may_give_at stream.may_give streams))

  -- Whether `s` is that merge, with the first range of each stream drawn and nothing more.
  pub record BeginsKMerge (row : Stream (KMerge T I A N) T N) (streams : List I)
      (s : KMerge T I A N) : Type 0 where
    pub made : MakesKMerge row streams s
    pub begun : (place : ℕ) → IsBegun (may_give_at stream.may_give streams place)
        (kmerge_inputs s place)
    pub count : length s.inputs.streams.items ≡ length streams
