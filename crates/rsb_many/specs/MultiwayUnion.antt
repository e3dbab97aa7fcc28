-- The union of any number of streams.
use Rattle.std.proofs.lemmas.Bool.{cases_eq}
use Rattle.std.specs.Prelude.{ℕ}
use Rattle.rsb_integer.specs.declared.integer.Integer.{Ghosts as Elements}
use Rattle.rsb_streams.specs.Lookahead.{Input, Sameness}
use Rattle.rsb_streams.specs.Rows.{stream_asking}
use Rattle.rsb_streams.specs.UnionIter.{joined_inputs, union_iter, AsksAhead}
use Rattle.rsb_streams.specs.declared.draw.Draw.{Ghosts as Stream}
use Rattle.rsb_streams.specs.declared.union_iter.UnionIter.{UnionIter}
use Rattle.rsb_many.specs.KMerge.{kmerge, kmerge_inputs}
use Rattle.rsb_many.specs.declared.kmerge.KMerge.{KMerge}
use Rattle.rsb_many.specs.declared.operation_results.multiway_union.MultiwayUnion.{MultiwayUnion}

-- A test of whether two places are equal, with a proof of its answer.
abbrev pub same_place : Sameness ℕ
same_place one other = cases_eq one other

module _ {T N I A : Type 0} (integer : Elements T N) (stream : Stream I T N) where
  -- A merge of many streams, joined.
  abbrev pub joined_kmerge : Stream (UnionIter T (KMerge T I A N)) T N
  joined_kmerge = union_iter integer (kmerge integer stream)

  -- The union as a stream. A draw looks ahead by at most one range of each stream.
  abbrev pub multiway_union : Stream (MultiwayUnion T I A N) T N
  multiway_union = stream_asking integer
      (λ s item t. AsksAhead same_place integer (kmerge_inputs integer stream) s.iter item t.iter)
      (λ s. joined_kmerge.can_draw s.iter)
      (λ s. joined_kmerge.draws_left s.iter)
      (λ s. joined_kmerge.may_give s.iter)

  -- The inputs of a union. The range that it holds is counted as one from the place `from`.
  abbrev pub multiway_union_inputs : ℕ → MultiwayUnion T I A N → ℕ → Input
  multiway_union_inputs from s =
      joined_inputs same_place integer (kmerge_inputs integer stream) from s.iter
