-- The law of pieces: they are sorted by start.
use Rattle.std.proofs.Common.{◌≡◌, ◌+◌, Bool, true, false, [], ◌++◌, length, refl}
use Rattle.std.specs.Iterator.{count_map, count_unless}
use Rattle.rsb_integer.specs.declared.integer.Integer.{Ghosts as Elements}
use Rattle.rsb_integer.proofs.lemmas.Runs.{runs-canonical, runs-members}
use Rattle.rsb_streams.specs.OddPieces.{ends_of, IsGoing, odd_pieces, oddly_covered, pending_rest, pieces_of}
use Rattle.rsb_streams.specs.laws.Stream.{canonical-sorted, runs-exist, settled_sorted}
use Rattle.rsb_streams.specs.Rows.{IsSorted}
use Rattle.rsb_streams.specs.Stream.{HasSortedStarts, Keeps, outcomes_unless}
use Rattle.rsb_streams.specs.declared.draw.Draw.{Ghosts as Stream}
use Rattle.rsb_streams.specs.declared.odd_pieces.OddPieces.{OddPieces}

module _ {T N I : Type 0} (integer : Elements T N) (stream : Stream I T N)
    (sorted : IsSorted integer stream) where
  open integer use {rank, value_count as n}

  -- Some list of pieces may come, the pieces are sorted by start, and they end. By cases on whether
  -- all was given.
  keeps-by : (done : Bool) (s : OddPieces T I) → (done ≡ false → IsGoing integer stream s)
      → Keeps (HasSortedStarts n)
      (outcomes_unless done (pieces_of n (pending_rest rank s) (stream.may_give s.iter)))
      (count_unless done (count_map (λ left. left + length (ends_of s.end)) (stream.draws_left s.iter)))
  keeps-by true s ready = record {
    some = λ never. never [] refl;
    all = λ pieces may. rw may tt;
    ends = tt;
  }
  keeps-by false s ready =
      let kept = sorted s.iter (ready refl).callable in
      record {
        some = λ never. kept.some (λ given may.
            let selected = oddly_covered (pending_rest rank s ++ given) in
            let runs = runs-exist n selected in
            let canonical = runs-canonical n selected runs.0 runs.1 in
            never runs.0 (λ nothing. nothing given may (record {
              sorted = canonical-sorted n 0 runs.0 canonical.apart canonical.within;
              same = runs-members n selected runs.0 runs.1;
            })));
        all = λ pieces may. settled_sorted n 0 pieces
            (λ fails. may (λ given at all. fails all.sorted));
        ends = kept.ends;
      }

  -- The pieces of a source are sorted by start.
  pub odd_pieces-sorted : IsSorted integer (odd_pieces integer stream)
  odd_pieces-sorted s ready = keeps-by s.done s ready
