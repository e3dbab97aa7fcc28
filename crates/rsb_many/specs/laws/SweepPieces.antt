-- The law of the pieces of a sweep: they come in the order of their starts.
use Rattle.std.proofs.Common.{◌≡◌, Bool, true, false, ◌++◌, map, refl, []}
use Rattle.rsb_integer.specs.declared.integer.Integer.{Ghosts as Elements}
use Rattle.rsb_integer.proofs.lemmas.Runs.{runs-canonical, runs-members}
use Rattle.rsb_streams.specs.Rows.{IsSorted}
use Rattle.rsb_streams.specs.Stream.{HasSortedStarts, Keeps}
use Rattle.rsb_streams.specs.laws.Stream.{canonical-sorted, runs-exist, settled_sorted}
use Rattle.rsb_streams.specs.declared.draw.Draw.{Ghosts as Stream}
use Rattle.rsb_many.specs.Rule.{crossing_events}
use Rattle.rsb_many.specs.SweepPieces.{edge_of, edges_of, odd_past, pieces_left, pieces_may_give, sweep_pieces, PiecesReady}
use Rattle.rsb_many.specs.declared.sweep_pieces.SweepPieces.{SweepPieces}

module _ {T N I A : Type 0} (integer : Elements T N) (stream : Stream I T N) where
  open integer use {rank, value_count as n}

  -- The law below, with the two values of `done` as cases.
  sweep_pieces-keeps : (s : SweepPieces T I A N) (done : Bool) → s.done ≡ done
      → (s.done ≡ false → PiecesReady integer stream s)
      → Keeps (HasSortedStarts n) (pieces_may_give integer stream s) (pieces_left integer stream s)
  sweep_pieces-keeps s true is ready = rw is (record {
    some = λ never. never [] refl;
    all = λ pieces none. rw none tt;
    ends = tt;
  })
  sweep_pieces-keeps s false is ready = rw is (record {
    some = λ never. (ready is).sweep.some (λ events may.
        let selected = odd_past (edges_of rank s.start
        ++ map edge_of (crossing_events s.rule s.depth events)) in
        let runs = runs-exist n selected in
        let canonical = runs-canonical n selected runs.0 runs.1 in
        never runs.0 (λ nothing. nothing events may (record {
          sorted = canonical-sorted n 0 runs.0 canonical.apart canonical.within;
          same = runs-members n selected runs.0 runs.1;
        })));
    all = λ pieces may. settled_sorted n 0 pieces
        (λ fails. may (λ events at all. fails all.sorted));
    ends = (ready is).sweep.ends;
  })

  -- The pieces come in the order of their starts, some list of them may come, and they end.
  pub sweep_pieces-sorted : IsSorted integer (sweep_pieces {A = A} integer stream)
  sweep_pieces-sorted s ready = sweep_pieces-keeps s s.done refl ready
