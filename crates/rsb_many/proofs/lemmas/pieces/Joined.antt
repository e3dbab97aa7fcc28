-- The joined pieces of a sweep: one draw of them, and how they are built.
use Rattle.std.proofs.Common.{◌≡◌, ℕ, ◌<◌, ◌≤◌, Bool, true, false, List, [], ◌∷◌, length, sym, subst, arith, Option, Some, None}
use Rattle.std.specs.Iterator.{MakesProgress, Yields}
use Rattle.std.specs.Prelude.{IfSome, MatchBool, MatchOption}
use Rattle.std.specs.declared.ops.RangeInclusive.{RangeInclusive}
use Rattle.rsb_integer.specs.declared.integer.Integer.{Ghosts as Elements}
use Rattle.rsb_streams.specs.Fused.{fused_stream, Fused}
use Rattle.rsb_streams.specs.Lookahead.{Input}
use Rattle.rsb_streams.specs.PutBack.{fused_of, IsFresh}
use Rattle.rsb_streams.specs.Rows.{stream_through}
use Rattle.rsb_streams.specs.Stream.{◌⊆◌, joined_runs}
use Rattle.rsb_streams.specs.UnionIter.{unless_ended}
use Rattle.rsb_streams.specs.declared.draw.Draw.{Ghosts as Stream}
use Rattle.rsb_streams.specs.declared.union_iter.UnionIter.{UnionIter}
use Rattle.rsb_many.specs.JoinedPieces.{joined_pieces, joined_telling, pieces_union, BeginsJoined, JoinedReady}
use Rattle.rsb_many.specs.Many.{may_give_at, HoldOneAtMost, IsBegun}
use Rattle.rsb_many.specs.MultiwaySweep.{sweep_inputs, sweep_may_give, BeginsSweep}
use Rattle.rsb_many.specs.Rule.{first_edge}
use Rattle.rsb_many.specs.SweepPieces.{edges_of, pieces_may_give, pieces_telling, sweep_pieces, all_ended, unless_all_ended, HasEdgesFrom, PassesSome, PiecesReady, Telling}
use Rattle.rsb_many.specs.declared.multiway_sweep.MultiwaySweep.{MultiwaySweep}
use Rattle.rsb_many.specs.declared.sweep_pieces.Rule.{Rule}
use Rattle.rsb_many.specs.declared.sweep_pieces.SweepPieces.{SweepPieces}
use Rattle.rsb_many.proofs.lemmas.events.ByDepth.{first-low, joined-by_depth, some-edges, some-none_deep}
use Rattle.rsb_many.proofs.lemmas.pieces.Passing.{passes-none, passes-then}

module _ {T N I A : Type 0} (integer : Elements T N) (stream : Stream I T N) where
  open integer use {rank, value_count as n}

  -- ---- one draw

  -- The inputs of the pieces and the events that may come. Once the pieces have ended, there are
  -- none.
  abbrev telling_now : Fused (SweepPieces T I A N) → Telling
  telling_now s = unless_all_ended s.done (pieces_telling integer stream s.iter)

  -- A draw passes some events, whether or not the pieces had ended before it and have ended now.
  passes-by : (done after : Bool) (s t : SweepPieces T I A N) (item : Option (RangeInclusive T))
      → MatchBool done (item ≡ None) ((sweep_pieces {A = A} integer stream).draw_gives s item t)
      → MatchOption item (after ≡ true) (λ _. after ≡ false)
      → PassesSome (unless_all_ended done (pieces_telling integer stream s))
      (unless_all_ended after (pieces_telling integer stream t))
  passes-by true true s t None call over = passes-none all_ended (λ place. omega arith)
  passes-by true false s t None call over = absurd (cc)
  passes-by true after s t (Some range) call over = absurd (cc)
  passes-by false true s t None call over = call.asks.passes
  passes-by false false s t None call over = absurd (cc)
  passes-by false true s t (Some range) call over = absurd (cc)
  passes-by false false s t (Some range) call over = call.asks

  -- A draw passes some events.
  passes-call : (s t : Fused (SweepPieces T I A N)) (item : Option (RangeInclusive T))
      → (fused_stream (sweep_pieces {A = A} integer stream)).draw_gives s item t
      → PassesSome (telling_now s) (telling_now t)
  passes-call s t item call = passes-by s.done t.done s.iter t.iter item call.0 call.1

  -- So do several draws.
  passes-yields : (s : Fused (SweepPieces T I A N)) (ranges : List (RangeInclusive T))
      (t : Fused (SweepPieces T I A N)) → HoldOneAtMost (telling_now s).inputs
      → Yields (fused_stream (sweep_pieces {A = A} integer stream)).draw_gives s ranges t
      → PassesSome (telling_now s) (telling_now t)
  passes-yields s [] t holds same =
      subst (λ each. PassesSome (telling_now s) (telling_now each)) same
      (passes-none (telling_now s) holds)
  passes-yields s (range ∷ ranges) t holds draws =
      let first = passes-call s draws.0 (Some range) draws.1 in
      passes-then (telling_now s) (telling_now draws.0) (telling_now t) first
      (passes-yields draws.0 ranges t first.holds draws.2)

  module _ (s t : UnionIter T (SweepPieces T I A N)) (ready : JoinedReady integer stream s) where
    -- A draw of the union passes some events.
    joined-passes : (item : Option (RangeInclusive T))
        → (pieces_union {A = A} integer stream).draw_gives s item t
        → PassesSome (joined_telling integer stream s) (joined_telling integer stream t)
    joined-passes None call = passes-call (fused_of s.iter) (fused_of t.iter) None call.asks.draw
    joined-passes (Some range) call =
        let draws = call.asks.draws in
        let first = passes-yields (fused_of s.iter) call.asks.drawn draws.0 ready.holds draws.1 in
        passes-then (joined_telling integer stream s) (telling_now draws.0)
        (joined_telling integer stream t) first
        (passes-call draws.0 (fused_of t.iter) t.iter.held draws.2)

    -- A draw of the union is a draw of this stream.
    pub joined-known : (item : Option (RangeInclusive T))
        → (pieces_union {A = A} integer stream).draw_gives s item t
        → (joined_pieces {A = A} integer stream).draw_gives s item t
    joined-known None call =
        let passed = joined-passes None call in
        record {
          answers = call.answers;
          rests = (record { union = call.rests.0; holds = passed.holds }, call.rests.1);
          asks = passed;
        }
    joined-known (Some range) call =
        record { answers = call.answers; rests = tt; asks = joined-passes (Some range) call }

  -- A draw of a stream that has the joined pieces as a part makes progress.
  pub joined-goes : {S : Type 0} (part : S → UnionIter T (SweepPieces T I A N)) (s t : S)
      → JoinedReady integer stream (part s) → (item : Option (RangeInclusive T))
      → (pieces_union {A = A} integer stream).draw_gives (part s) item (part t)
      → MakesProgress (pieces_union {A = A} integer stream).can_draw
      (pieces_union {A = A} integer stream).draws_left (part s) item (part t)
      → MakesProgress (stream_through part (joined_pieces {A = A} integer stream)).can_draw
      (stream_through part (joined_pieces {A = A} integer stream)).draws_left s item t
  joined-goes part s t ready None call goes =
      record { on = λ finite. tt; keeps = tt; rests = goes.rests }
  joined-goes part s t ready (Some range) call goes =
      let passed = joined-passes (part s) (part t) ready (Some range) call in
      record {
        on = λ finite.
            let on = goes.on finite in
            (record { union = on.0; holds = passed.holds }, on.1, on.2);
        keeps = record { union = goes.keeps; holds = passed.holds };
        rests = λ finite. tt;
      }

  -- ---- how they are built
  module _ (sweep : MultiwaySweep T I A N) (rule : Rule) (pieces : SweepPieces T I A N)
      (of : pieces.sweep ≡ sweep) (by : pieces.rule ≡ rule) (none : pieces.depth ≡ 0)
      (begun : edges_of rank pieces.start ≡ first_edge rule) (undone : pieces.done ≡ false)
      (streams : List I) (over : BeginsSweep integer stream streams sweep) where
    -- The pieces of the sweep before any range has started.
    abbrev begins : SweepPieces T I A N
    begins = record {
      sweep = sweep;
      rule = rule;
      depth = 0;
      start = pieces.start;
      done = false;
    }

    -- The given pieces are these.
    same : pieces ≡ begins
    same = λ i. record {
      sweep = of i;
      rule = by i;
      depth = none i;
      start = pieces.start;
      done = undone i;
    }

    -- If a piece has begun, it starts at a value, because the type has one.
    start-in : 0 < n → (start : Option T) → edges_of rank start ≡ first_edge rule
        → IfSome start (λ value. rank value < n)
    start-in some None is = tt
    start-in some (Some value) is =
        let first = first-low rank rule (Some value) is in
        omega (arith, first, some)

    -- The pieces of a sweep that was just built are ready.
    pub pieces-ready : 0 < n → (sweep_pieces {A = A} integer stream).can_draw pieces
    pieces-ready some = λ going. subst (PiecesReady integer stream) (sym same) (record {
      sweep = over.ready;
      start = start-in some pieces.start begun;
      edges = λ events may. subst (λ low. HasEdgesFrom n low events)
          (sym (first-low rank rule pieces.start begun))
          (some-edges n (length streams) (may_give_at stream.may_give streams) over.touching events
          (over.made.gives events may));
      deep = λ events may. some-none_deep n (length streams)
          (may_give_at stream.may_give streams) over.touching events
          (over.made.gives events may);
    })

    module _ (made : UnionIter T (SweepPieces T I A N)) (new : IsFresh pieces made.iter) where
      -- Its inputs are those of the sweep.
      as-inputs : (Fact : Input → Type 0) (place : ℕ)
          → Fact (sweep_inputs integer stream sweep place)
          → Fact ((joined_telling integer stream made).inputs place)
      as-inputs Fact place holds =
          subst (λ done. Fact (unless_ended done
          ((pieces_telling integer stream made.iter.iter).inputs place))) (sym new.undone)
          (subst (λ each. Fact ((pieces_telling integer stream each).inputs place)) (sym new.source)
          (subst (λ each. Fact ((pieces_telling integer stream each).inputs place)) (sym same)
          holds))

      -- The union is ready.
      pub joined-ready : (pieces_union {A = A} integer stream).can_draw made
          → JoinedReady integer stream made
      joined-ready ready = record {
        union = ready;
        holds = λ place. as-inputs (λ input. length input.held ≤ 1) place (over.begun place).one;
      }

      -- It is built from the streams, and gives only runs of what the rule selects.
      pub joined-made : (pieces_union {A = A} integer stream).can_draw made
          → (pieces_union {A = A} integer stream).may_give made
          ⊆ joined_runs n (pieces_may_give integer stream pieces)
          → BeginsJoined integer stream rule streams made
      joined-made ready gives = record {
        ready = joined-ready ready;
        gives = λ runs may. joined-by_depth n (length streams)
            (may_give_at stream.may_give streams) over.touching rank rule pieces.start
            (sweep_may_give integer stream sweep) begun over.made.gives runs
            (subst (λ each. joined_runs n (pieces_may_give integer stream each) runs) same
            (gives runs may));
        begun = λ place. as-inputs (IsBegun (may_give_at stream.may_give streams place)) place
            (over.begun place);
      }
