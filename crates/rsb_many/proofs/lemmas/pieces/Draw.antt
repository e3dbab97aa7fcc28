-- One draw of the pieces of a sweep: one event after the other is passed.
use Rattle.std.proofs.Common.{◌≡◌, inl, inr, ℕ, ◌+◌, ◌<◌, ◌≤◌, Bool, true, false, ◌&&◌, ◌||◌, ◌^◌, nat_le, List, [], ◌∷◌, ◌++◌, map, refl, sym, subst, ◌∙◌, arith, Option, Some, None}
use Rattle.std.proofs.lemmas.Bool.Decides.{nat_tests}
use Rattle.std.proofs.lemmas.List.Sums.{sum_by-cons}
use Rattle.std.specs.Iterator.{size, MakesProgress}
use Rattle.std.specs.Option.{option_len}
use Rattle.std.specs.Prelude.{IfSome, MatchBool}
use Rattle.std.specs.declared.ops.RangeInclusive.{RangeInclusive}
use Rattle.rsb_integer.specs.Rank.{interval_of}
use Rattle.rsb_integer.specs.Runs.{Interval, covers, members}
use Rattle.rsb_integer.specs.Selection.{exclusive_or}
use Rattle.rsb_integer.specs.declared.integer.Integer.{Ghosts as Elements}
use Rattle.rsb_integer.proofs.lemmas.List.{true_or_false}
use Rattle.rsb_integer.proofs.lemmas.Members.{members-cons}
use Rattle.rsb_streams.specs.OddPieces.{ArePieces}
use Rattle.rsb_streams.specs.PutBack.{held_list}
use Rattle.rsb_streams.specs.Stream.{◌⊆◌, Outcomes}
use Rattle.rsb_streams.specs.laws.Stream.{settled_le, settled_lt}
use Rattle.rsb_streams.specs.declared.draw.Draw.{Ghosts as Stream}
use Rattle.rsb_streams.proofs.lemmas.odd.Ranks.{no-pieces}
use Rattle.rsb_many.specs.Heads.{head_of}
use Rattle.rsb_many.specs.MultiwaySweep.{events_left, stream_count, sweep_may_give, SweepReady, Sweeps}
use Rattle.rsb_many.specs.Rule.{crosses, crossing_events, depth_after, end_count, start_count, CanPass, IsDepth}
use Rattle.rsb_many.specs.Sweep.{event_of, End, Event, Start}
use Rattle.rsb_many.specs.SweepPieces.{edge_of, edges_of, going_gives, going_telling, low_of, odd_past, pieces_left, sweep_pieces, all_ended, HasEdgesFrom, IsEventIn, PassesAll, PassesEdge, PassesEvent, PassesSome, PiecesReady, Telling}
use Rattle.rsb_many.specs.declared.multiway_sweep.MultiwaySweep.{MultiwaySweep}
use Rattle.rsb_many.specs.declared.sweep_event.SweepEvent.{SweepEvent}
use Rattle.rsb_many.specs.declared.sweep_pieces.Rule.{Rule}
use Rattle.rsb_many.specs.declared.sweep_pieces.SweepPieces.{SweepPieces}
use Rattle.rsb_many.proofs.lemmas.inputs.OneInput.{held-short}
use Rattle.rsb_many.proofs.lemmas.events.ByDepth.{crossing-edges, crossing-next, crossing-none}
use Rattle.rsb_many.proofs.lemmas.events.Depths.{some-depth, EndsOneMore}
use Rattle.rsb_many.proofs.lemmas.events.Edges.{edge-ended, edges-lower, low-next, pieces-next, settled-event, start-next}
use Rattle.rsb_many.proofs.lemmas.pieces.Passing.{passes-end, passes-more, passes-none}

-- An option has at most one value.
len-most : {T : Type 0} (start : Option T) → option_len start ≤ 1
len-most None = omega arith
len-most (Some value) = omega arith

-- ---- once an event is passed

module _ {T : Type 0} (rank : T → ℕ) (n : ℕ) (rule : Rule) (depth : ℕ) (event : Event)
    (old : Option T) (piece : Option (RangeInclusive T)) (after : ℕ) (new : Option T)
    (passes : PassesEvent rank n rule depth event old piece after new) where
  -- If a piece begins or ends at the event, its edge is passed; otherwise nothing changes.
  passes-edge : (test : Bool) → crosses rule depth event ≡ test
      → MatchBool test (PassesEdge rank n (edge_of event) old piece new)
      ((piece ≡ None) × (new ≡ old))
  passes-edge test is = subst (λ each. MatchBool each
      (PassesEdge rank n (edge_of event) old piece new) ((piece ≡ None) × (new ≡ old))) is
      passes.edge

  -- A piece that has begun starts at a value.
  start-in : IfSome old (λ value. rank value < n) → IfSome new (λ value. rank value < n)
  start-in within = elim (true_or_false (crosses rule depth event)) [
    | inl edge ↦ begun new refl (passes-edge true edge)
    | inr none ↦ subst (λ each. IfSome each (λ value. rank value < n))
        (sym (passes-edge false none).1) within
  ]
    where
      -- The cases are whether a piece has begun.
      begun : (each : Option T) → new ≡ each → PassesEdge rank n (edge_of event) old piece new
          → IfSome each (λ value. rank value < n)
      begun None is edge = tt
      begun (Some value) is edge = start-next rank n event [] old piece value
          (subst (λ each. PassesEdge rank n (edge_of event) old piece each) is edge)

  -- No edge to come lies before the start of a piece that has begun.
  edges-next : (events : List Event) → HasEdgesFrom n (low_of rank old) (event ∷ events)
      → HasEdgesFrom n (low_of rank new) events
  edges-next events edges = elim (true_or_false (crosses rule depth event)) [
    | inl edge ↦ low-next rank n event events old piece new (passes-edge true edge) edges
    | inr none ↦ subst (λ each. HasEdgesFrom n (low_of rank each) events)
        (sym (passes-edge false none).1)
        (let starts = edges.0 in
        edges-lower n (edge_of event) (low_of rank old) events starts edges.2)
  ]

  -- The piece that ends at the event, followed by the pieces after it, are pieces before it.
  pieces-passed : (events : List Event) (pieces : List Interval) → CanPass depth event
      → HasEdgesFrom n (low_of rank old) (event ∷ events)
      → ArePieces n (odd_past (edges_of rank new
      ++ map edge_of (crossing_events rule after events)))
      pieces
      → ArePieces n (odd_past (edges_of rank old
      ++ map edge_of (crossing_events rule depth (event ∷ events)))) (held_list rank piece
      ++ pieces)
  pieces-passed events pieces can edges all =
      let later = crossing_events rule (depth_after depth event) events in
      let now = subst (λ each. ArePieces n
      (odd_past (edges_of rank new ++ map edge_of (crossing_events rule each events))) pieces)
      passes.depth all in
      let next = crossing-next rule depth event events can in
      subst (λ each. ArePieces n (odd_past (edges_of rank old ++ map edge_of each))
      (held_list rank piece ++ pieces)) (sym next)
      (elim (true_or_false (crosses rule depth event)) [
        | inl edge ↦ rw edge (pieces-next rank n event later old piece new pieces
            (passes-edge true edge) (
              edges.0,
              edges.1,
              crossing-edges n (edge_of event) rule (depth_after depth event) events edges.2,
            ) now)
        | inr none ↦
            let still = passes-edge false none in
            rw (none, still.0) (subst (λ each. ArePieces n
            (odd_past (edges_of rank each ++ map edge_of later)) pieces) still.1 now)
      ])

  -- A piece that ends had begun before the event, and no piece has begun after it.
  piece-ended : (range : RangeInclusive T) → piece ≡ Some range
      → (option_len old ≡ 1) × (option_len new ≡ 0)
  piece-ended range is = elim (true_or_false (crosses rule depth event)) [
    | inl edge ↦ edge-ended rank n event [] old range new
        (subst (λ each. PassesEdge rank n (edge_of event) old each new) is (passes-edge true edge))
    | inr none ↦ absurd (let still = (passes-edge false none).0 in cc)
  ]

-- If all ranges that have started end among the events to come, the same holds after one event.
depth-next : (depth : ℕ) (event : Event) (events : List Event) → CanPass depth event
    → IsDepth depth (event ∷ events) → IsDepth (depth_after depth event) events
depth-next depth (Start range input) events can is =
    let starts = sum_by-cons start_count (Start range input) events in
    let ends = sum_by-cons end_count (Start range input) events in
    omega arith
depth-next depth (End last input) events can is =
    let starts = sum_by-cons start_count (End last input) events in
    let ends = sum_by-cons end_count (End last input) events in
    omega arith

-- If the events after it end at most `count` more ranges than they start, an event can be counted.
can-pass : (depth count : ℕ) (event : Event) (events : List Event) → count < 2 ^ 64
    → IsDepth depth (event ∷ events) → EndsOneMore events count → CanPass depth event
can-pass depth count (Start range input) events small is more =
    let starts = sum_by-cons start_count (Start range input) events in
    let ends = sum_by-cons end_count (Start range input) events in
    let most = more.most in
    omega arith
can-pass depth count (End last input) events small is more =
    let starts = sum_by-cons start_count (End last input) events in
    let ends = sum_by-cons end_count (End last input) events in
    let fewer = more.fewer in
    omega arith

-- An event can be counted if the contrary is excluded.
settled-pass : (depth : ℕ) (event : Event) → ¬ (¬ (CanPass depth event)) → CanPass depth event
settled-pass depth (Start range input) holds = settled_lt (depth + 1) (2 ^ 64) holds
settled-pass depth (End last input) holds = settled_le 1 depth holds

-- A piece that has begun extends to the end of the type, if no edge is to come.
last-piece : (n start last : ℕ) → start < n → last + 1 ≡ n
    → ArePieces n (odd_past (start ∷ [])) (record { first = start; last = last } ∷ [])
last-piece n start last inside is = record {
  sorted = record {
    starts = omega arith;
    in_order = omega (arith, inside, is);
    in_type = omega (arith, is);
    rest = tt;
  };
  same = λ rank below.
      members-cons (record { first = start; last = last }) [] rank
      ∙ to_end rank below;
}
  where
    -- A rank of the type lies in the piece if it is not before the start.
    to_end : (rank : ℕ) → rank < n
        → (covers (record { first = start; last = last }) rank || members [] rank)
        ≡ odd_past (start ∷ []) rank
    to_end rank below =
        let under : nat_le rank last ≡ true = grind (arith, nat_tests) in
        rw under (by_both (nat_le start rank))
      where
        -- “And true” and “or false” change nothing.
        by_both : (test : Bool) → ((test && true) || false) ≡ exclusive_or test false
        by_both true = refl
        by_both false = refl

-- ---- a draw

module _ {T N I A : Type 0} (integer : Elements T N) (stream : Stream I T N) where
  open integer use {rank, value_count as n}

  -- The inputs, and the events that may come, if the stream is not done.
  abbrev telling : SweepPieces T I A N → Telling
  telling s = going_telling integer stream s

  -- The pieces that may come then.
  abbrev gives : SweepPieces T I A N → Outcomes
  gives s = going_gives integer stream s

  -- How many pieces are left at most, if the stream is not done.
  abbrev going_left : SweepPieces T I A N → ℕ
  going_left s = size (events_left integer stream s.sweep) + option_len s.start

  -- What holds so far within a draw: what may come now might come at its entry, and some events
  -- were passed.
  pub record SoFar (entry now : SweepPieces T I A N) : Type 0 where
    pub undone : now.done ≡ false
    pub ready : PiecesReady integer stream now
    pub same : gives now ⊆ gives entry
    pub passed : PassesSome (telling entry) (telling now)
    pub nearer : going_left now ≤ going_left entry

  -- At the entry no events were passed.
  pub so_far-nothing : (entry : SweepPieces T I A N) → entry.done ≡ false
      → (entry.done ≡ false → PiecesReady integer stream entry) → SoFar entry entry
  so_far-nothing entry undone ready = record {
    undone = undone;
    ready = ready undone;
    same = λ pieces may. may;
    passed = passes-none (telling entry)
        (λ place. held-short integer.rank (head_of entry.sweep.inputs.heads.heads place));
    nearer = omega arith;
  }

  -- Once the stream is done, a call that returns `None` and changes nothing is a draw of it.
  pub draw-over : (s : SweepPieces T I A N) → s.done ≡ true
      → (sweep_pieces {A = A} integer stream).draw_gives s None s
  draw-over s over = rw over (record {
    answers = refl;
    rests = (λ going. absurd (let no = going in cc), λ runs may. may);
    asks = record {
      passes = passes-none all_ended (λ place. omega arith);
      over = λ place. record { held = refl; gives = λ runs none. none };
    };
  })

  -- ---- an event comes
  module _ (entry was : SweepPieces T I A N) (so : SoFar entry was) (j : MultiwaySweep T I A N)
      (event : SweepEvent T) (call : Sweeps integer stream was.sweep (Some event) j)
      (goes : MakesProgress (SweepReady integer stream) (events_left integer stream) was.sweep
      (Some event) j) where
    -- The event, with ranks.
    abbrev told : Event
    told = event_of rank event

    -- The edges never fall, from this event through any list of events that may come after it.
    edges : (events : List Event) → sweep_may_give integer stream j events
        → HasEdgesFrom n (low_of rank was.start) (told ∷ events)
    edges events may = so.ready.edges (told ∷ events) (call.answers events may)

    -- The event lies in the type.
    pub event-in : IsEventIn n told
    event-in = settled-event n told
        (λ fails. goes.keeps.some (λ events may. fails (edges events may).1))

    -- It can be counted.
    pub event-can : CanPass was.depth told
    event-can = settled-pass was.depth told (λ fails. goes.keeps.some (λ events may.
        let more = some-depth (stream_count j) _ _ events may in
        let fits = j.inputs.streams.small in
        fails (can-pass was.depth (stream_count j) told events (omega (arith, fits))
        (so.ready.deep (told ∷ events) (call.answers events may)) more)))

    -- Fewer events are left.
    event-less : size (events_left integer stream j) < size (events_left integer stream was.sweep)
    event-less = (goes.on so.ready.sweep.ends).2

    -- ---- the event is passed
    module _ (piece : Option (RangeInclusive T)) (depth : ℕ) (start : Option T)
        (passes : PassesEvent rank n was.rule was.depth told was.start piece depth start) where
      -- The stream after the event.
      abbrev now : SweepPieces T I A N
      now = record {
        sweep = j;
        rule = was.rule;
        depth = depth;
        start = start;
        done = was.done;
      }

      -- It is ready.
      event-ready : PiecesReady integer stream now
      event-ready = record {
        sweep = goes.keeps;
        start = start-in rank n was.rule was.depth told was.start piece depth start passes
            so.ready.start;
        edges = λ events may. edges-next rank n was.rule was.depth told was.start piece depth start
            passes events (edges events may);
        deep = λ events may. subst (λ each. IsDepth each events) (sym passes.depth)
            (depth-next was.depth told events event-can
            (so.ready.deep (told ∷ events) (call.answers events may)));
      }

      -- Some events were passed.
      event-passed : PassesSome (telling entry) (telling now)
      event-passed = passes-more (telling entry) (telling was) (telling now) told
          so.passed call.answers call.asks call.holds

      -- The piece that ends, followed by what may come now, might come before the event.
      event-gives : (pieces : List Interval) → gives now pieces
          → gives was (held_list rank piece ++ pieces)
      event-gives pieces may = λ nothing. may (λ events given all.
          nothing (told ∷ events) (call.answers events given)
          (pieces-passed rank n was.rule was.depth told was.start piece depth start passes events
          pieces event-can (edges events given) all))

      -- If no piece ended, this holds so far.
      pub so_far-more : piece ≡ None → SoFar entry now
      so_far-more none =
          let nearer = so.nearer in
          let less = event-less in
          let one = len-most start in
          record {
            undone = so.undone;
            ready = event-ready;
            same = λ pieces may. so.same pieces
                (subst (λ each. gives was (held_list rank each ++ pieces)) none
                (event-gives pieces may));
            passed = event-passed;
            nearer = omega arith;
          }

      -- If a piece ended, this is a draw that returns it.
      pub piece-known : (range : RangeInclusive T) → piece ≡ Some range → entry.done ≡ false
          → (sweep_pieces {A = A} integer stream).draw_gives entry piece now
      piece-known range is undone = rw (is, undone, so.undone) (record {
        answers = λ rest may. so.same (interval_of rank range ∷ rest)
            (subst (λ each. gives was (held_list rank each ++ rest)) is (event-gives rest may));
        rests = tt;
        asks = event-passed;
      })

      -- The draw makes progress.
      pub piece-goes : (range : RangeInclusive T) → piece ≡ Some range → entry.done ≡ false
          → MakesProgress (sweep_pieces {A = A} integer stream).can_draw
          (pieces_left integer stream) entry piece now
      piece-goes range is undone =
          let nearer = so.nearer in
          let less = event-less in
          let ended = piece-ended rank n was.rule was.depth told was.start piece depth start passes
          range is in
          let had = ended.0 in
          let none = ended.1 in
          let fewer : going_left now < going_left entry = omega arith in
          let ready = rw so.undone at event-ready in
          rw (is, undone, so.undone) (record {
            on = λ finite. (λ going. ready, goes.keeps.ends, fewer);
            keeps = λ going. ready;
            rests = λ finite. tt;
          })

  -- ---- the sweep ends
  module _ (entry was : SweepPieces T I A N) (so : SoFar entry was) (j : MultiwaySweep T I A N)
      (call : Sweeps integer stream was.sweep None j) (undone : entry.done ≡ false)
      (left : Option T) where
    -- The stream afterwards.
    abbrev ended : SweepPieces T I A N
    ended = record {
      sweep = j;
      rule = was.rule;
      depth = was.depth;
      start = left;
      done = true;
    }

    -- All events were passed.
    all-passed : PassesAll (telling entry) all_ended
    all-passed = passes-end (telling entry) (telling was) all_ended so.passed call.answers
        (λ place. record {
          uses = (call.asks place).uses;
          over = record { held = refl; gives = λ runs none. none };
        })

    -- If these pieces may follow when no event is left, they might come at the entry.
    no-more : (pieces : List Interval)
        → ArePieces n (odd_past (edges_of rank was.start ++ [])) pieces → gives entry pieces
    no-more pieces all = so.same pieces (λ nothing. nothing [] call.answers
        (subst (λ events. ArePieces n (odd_past (edges_of rank was.start ++ map edge_of events))
        pieces) (sym (crossing-none was.rule was.depth)) all))

    -- If no piece has begun, this is a draw that returns `None`.
    pub draw-ends : was.start ≡ None
        → (sweep_pieces {A = A} integer stream).draw_gives entry None ended
    draw-ends none = rw undone (record {
      answers = no-more [] (subst (λ each. ArePieces n (odd_past (edges_of rank each ++ [])) [])
          (sym none) (no-pieces n));
      rests = (λ going. absurd (let no = going in cc), λ runs all. all);
      asks = all-passed;
    })

    -- If a piece has begun, it extends to the greatest value.
    module _ (start last : T) (begun : was.start ≡ Some start) (is : rank last + 1 ≡ n)
        (range : RangeInclusive T)
        (told : interval_of rank range ≡ record { first = rank start; last = rank last }) where
      -- It starts at a value.
      last-in : rank start < n
      last-in = subst (λ each. IfSome each (λ value. rank value < n)) begun so.ready.start

      -- This is a draw that returns the last piece.
      pub draw-last : (sweep_pieces {A = A} integer stream).draw_gives entry (Some range) ended
      draw-last = rw undone (record {
        answers = λ rest all. subst (λ each. gives entry (interval_of rank range ∷ each)) (sym all)
            (no-more (interval_of rank range ∷ [])
            (subst (λ each. ArePieces n (odd_past (edges_of rank each ++ []))
            (interval_of rank range ∷ [])) (sym begun)
            (subst (λ each. ArePieces n (odd_past (rank start ∷ [])) (each ∷ [])) (sym told)
            (last-piece n (rank start) (rank last) last-in is))));
        rests = tt;
        asks = all-passed.passes;
      })
