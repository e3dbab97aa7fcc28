-- The edges of events, and the pieces of the ranks that have an odd number of edges at or before
-- them.
use Rattle.std.proofs.Common.{◌≡◌, inl, inr, ℕ, ◌-◌, ◌<◌, ◌≤◌, Bool, true, false, ◌||◌, nat_le, nat_lt, List, [], ◌∷◌, ◌++◌, map, refl, sym, ap, subst, ◌∙◌, arith, Option, Some, None}
use Rattle.std.proofs.lemmas.Bool.{cases_lt}
use Rattle.std.proofs.lemmas.Bool.Decides.{nat_tests}
use Rattle.std.specs.Option.{option_len}
use Rattle.std.specs.declared.ops.RangeInclusive.{RangeInclusive}
use Rattle.rsb_integer.specs.Runs.{Interval, covers, members}
use Rattle.rsb_integer.specs.Selection.{exclusive_or}
use Rattle.rsb_integer.proofs.lemmas.List.{not_both, true_or_false}
use Rattle.rsb_integer.proofs.lemmas.Members.{members-cons, members-head}
use Rattle.rsb_streams.specs.OddPieces.{ArePieces}
use Rattle.rsb_streams.specs.PutBack.{held_list}
use Rattle.rsb_streams.specs.Stream.{HasSortedStartsFrom}
use Rattle.rsb_streams.specs.laws.Stream.{settled_le, settled_lt}
use Rattle.rsb_streams.proofs.lemmas.odd.Ranks.{pieces-along}
use Rattle.rsb_many.specs.Sweep.{End, Event, Start}
use Rattle.rsb_many.specs.SweepPieces.{edge_in, edge_of, edges_of, low_of, odd_past, piece_up_to, HasEdgesFrom, IsEventIn, PassesEdge}

-- ---- edges

-- If an event lies in a type of n values, its edge is at most n.
edge-within : (n : ℕ) (event : Event) → IsEventIn n event → edge_of event ≤ n
edge-within n (Start range input) within = let low = within.0 in let high = within.1 in omega arith
edge-within n (End last input) within = omega (arith, within)

-- Edges from a rank are also edges from any lower rank.
pub edges-lower : (n low lower : ℕ) (events : List Event) → lower ≤ low
    → HasEdgesFrom n low events → HasEdgesFrom n lower events
edges-lower n low lower [] less edges = tt
edges-lower n low lower (event ∷ events) less edges =
    let starts = edges.0 in (omega (arith, starts), edges.1, edges.2)

-- An event lies in a type if the contrary is excluded.
pub settled-event : (n : ℕ) (event : Event) → ¬ (¬ (IsEventIn n event)) → IsEventIn n event
settled-event n (Start range input) holds = (
  settled_le range.first range.last (λ fails. holds (λ within. fails within.0)),
  settled_lt range.last n (λ fails. holds (λ within. fails within.1)),
)
settled-event n (End last input) holds = settled_lt last n holds

-- The edges never fall if the contrary is excluded.
pub settled-edges : (n low : ℕ) (events : List Event) → ¬ (¬ (HasEdgesFrom n low events))
    → HasEdgesFrom n low events
settled-edges n low [] holds = tt
settled-edges n low (event ∷ events) holds = (
  settled_le low (edge_of event) (λ fails. holds (λ edges. fails edges.0)),
  settled-event n event (λ fails. holds (λ edges. fails edges.1)),
  settled-edges n (edge_of event) events (λ fails. holds (λ edges. fails edges.2)),
)

-- An edge past a rank is not at or before it.
edge-after : (edge rank : ℕ) → rank < edge → nat_le edge rank ≡ false
edge-after edge rank less = grind (arith, nat_tests)

-- At a rank before the first edge, the number of edges is 0, which is even.
pub odd-before : (n low : ℕ) (events : List Event) (rank : ℕ) → HasEdgesFrom n low events
    → rank < low → odd_past (map edge_of events) rank ≡ false
odd-before n low [] rank edges below = refl
odd-before n low (event ∷ events) rank edges below =
    let starts = edges.0 in
    ap (λ test. exclusive_or test (odd_past (map edge_of events) rank))
    (edge-after (edge_of event) rank (omega (arith, starts)))
    ∙ odd-before n (edge_of event) events rank edges.2 (omega (arith, starts))

-- ---- pieces

-- The pieces start no earlier than the first edge.
pieces-from : (n low : ℕ) (events : List Event) (pieces : List Interval)
    → HasEdgesFrom n low events → ArePieces n (odd_past (map edge_of events)) pieces
    → HasSortedStartsFrom n low pieces
pieces-from n low events [] edges all = tt
pieces-from n low events (piece ∷ pieces) edges all =
    let ordered = all.sorted.in_order in
    let below = all.sorted.in_type in
    let inside : piece.first < n = omega (arith, ordered, below) in
    record {
      starts = elim (cases_lt piece.first low) [
        | inl under ↦ absurd (not_both (members (piece ∷ pieces) piece.first)
            (members-head piece pieces piece.first (omega arith) ordered)
            (all.same piece.first inside ∙ odd-before n low events piece.first edges under))
        | inr from ↦ from
      ];
      in_order = ordered;
      in_type = below;
      rest = all.sorted.rest;
    }

-- If no piece has begun, one begins at the edge, unless the edge lies past the end of the type.
edge-begins : (n edge : ℕ) (edges : List ℕ) (rank : ℕ) → rank < n
    → odd_past (edge_in n edge ++ edges) rank ≡ odd_past (edge ∷ edges) rank
edge-begins n edge edges rank below = elim (true_or_false (nat_lt edge n)) [
  | inl inside ↦ rw inside refl
  | inr past ↦
      let after : nat_le edge rank ≡ false = grind (arith, nat_tests) in
      rw (past, after) refl
]

-- So the pieces afterwards are also those before the edge.
pieces-begin : {T : Type 0} (rank : T → ℕ) (n edge : ℕ) (edges : List ℕ) (new : Option T)
    (pieces : List Interval) → edges_of rank new ≡ edge_in n edge
    → ArePieces n (odd_past (edges_of rank new ++ edges)) pieces
    → ArePieces n (odd_past (edge ∷ edges)) pieces
pieces-begin rank n edge edges new pieces is = pieces-along n
    (odd_past (edges_of rank new ++ edges)) (odd_past (edge ∷ edges)) pieces
    (λ place below. ap (λ each. odd_past (each ++ edges) place) is
    ∙ edge-begins n edge edges place below)

-- An edge that is counted twice changes nothing.
twice : (one other : Bool) → exclusive_or one (exclusive_or one other) ≡ other
twice true true = refl
twice true false = refl
twice false other = refl

-- The number of edges is odd between the first two. Past both it is odd if that of the others is.
pub between-edges : (start edge rank : ℕ) (others : Bool) → start < edge
    → (rank < edge → others ≡ false)
    → (covers (record { first = start; last = edge - 1 }) rank || others)
    ≡ exclusive_or (nat_le start rank) (exclusive_or (nat_le edge rank) others)
between-edges start edge rank others less before = elim (cases_lt rank edge) [
  | inl under ↦
      let none = before under in
      rw none (grind (arith, nat_tests))
  | inr past ↦
      let outside : covers (record { first = start; last = edge - 1 }) rank ≡ false =
      grind (arith, nat_tests) in
      let one : nat_le start rank ≡ true = grind (arith, nat_tests) in
      let other : nat_le edge rank ≡ true = grind (arith, nat_tests) in
      rw (outside, one, other) (sym (twice true others))
]

-- A piece that has begun ends before the edge, and the other pieces follow.
pieces-end : (n start : ℕ) (event : Event) (events : List Event) (pieces : List Interval)
    → HasEdgesFrom n start (event ∷ events) → ArePieces n (odd_past (map edge_of events)) pieces
    → ArePieces n (odd_past (start ∷ map edge_of (event ∷ events)))
    (piece_up_to start (edge_of event) ++ pieces)
pieces-end n start event events pieces edges all =
    let edge = edge_of event in
    let starts = edges.0 in
    let most = edge-within n event edges.1 in
    elim (true_or_false (nat_lt start edge)) [
      | inl some ↦
          let less : start < edge = grind (arith, nat_tests) in
          let piece : Interval = record { first = start; last = edge - 1 } in
          rw some (record {
            sorted = record {
              starts = omega arith;
              in_order = omega (arith, less);
              in_type = omega (arith, less, most);
              rest = pieces-from n start events pieces
                  (edges-lower n edge start events starts edges.2) all;
            };
            same = λ rank below.
                members-cons piece pieces rank
                ∙ ap (λ test. covers piece rank || test) (all.same rank below)
                ∙ between-edges start edge rank (odd_past (map edge_of events) rank) less
                (λ under. odd-before n edge events rank edges.2 under);
          })
      | inr none ↦
          let same : start ≡ edge = grind (arith, nat_tests) in
          rw none (pieces-along n (odd_past (map edge_of events))
          (odd_past (start ∷ map edge_of (event ∷ events))) pieces
          (λ rank below. sym (ap (λ each. exclusive_or (nat_le each rank)
          (exclusive_or (nat_le edge rank) (odd_past (map edge_of events) rank))) same
          ∙ twice (nat_le edge rank) (odd_past (map edge_of events) rank))) all)
    ]

-- ---- once an event is passed

module _ {T : Type 0} (rank : T → ℕ) (n : ℕ) (event : Event) (events : List Event) where
  -- A piece that begins starts at the edge.
  edge-begun : (start : T) → rank start ∷ [] ≡ edge_in n (edge_of event)
      → rank start ≡ edge_of event
  edge-begun start is = elim (true_or_false (nat_lt (edge_of event) n)) [
    | inl inside ↦
        let here : rank start ∷ [] ≡ edge_of event ∷ [] = rw inside at is in
        cc
    | inr outside ↦ absurd (let none = rw outside at is in cc)
  ]

  -- No edge to come lies before the start of a piece that has begun now.
  pub low-next : (old : Option T) (piece : Option (RangeInclusive T)) (new : Option T)
      → PassesEdge rank n (edge_of event) old piece new
      → HasEdgesFrom n (low_of rank old) (event ∷ events) → HasEdgesFrom n (low_of rank new) events
  low-next None piece None passes edges =
      edges-lower n (edge_of event) 0 events (omega arith) edges.2
  low-next None piece (Some start) passes edges =
      subst (λ low. HasEdgesFrom n low events) (sym (edge-begun start passes.1)) edges.2
  low-next (Some begun) piece new passes edges =
      subst (λ each. HasEdgesFrom n (low_of rank each) events) (sym passes.1)
      (edges-lower n (edge_of event) 0 events (omega arith) edges.2)

  -- The piece that ends at the first event, followed by the pieces after it, are pieces before it.
  pub pieces-next : (old : Option T) (piece : Option (RangeInclusive T)) (new : Option T)
      (pieces : List Interval) → PassesEdge rank n (edge_of event) old piece new
      → HasEdgesFrom n (low_of rank old) (event ∷ events)
      → ArePieces n (odd_past (edges_of rank new ++ map edge_of events)) pieces
      → ArePieces n (odd_past (edges_of rank old ++ map edge_of (event ∷ events)))
      (held_list rank piece ++ pieces)
  pieces-next None piece new pieces passes edges all =
      rw passes.0 (pieces-begin rank n (edge_of event) (map edge_of events) new pieces passes.1 all)
  pieces-next (Some start) piece new pieces passes edges all =
      rw passes.0 (pieces-end n (rank start) event events pieces edges
      (subst (λ each. ArePieces n (odd_past (edges_of rank each ++ map edge_of events)) pieces)
      passes.1 all))

  -- A piece that begins starts at a value.
  pub start-next : (old : Option T) (piece : Option (RangeInclusive T)) (start : T)
      → PassesEdge rank n (edge_of event) old piece (Some start) → rank start < n
  start-next None piece start passes = elim (true_or_false (nat_lt (edge_of event) n)) [
    | inl inside ↦
        let here : rank start ∷ [] ≡ edge_of event ∷ [] = rw inside at passes.1 in
        let same : rank start ≡ edge_of event = cc in
        rw same (grind (arith, nat_tests))
    | inr outside ↦ absurd (let none = rw outside at passes.1 in cc)
  ]
  start-next (Some old) piece start passes = absurd (let none = passes.1 in cc)

  -- A piece that ends had begun before the event, and no piece has begun after it.
  pub edge-ended : (old : Option T) (range : RangeInclusive T) (new : Option T)
      → PassesEdge rank n (edge_of event) old (Some range) new
      → (option_len old ≡ 1) × (option_len new ≡ 0)
  edge-ended None range new passes = absurd (let none = passes.0 in cc)
  edge-ended (Some start) range new passes = (refl, ap option_len passes.1)
