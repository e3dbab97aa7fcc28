-- A rule selects a rank exactly if the number of crossing edges at or before the rank is odd.
use Rattle.std.proofs.Common.{◌≡◌, inl, inr, ℕ, ◌+◌, cond, nat_eq, List, [], ◌∷◌, ◌++◌, map, refl, ap, ◌∙◌, arith, All, Option, Some, None}
use Rattle.rsb_integer.specs.Runs.{Interval, members}
use Rattle.rsb_integer.proofs.lemmas.List.{true_or_false}
use Rattle.rsb_integer.proofs.lemmas.Runs.{runs-along}
use Rattle.rsb_streams.specs.OddPieces.{ArePieces}
use Rattle.rsb_streams.specs.Stream.{◌⊆◌, joined_runs, Outcomes}
use Rattle.rsb_streams.specs.laws.Stream.{settled_le}
use Rattle.rsb_streams.specs.Touching.{IsTouchingIn}
use Rattle.rsb_many.specs.Many.{runs_by_all, OneOfEach, SomeOfEach}
use Rattle.rsb_many.specs.MultiwaySweep.{EventOutcomes}
use Rattle.rsb_many.specs.Rule.{crosses, crossing_events, depth_after, first_edge, selected_by, CanPass, IsDepth}
use Rattle.rsb_many.specs.Sweep.{AreEvents, Event}
use Rattle.rsb_many.specs.SweepPieces.{edge_of, edges_of, low_of, odd_past, HasEdgesFrom, SomeEvents}
use Rattle.rsb_many.specs.declared.sweep_pieces.Rule.{Rule}
use Rattle.rsb_many.specs.declared.sweep_pieces.Rule.TheVariants.{AtLeast, Odd}
use Rattle.rsb_many.proofs.lemmas.events.Crossings.{deep-edges, deep-events, deep-next, first-odd}
use Rattle.rsb_many.proofs.lemmas.events.Depths.{ends_in, none-deep, starts_in}
use Rattle.rsb_many.proofs.lemmas.events.Edges.{settled-edges}
use Rattle.rsb_many.proofs.lemmas.events.Odd.{lists-edges, odd-events}
use Rattle.rsb_many.proofs.lemmas.inputs.Rests.{one_of_each-all}

-- ---- the events that cross

-- The first event crosses or does not, and the others continue from the depth after it.
pub crossing-next : (rule : Rule) (depth : ℕ) (event : Event) (events : List Event)
    → CanPass depth event
    → crossing_events rule depth (event ∷ events)
    ≡ cond (crosses rule depth event) (event ∷ crossing_events rule (depth_after depth event)
    events)
    (crossing_events rule (depth_after depth event) events)
crossing-next Odd depth event events can = refl
crossing-next (AtLeast least) depth event events can = deep-next least depth event events can

-- If there are no events, none crosses.
pub crossing-none : (rule : Rule) (depth : ℕ) → crossing_events rule depth [] ≡ []
crossing-none Odd depth = refl
crossing-none (AtLeast least) depth = refl

-- The edges of the crossing events never fall.
pub crossing-edges : (n low : ℕ) (rule : Rule) (depth : ℕ) (events : List Event)
    → HasEdgesFrom n low events → HasEdgesFrom n low (crossing_events rule depth events)
crossing-edges n low Odd depth events edges = edges
crossing-edges n low (AtLeast least) depth events edges = deep-edges n low least depth events edges

-- A piece that has begun before all events begins at the first rank.
pub first-low : {T : Type 0} (rank : T → ℕ) (rule : Rule) (start : Option T)
    → edges_of rank start ≡ first_edge rule → low_of rank start ≡ 0
first-low rank rule None is = refl
first-low rank Odd (Some value) is = absurd (cc)
first-low rank (AtLeast least) (Some value) is = elim (true_or_false (nat_eq least 0)) [
  | inl none ↦
      let here : rank value ∷ [] ≡ 0 ∷ [] = rw none at is in
      cc
  | inr some ↦ absurd (let no = rw some at is in cc)
]

-- ---- the events of lists

-- The number of crossing edges at or before a rank is odd exactly if the rule selects the rank.
pub by-depth : (n : ℕ) (rule : Rule) (lists : List (List Interval)) (events : List Event)
    (rank : ℕ) → All (IsTouchingIn n) lists → AreEvents lists events
    → odd_past (first_edge rule ++ map edge_of (crossing_events rule 0 events)) rank
    ≡ selected_by rule (map members lists) rank
by-depth n Odd lists events rank all are = odd-events n lists events rank all are
by-depth n (AtLeast least) lists events rank all are =
    first-odd least (map edge_of (crossing_events (AtLeast least) 0 events)) rank
    ∙ deep-events n least lists events rank all are (lists-edges n lists events all are)

-- Two numbers are equal if the contrary is excluded.
settled_same : (one other : ℕ) → ¬ (¬ (one ≡ other)) → one ≡ other
settled_same one other holds =
    let under = settled_le one other (λ fails. holds (λ same. fails (omega (arith, same)))) in
    let over = settled_le other one (λ fails. holds (λ same. fails (omega (arith, same)))) in
    omega (arith, under, over)

-- ---- the events of what streams may give

module _ (n count : ℕ) (may_give : ℕ → Outcomes)
    (touching : (place : ℕ) → may_give place ⊆ IsTouchingIn n) where
  -- Each of the lists is touching and lies in the type.
  pub all-touching : (lists : List (List Interval)) → OneOfEach count may_give lists
      → All (IsTouchingIn n) lists
  all-touching lists each = one_of_each-all count may_give (IsTouchingIn n) lists
      (λ place less. touching place) each

  -- The edges of the events of such lists never fall.
  pub some-edges : (events : List Event)
      → SomeOfEach count may_give (λ lists. AreEvents lists events) → HasEdgesFrom n 0 events
  some-edges events some = settled-edges n 0 events (λ fails. some (λ lists each are.
      fails (lists-edges n lists events (all-touching lists each) are)))

  -- All ranges that start also end.
  pub some-none_deep : (events : List Event)
      → SomeOfEach count may_give (λ lists. AreEvents lists events) → IsDepth 0 events
  some-none_deep events some = settled_same (0 + starts_in events) (ends_in events)
      (λ fails. some (λ lists each are. fails (none-deep lists events are)))

  -- The pieces, joined, are the runs of what the rule selects.
  pub joined-by_depth : {T : Type 0} (rank : T → ℕ) (rule : Rule) (start : Option T)
      (told : EventOutcomes) → edges_of rank start ≡ first_edge rule
      → ((events : List Event) → told events
      → SomeOfEach count may_give (λ lists. AreEvents lists events))
      → joined_runs n (λ pieces. SomeEvents told (λ events. ArePieces n
      (odd_past (edges_of rank start ++ map edge_of (crossing_events rule 0 events))) pieces))
      ⊆ runs_by_all n (selected_by rule) count may_give
  joined-by_depth rank rule start told is gives runs may = λ nothing. may (λ pieces given all.
      given (λ events at are_pieces.
      gives events at (λ lists each are.
      nothing lists each (runs-along n (members pieces) (selected_by rule (map members lists)) runs
      (λ place below. are_pieces.same place below
      ∙ ap (λ edges. odd_past (edges ++ map edge_of (crossing_events rule 0 events)) place) is
      ∙ by-depth n rule lists events place (all-touching lists each) are) all))))
