-- The steps of a walk over the runs of a set.
use Rattle.std.proofs.Common.{◌≡◌, ℕ, false, ◌+◌, ◌-◌, ◌<◌, ◌≤◌, inl, inr, arith}
use Rattle.std.specs.Prelude.{Option, Some, None, IfSome}
use Rattle.std.proofs.lemmas.Bool.{cases_lt}
use Rattle.rsb_integer.specs.Runs.{Interval, IsMaximalRun}
use Rattle.rsb_integer.specs.Selection.{Selection}
use Rattle.rsb_integer.proofs.lemmas.List.{not_both}
use Rattle.rsb_integer.proofs.lemmas.Members.{covers-inside}
use Rattle.range_set_c.specs.Walk.{IsFirstAfter, IsLastBefore, NoneAfter, NoneBefore}

module _ (n : ℕ) (selected : Selection) where
  -- ---- maximal runs, and ranks that are not selected

  -- A maximal run that does not start below free ranks starts past them.
  starts-past : (from to : ℕ) → ((rank : ℕ) → from ≤ rank → rank < to → selected rank ≡ false)
      → (run : Interval) → IsMaximalRun n selected run → from ≤ run.first → to ≤ run.first
  starts-past from to free run maximal more = elim (cases_lt run.first to) [
    | inr past ↦ past
    | inl less ↦
        let order = maximal.in_order in
        absurd (not_both (selected run.first)
        (maximal.whole run.first (covers-inside run run.first (omega arith) order))
        (free run.first more less))
  ]

  -- One that does not end above them ends before them.
  ends-before : (from to : ℕ) → ((rank : ℕ) → from < rank → rank ≤ to → selected rank ≡ false)
      → (run : Interval) → IsMaximalRun n selected run → run.last ≤ to → run.last ≤ from
  ends-before from to free run maximal less = elim (cases_lt from run.last) [
    | inr before ↦ before
    | inl more ↦
        let order = maximal.in_order in
        absurd (not_both (selected run.last)
        (maximal.whole run.last (covers-inside run run.last order (omega arith)))
        (free run.last more less))
  ]

  module _ (run other : Interval) (maximal : IsMaximalRun n selected run)
      (also : IsMaximalRun n selected other) where
    -- A maximal run that starts past the start of another starts past its end.
    starts-apart : run.first < other.first → run.last < other.first
    starts-apart later = elim (cases_lt run.last other.first) [
      | inl past ↦ past
      | inr within ↦ absurd (not_both (selected (other.first - 1))
          (maximal.whole (other.first - 1) (covers-inside run (other.first - 1)
          (omega (arith, later)) (omega (arith, within))))
          (also.begins_here (omega (arith, later))))
    ]

    -- One that ends before the end of another ends before its start.
    ends-apart : other.last < run.last → other.last < run.first
    ends-apart earlier = elim (cases_lt other.last run.first) [
      | inl before ↦ before
      | inr within ↦
          let known = maximal.in_type in
          absurd (not_both (selected (other.last + 1))
          (maximal.whole (other.last + 1) (covers-inside run (other.last + 1)
          (omega (arith, within)) (omega (arith, earlier))))
          (also.ends_here (omega (arith, earlier, known))))
    ]

  -- ---- forward

  -- The maximal runs that start past the value start at `next` or later.
  abbrev pub Skips : ℕ → ℕ → Type 0
  Skips value next = (run : Interval) → IsMaximalRun n selected run → value < run.first
      → next ≤ run.first

  module _ (value next : ℕ) (skips : Skips value next) where
    -- So the first one from there on is the first one past the value.
    pub first-after : (run : Interval) → IsMaximalRun n selected run → value < run.first
        → ((rank : ℕ) → next ≤ rank → rank < run.first → selected rank ≡ false)
        → IsFirstAfter n selected value run
    first-after run maximal later free = record {
      maximal = maximal;
      later = later;
      first = λ other also past.
          starts-past next run.first free other also (skips other also past);
    }

    -- If there is none from there on, there is none past the value.
    pub none-after : ((rank : ℕ) → next ≤ rank → rank < n → selected rank ≡ false)
        → NoneAfter n selected value
    none-after free run maximal = elim (cases_lt value run.first) [
      | inr before ↦ before
      | inl later ↦
          let past = starts-past next n free run maximal (skips run maximal later) in
          let order = maximal.in_order in
          let known = maximal.in_type in
          absurd (omega (arith, past, order, known))
    ]

  -- The rank right past the value is such a rank.
  pub skips-none : (value next : ℕ) → next ≡ value + 1 → Skips value next
  skips-none value next is run maximal later = omega (arith, is, later)

  -- So is the rank right past a run that starts no later than the value.
  pub skips-run : (value : ℕ) (run : Interval) → IsMaximalRun n selected run → run.first ≤ value
      → (next : ℕ) → next ≡ run.last + 1 → Skips value next
  skips-run value run maximal starts next is other also later =
      let apart = starts-apart run other maximal also (omega (arith, starts, later)) in
      omega (arith, apart, is)

  module _ (value : ℕ) (run : Interval) (maximal : IsMaximalRun n selected run)
      (starts : run.first ≤ value) (reaches : value ≤ run.last) (next : ℕ)
      (is : next ≡ run.last + 1) where
    -- So the next run after one that has the value is the first one past the value.
    next-after : (other : Interval) → IsMaximalRun n selected other → next ≤ other.last
        → ((rank : ℕ) → next ≤ rank → rank < other.first → selected rank ≡ false)
        → IsFirstAfter n selected value other
    next-after other also ends =
        let apart = ends-apart other run also maximal (omega (arith, ends, is)) in
        first-after value next (skips-run value run maximal starts next is) other also
        (omega (arith, apart, reaches))

    pub found-after : {X : Type 0} (interval : X → Interval) (found : Option X)
        → IfSome found (λ x. IsMaximalRun n selected (interval x))
        → IfSome found (λ x. next ≤ (interval x).last)
        → IfSome found (λ x. (rank : ℕ) → next ≤ rank → rank < (interval x).first
        → selected rank ≡ false)
        → IfSome found (λ x. IsFirstAfter n selected value (interval x))
    found-after interval None also ends free = tt
    found-after interval (Some other) also ends free = next-after (interval other) also ends free

  -- ---- backward

  -- The maximal runs that end before the value end at `last` or earlier.
  abbrev pub SkipsBack : ℕ → ℕ → Type 0
  SkipsBack value last = (run : Interval) → IsMaximalRun n selected run → run.last < value
      → run.last ≤ last

  module _ (value last : ℕ) (skips : SkipsBack value last) where
    -- So the last one up to there is the last one before the value.
    pub last-before : (run : Interval) → IsMaximalRun n selected run → run.last < value
        → ((rank : ℕ) → run.last < rank → rank ≤ last → selected rank ≡ false)
        → IsLastBefore n selected value run
    last-before run maximal earlier free = record {
      maximal = maximal;
      earlier = earlier;
      last = λ other also before.
          ends-before run.last last free other also (skips other also before);
    }

    -- If there is none up to there, there is none before the value.
    pub none-before : ((rank : ℕ) → rank ≤ last → selected rank ≡ false)
        → NoneBefore n selected value
    none-before free run maximal = elim (cases_lt run.last value) [
      | inr past ↦ past
      | inl earlier ↦
          let order = maximal.in_order in
          absurd (not_both (selected run.last)
          (maximal.whole run.last (covers-inside run run.last order (omega arith)))
          (free run.last (skips run maximal earlier)))
    ]

  -- The rank right before the value is such a rank.
  pub skips-back_none : (value last : ℕ) → last + 1 ≡ value → SkipsBack value last
  skips-back_none value last is run maximal earlier = omega (arith, is, earlier)

  -- So is the rank right before a run that ends no earlier than the value.
  pub skips-back_run : (value : ℕ) (run : Interval) → IsMaximalRun n selected run
      → value ≤ run.last → (last : ℕ) → last + 1 ≡ run.first → SkipsBack value last
  skips-back_run value run maximal ends last is other also earlier =
      let apart = ends-apart run other maximal also (omega (arith, ends, earlier)) in
      omega (arith, apart, is)

  -- If such a run starts at rank 0, no run ends before the value.
  pub none-below : (value : ℕ) (run : Interval) → IsMaximalRun n selected run
      → value ≤ run.last → run.first ≡ 0 → NoneBefore n selected value
  none-below value run maximal ends starts other also = elim (cases_lt other.last value) [
    | inr past ↦ past
    | inl earlier ↦
        let apart = ends-apart run other maximal also (omega (arith, ends, earlier)) in
        absurd (omega (arith, apart, starts))
  ]

  module _ (value : ℕ) (run : Interval) (maximal : IsMaximalRun n selected run)
      (starts : run.first ≤ value) (reaches : value ≤ run.last) (last : ℕ)
      (is : last + 1 ≡ run.first) where
    -- So the last run before one that has the value is the last one before the value.
    last-run : (other : Interval) → IsMaximalRun n selected other → other.first ≤ last
        → ((rank : ℕ) → other.last < rank → rank ≤ last → selected rank ≡ false)
        → IsLastBefore n selected value other
    last-run other also begins =
        let apart = starts-apart other run also maximal (omega (arith, begins, is)) in
        last-before value last (skips-back_run value run maximal reaches last is) other also
        (omega (arith, apart, starts))

    pub found-before : {X : Type 0} (interval : X → Interval) (found : Option X)
        → IfSome found (λ x. IsMaximalRun n selected (interval x))
        → IfSome found (λ x. (interval x).first ≤ last)
        → IfSome found (λ x. (rank : ℕ) → (interval x).last < rank → rank ≤ last
        → selected rank ≡ false)
        → IfSome found (λ x. IsLastBefore n selected value (interval x))
    found-before interval None also begins free = tt
    found-before interval (Some other) also begins free = last-run (interval other) also begins free
