-- One range that a union returns: the ranges that it gathers, and what is left.
use Rattle.std.proofs.Common.{◌≡◌, ℕ, ◌+◌, ◌<◌, ◌≤◌, true, ◌||◌, max, List, [], ◌∷◌, refl, sym, ap, ◌∙◌, subst, arith}
use Rattle.std.proofs.Math.Bool.{or_assoc}
use Rattle.std.proofs.lemmas.Bool.Decides.{nat_tests}
use Rattle.std.proofs.lemmas.List.Elements.{All-head, All-cons}
use Rattle.rsb_integer.specs.Runs.{Interval, covers, members, IsCanonicalFrom, IsMaximalRun, AreRuns}
use Rattle.rsb_integer.specs.Selection.{Selection}
use Rattle.rsb_integer.proofs.lemmas.List.{not_both}
use Rattle.rsb_integer.proofs.lemmas.Members.{covers-inside, members-cons}
use Rattle.rsb_integer.proofs.lemmas.Runs.{runs-canonical, runs-from_canonical, runs-members}
use Rattle.rsb_streams.specs.laws.Stream.{settled_le, settled_lt, sorted-lower, sorted-members}
use Rattle.rsb_streams.specs.Stream.{Outcomes, ◌⊆◌, just, joined_runs, HasOutcome, SomeOutcome, HasSortedStartsFrom, HasSortedStarts}
use Rattle.rsb_streams.specs.laws.Merge.{sorted-raise}

-- If a set selects no rank below `low`, its runs start at `low` or later.
pub runs-start : (n : ℕ) (selected : Selection) (low : ℕ) (runs : List Interval)
    → AreRuns n selected runs
    → ((rank : ℕ) → rank < n → selected rank ≡ true → low ≤ rank) → IsCanonicalFrom low runs
runs-start n selected low [] all from = tt
runs-start n selected low (run ∷ runs) all from =
    let canonical = runs-canonical n selected (run ∷ runs) all in
    let maximal = All-head (IsMaximalRun n selected) run runs all.maximal in
    let ordered = maximal.in_order in
    let below = maximal.in_type in
    record {
      starts = from run.first (omega arith)
          (maximal.whole run.first (covers-inside run run.first (omega arith) ordered));
      in_order = ordered;
      rest = canonical.apart.rest;
    }

-- The runs of a run and of what comes past it, with a gap between, are that run and the runs of the
-- rest.
pub run-then : (n : ℕ) (run : Interval) (given late runs : List Interval) → run.first ≤ run.last
    → run.last < n
    → ((rank : ℕ) → members given rank ≡ (covers run rank || members late rank))
    → ((rank : ℕ) → members late rank ≡ true → run.last + 2 ≤ rank)
    → AreRuns n (members late) runs → AreRuns n (members given) (run ∷ runs)
run-then n run given late runs ordered below same past all =
    let canonical = runs-canonical n (members late) runs all in
    runs-from_canonical n (members given) (run ∷ runs) (record {
      starts = omega arith;
      in_order = ordered;
      rest = runs-start n (members late) (run.last + 2) runs all
          (λ rank within. past rank);
    })
    (All-cons (λ (each : Interval). each.last < n) run runs below canonical.within)
    (λ rank within.
    members-cons run runs rank
    ∙ ap (λ test. covers run rank || test) (runs-members n (members late) runs all rank within)
    ∙ sym (same rank))

-- An empty list has only the empty list of runs.
pub no-runs : (n : ℕ) → joined_runs n (just []) ⊆ just []
no-runs n [] may = refl
no-runs n (run ∷ runs) may = absurd (may (λ given is all.
    let maximal = All-head (IsMaximalRun n (members given)) run runs all.maximal in
    let ordered = maximal.in_order in
    not_both (members [] run.first)
    (subst (λ each. members each run.first ≡ true) is
    (maximal.whole run.first (covers-inside run run.first (omega arith) ordered))) refl))

-- Two intervals that overlap or touch cover what the one from the start of the first to the greater
-- end covers.
join-covers : (rank : ℕ) (run next : Interval) → run.first ≤ next.first → next.first ≤ run.last + 1
    → run.first ≤ run.last → next.first ≤ next.last
    → (covers run rank || covers next rank)
    ≡ covers (record { first = run.first; last = max run.last next.last }) rank
join-covers rank run next low touching ordered order = grind (arith, nat_tests)

-- Whether the interval is non-empty, within a type of n values, and starts at `low` or later.
pub record LiesFrom (n low : ℕ) (run : Interval) : Type 0 where
  pub starts : low ≤ run.first
  pub in_order : run.first ≤ run.last
  pub in_type : run.last < n

-- This holds of the first range of a list sorted by start, whatever comes after it.
pub head-sorted : (n low : ℕ) (run : Interval) (Rest : Outcomes) → HasOutcome Rest
    → ((rest : List Interval) → Rest rest → HasSortedStartsFrom n low (run ∷ rest))
    → LiesFrom n low run
head-sorted n low run Rest some sorted = record {
  starts = settled_le low run.first (λ fails. some (λ rest may. fails (sorted rest may).starts));
  in_order = settled_le run.first run.last
      (λ fails. some (λ rest may. fails (sorted rest may).in_order));
  in_type = settled_lt run.last n (λ fails. some (λ rest may. fails (sorted rest may).in_type));
}

-- Whether the ranges drawn so far cover the run, and what may still come starts no earlier.
-- `Before` is what could come when the draw began, `Now` what can come now.
pub record Gathers (n : ℕ) (Before Now : Outcomes) (run : Interval) : Type 0 where
  pub ordered : run.first ≤ run.last
  pub below : run.last < n
  pub sorted : Now ⊆ HasSortedStartsFrom n run.first
  pub comes : (rest : List Interval) → Now rest
      → SomeOutcome Before (λ given. (rank : ℕ) → members given rank
      ≡ (covers run rank || members rest rank))

-- The first range starts the run.
pub gathers-first : (n : ℕ) (Before Now : Outcomes) (run : Interval) → Before ⊆ HasSortedStarts n
    → HasOutcome Now
    → ((rest : List Interval) → Now rest → Before (run ∷ rest)) → Gathers n Before Now run
gathers-first n Before Now run sorted some answers =
    let facts = head-sorted n 0 run Now some (λ rest may. sorted (run ∷ rest) (answers rest may)) in
    record {
      ordered = facts.in_order;
      below = facts.in_type;
      sorted = λ rest may. (sorted (run ∷ rest) (answers rest may)).rest;
      comes = λ rest may nothing. nothing (run ∷ rest) (answers rest may) (members-cons run rest);
    }

module _ (n : ℕ) (Before Now After : Outcomes) (run next : Interval)
    (gathers : Gathers n Before Now run)
    (some : HasOutcome After)
    (answers : (rest : List Interval) → After rest → Now (next ∷ rest)) where
  -- The next range is non-empty, within the type, and starts no earlier than the run.
  pub next-sorted : LiesFrom n run.first next
  next-sorted = head-sorted n run.first next After some
      (λ rest may. gathers.sorted (next ∷ rest) (answers rest may))

  -- If the next range overlaps or touches the run, both together are the run.
  pub gathers-more : next.first ≤ run.last + 1
      → Gathers n Before After (record { first = run.first; last = max run.last next.last })
  gathers-more touching =
      let facts = next-sorted in
      let low = facts.starts in
      let order = facts.in_order in
      let below = facts.in_type in
      let ordered = gathers.ordered in
      let within = gathers.below in
      record {
        ordered = omega arith;
        below = omega arith;
        sorted = λ rest may. sorted-lower n next.first run.first rest low
            (gathers.sorted (next ∷ rest) (answers rest may)).rest;
        comes = λ rest may nothing. gathers.comes (next ∷ rest) (answers rest may)
            (λ given before same.
            nothing given before (λ rank.
            same rank ∙ ap (λ test. covers run rank || test) (members-cons next rest rank)
            ∙ sym (or_assoc (covers run rank) (covers next rank) (members rest rank))
            ∙ ap (λ test. test || members rest rank)
            (join-covers rank run next low touching ordered order)));
      }

-- The run comes first, if what may come later starts past it, with a gap between.
pub gathers-answer : (n : ℕ) (Before Now Later : Outcomes) (run : Interval)
    → Gathers n Before Now run
    → ((late : List Interval) → Later late
    → Now late × ((rank : ℕ) → members late rank ≡ true → run.last + 2 ≤ rank))
    → (rest : List Interval) → joined_runs n Later rest → joined_runs n Before (run ∷ rest)
gathers-answer n Before Now Later run gathers later rest may = λ nothing. may (λ late at runs.
    let past = later late at in
    gathers.comes late past.0 (λ given before same.
    nothing given before (run-then n run given late rest gathers.ordered gathers.below same past.1
    runs)))

-- If the next range starts past the run, with a gap between, so do all members that come later.
pub next-past : (n : ℕ) (next : Interval) (rest : List Interval) (low end rank : ℕ)
    → HasSortedStartsFrom n low (next ∷ rest) → end + 1 < next.first → members (next ∷ rest) rank
    ≡ true
    → end + 2 ≤ rank
next-past n next rest low end rank sorted apart member =
    let from = sorted-members n next.first (next ∷ rest) rank
    (sorted-raise n low next.first next rest (omega arith) sorted) member in
    omega arith
