-- How many runs the results of operations on streams have, given how many the operands have.
use Rattle.std.specs.Prelude.{◌≡◌, ℕ, ◌+◌, ◌<◌, ◌≤◌, List, length}
use Rattle.rsb_integer.specs.declared.integer.Integer.{Ghosts as Elements}
use Rattle.rsb_integer.specs.Runs.{Interval, members, AreRuns}
use Rattle.rsb_integer.specs.Selection.{Selection, complement, intersection}
use Rattle.rsb_streams.specs.Stream.{Outcomes, ◌⊆◌, SomeOutcome, SomeOutcomes}
use Rattle.rsb_streams.specs.declared.draw.Draw.{Ghosts as Stream}

-- Whether the new list has at most one more run than the old one.
abbrev pub HasOneRunMoreAtMost : List Interval → List Interval → Type 0
HasOneRunMoreAtMost old new = length new ≤ length old + 1

-- Whether the new list has at most as many runs as both old ones together.
abbrev pub HasRunsOfBothAtMost : List Interval → List Interval → List Interval → Type 0
HasRunsOfBothAtMost left right new = length new ≤ length left + length right

-- Whether the new list has no run if either old one has none, and otherwise fewer than both
-- together.
abbrev pub HasFewerRunsThanBoth : List Interval → List Interval → List Interval → Type 0
HasFewerRunsThanBoth left right new =
    (length left ≡ 0 → length new ≡ 0) × (length right ≡ 0 → length new ≡ 0)
    × (0 < length left → 0 < length right → length new < length left + length right)

-- Whether at most the given number of runs may be given.
abbrev pub HasAtMost : Outcomes → ℕ → Type 0
HasAtMost P most = P ⊆ (λ runs. length runs ≤ most)

-- The runs of a set built from what was given, as many as the bound allows.
abbrev pub bounded_by : ℕ → (List Interval → List Interval → Type 0) → (Selection → Selection)
    → Outcomes → Outcomes
bounded_by n Bound operation P runs = SomeOutcome P (λ given.
    AreRuns n (operation (members given)) runs × Bound given runs)

-- The runs of a set built from what two streams gave, as many as the bound allows.
abbrev pub bounded_by_two : ℕ → (List Interval → List Interval → List Interval → Type 0)
    → (Selection → Selection → Selection) → Outcomes → Outcomes → Outcomes
bounded_by_two n Bound operation P Q runs = SomeOutcomes P Q (λ left right.
    AreRuns n (operation (members left) (members right)) runs × Bound left right runs)

-- ---- the results of operations. No proof search unfolds these definitions; the lemmas about them
-- are in `proofs/lemmas/calling/RunCounts.antt` (docs/DECISIONS.md, run-counts-closed).

-- Whether the result gives the runs of the complement of a stream, at most one more than the stream
-- gives.
unfoldable pub GivesOneRunMoreAtMost : {T N I O : Type 0} → Elements T N → Stream I T N
    → Stream O T N → I → O → Type 0
GivesOneRunMoreAtMost integer stream made of result = made.may_give result
    ⊆ bounded_by integer.value_count HasOneRunMoreAtMost complement (stream.may_give of)

-- Whether the result gives the runs of what the operation selects, at most as many as both streams
-- give together.
unfoldable pub GivesRunsOfBothAtMost : {T N L R O : Type 0} → (Selection → Selection → Selection)
    → Elements T N → Stream L T N → Stream R T N → Stream O T N → L → R → O → Type 0
GivesRunsOfBothAtMost operation integer left right made one other result = made.may_give result
    ⊆ bounded_by_two integer.value_count HasRunsOfBothAtMost operation (left.may_give one)
    (right.may_give other)

-- Whether the result gives the runs of the intersection of two streams. If either gives none, there
-- are none; otherwise there are fewer than both give together.
unfoldable pub GivesFewerRunsThanBoth : {T N L R O : Type 0} → Elements T N → Stream L T N
    → Stream R T N → Stream O T N → L → R → O → Type 0
GivesFewerRunsThanBoth integer left right made one other result = made.may_give result
    ⊆ bounded_by_two integer.value_count HasFewerRunsThanBoth intersection (left.may_give one)
    (right.may_give other)
