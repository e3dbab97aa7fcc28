-- Any number of streams, by their places from 0, and what results from what they give.
use Rattle.std.specs.Prelude.{◌⊎◌, ℕ, zero, suc, List, [], ◌∷◌, ◌++◌, ◌≡◌, ◌≤◌, length, map, slice_get, MatchOption}
use Rattle.rsb_integer.specs.Runs.{Interval, members, AreRuns}
use Rattle.rsb_integer.specs.Selection.{Selection}
use Rattle.rsb_streams.specs.Lookahead.{Input, Uses}
use Rattle.rsb_streams.specs.Stream.{◌⊆◌, just, merges, Outcomes}

-- What an input may give: what is held of it, and then what it still gives.
abbrev pub gives_of : Input → Outcomes
gives_of input runs = (rest : List Interval) × input.undrawn rest × (runs ≡ input.held ++ rest)

-- What the stream at a place may give. Past the last stream nothing comes.
abbrev pub may_give_at : {S : Type 0} → (S → Outcomes) → List S → ℕ → Outcomes
may_give_at may_give streams place runs =
    MatchOption (slice_get streams place) (runs ≡ []) (λ stream. may_give stream runs)

-- ---- a given number of streams

-- What the streams may give, merged by starts: the first stream merged with a merge of the others.
abbrev pub merges_all : ℕ → ℕ → (ℕ → Outcomes) → Outcomes
merges_all n zero may_give = just []
merges_all n (suc count) may_give =
    merges n (may_give zero) (merges_all n count (λ place. may_give (suc place)))

-- Whether each list is one that the stream at its place may give.
abbrev pub OneOfEach : ℕ → (ℕ → Outcomes) → List (List Interval) → Type 0
OneOfEach zero may_give [] = Unit {0}
OneOfEach zero may_give (runs ∷ lists) = ⊥
OneOfEach (suc count) may_give [] = ⊥
OneOfEach (suc count) may_give (runs ∷ lists) =
    may_give zero runs × OneOfEach count (λ place. may_give (suc place)) lists

-- Whether the fact holds of some lists that the streams may give, one of each. “Some” means “not
-- none”.
abbrev pub SomeOfEach : ℕ → (ℕ → Outcomes) → (List (List Interval) → Type 0) → Type 0
SomeOfEach count may_give Fact =
    ¬ ((lists : List (List Interval)) → OneOfEach count may_give lists → ¬ (Fact lists))

-- The runs of the set that the operation makes of what the streams gave.
abbrev pub runs_by_all : ℕ → (List Selection → Selection) → ℕ → (ℕ → Outcomes) → Outcomes
runs_by_all n operation count may_give runs = SomeOfEach count may_give
    (λ lists. AreRuns n (operation (map members lists)) runs)

-- ---- inputs that a stream draws from

-- Whether an input gives only what the stream may give, and at most one range of it is held.
pub record IsBegun (may_give : Outcomes) (input : Input) : Type 0 where
  pub gives : gives_of input ⊆ may_give
  pub one : length input.held ≤ 1

-- Whether at most one range of each input is held.
abbrev pub HoldOneAtMost : (ℕ → Input) → Type 0
HoldOneAtMost inputs = (place : ℕ) → length (inputs place).held ≤ 1

-- Whether the interval lies within one of the answers.
abbrev pub IsWithinSome : List Interval → Interval → Type 0
IsWithinSome [] run = ⊥
IsWithinSome (answer ∷ answers) run =
    ((answer.first ≤ run.first) × (run.last ≤ answer.last)) ⊎ IsWithinSome answers run

-- Whether each of the intervals lies within one of the answers.
abbrev pub AreWithinSome : List Interval → List Interval → Type 0
AreWithinSome answers [] = Unit {0}
AreWithinSome answers (run ∷ runs) = IsWithinSome answers run × AreWithinSome answers runs

-- Whether each range that was used of an input lies within one of the answers, and at most one
-- range of it is held afterwards.
pub record UsesWithin (answers : List Interval) (before now : Input) : Type 0 where
  pub used : List Interval
  pub uses : Uses before used now
  pub within : AreWithinSome answers used
  pub one : length now.held ≤ 1
