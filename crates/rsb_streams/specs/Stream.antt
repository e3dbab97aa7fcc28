-- What a stream of ranges may still give, as lists of intervals of ranks.
use Rattle.std.specs.Prelude.{◌≡◌, ◌⊎◌, ℕ, Bool, not, ◌&&◌, cond, ◌<◌, ◌≤◌, nat_le, List, [], ◌∷◌, Option, Some, None, MatchOption, MatchBool}
use Rattle.std.specs.declared.ops.RangeInclusive.{RangeInclusive}
use Rattle.std.specs.Iterator.{Count, IsFinite}
use Rattle.rsb_integer.specs.Rank.{interval_of}
use Rattle.rsb_integer.specs.Runs.{Interval, members, AreRuns}
use Rattle.rsb_integer.specs.Selection.{Selection, complement, difference, intersection, symmetric_difference, union}

-- ---- lists of intervals

-- Whether the intervals are non-empty, within a type of n values and sorted by start, and the first
-- starts at `low` or later.
abbrev pub HasSortedStartsFrom : ℕ → ℕ → List Interval → Type 0
HasSortedStartsFrom n low [] = Unit {0}
HasSortedStartsFrom n low (run ∷ runs) = record {
  starts : low ≤ run.first;
  in_order : run.first ≤ run.last;
  in_type : run.last < n;
  rest : HasSortedStartsFrom n run.first runs;
}

-- Whether the intervals are non-empty, within a type of n values and sorted by start.
abbrev pub HasSortedStarts : ℕ → List Interval → Type 0
HasSortedStarts n runs = HasSortedStartsFrom n 0 runs

-- Whether the last list is a merge of the two others: it has the intervals of both, each as often
-- as the two have it together, and keeps the order of each list.
abbrev pub IsMergeOf : List Interval → List Interval → List Interval → Type 0
IsMergeOf left right [] = (left ≡ []) × (right ≡ [])
IsMergeOf left right (run ∷ runs) =
    ((rest : List Interval) × (left ≡ run ∷ rest) × IsMergeOf rest right runs)
    ⊎ ((rest : List Interval) × (right ≡ run ∷ rest) × IsMergeOf left rest runs)

-- ---- outcomes

-- The lists that a stream may still give. There are several if a closure in it may return either
-- value.
abbrev pub Outcomes : Type 1
Outcomes = List Interval → Type 0

-- Whether `Q` has every list that `P` has.
infix 40 ◌⊆◌
abbrev pub ◌⊆◌ : Outcomes → Outcomes → Type 0
P ⊆ Q = (runs : List Interval) → P runs → Q runs

-- Only the given list.
abbrev pub just : List Interval → Outcomes
just runs others = others ≡ runs

-- Whether there is a list that may be given. A closure might not return, so this names no list: it
-- only rules out that there is none.
abbrev pub HasOutcome : Outcomes → Type 0
HasOutcome P = ¬ ((runs : List Interval) → ¬ (P runs))

-- Whether the fact holds of some list that may be given. This names no list either.
abbrev pub SomeOutcome : Outcomes → (List Interval → Type 0) → Type 0
SomeOutcome P Fact = ¬ ((runs : List Interval) → P runs → ¬ (Fact runs))

-- Whether the fact holds of some pair of lists, one from each stream, that the two may give.
abbrev pub SomeOutcomes : Outcomes → Outcomes → (List Interval → List Interval → Type 0) → Type 0
SomeOutcomes P Q Fact = ¬ ((left right : List Interval) → P left → Q right → ¬ (Fact left right))

-- ---- outcomes built from others, in a type of n values

-- The runs of the members of what was given.
abbrev pub joined_runs : ℕ → Outcomes → Outcomes
joined_runs n P runs = SomeOutcome P (λ given. AreRuns n (members given) runs)

-- The runs of a set built from what was given.
abbrev pub runs_by : ℕ → (Selection → Selection) → Outcomes → Outcomes
runs_by n operation P runs = SomeOutcome P (λ given. AreRuns n (operation (members given)) runs)

-- The runs of a set built from what two streams gave.
abbrev pub runs_by_two : ℕ → (Selection → Selection → Selection) → Outcomes → Outcomes → Outcomes
runs_by_two n operation P Q runs =
    SomeOutcomes P Q (λ left right. AreRuns n (operation (members left) (members right)) runs)

-- The merges of what two streams gave, sorted by start.
abbrev pub merges : ℕ → Outcomes → Outcomes → Outcomes
merges n P Q runs =
    SomeOutcomes P Q (λ left right. HasSortedStarts n runs × IsMergeOf left right runs)

-- The list of only this interval, or the empty list if the interval is empty.
abbrev pub run_if_any : Interval → List Interval
run_if_any run = cond (nat_le run.first run.last) (run ∷ []) []

-- The outcomes, or only the empty list if the stream is done.
abbrev pub outcomes_unless : Bool → Outcomes → Outcomes
outcomes_unless done P runs = MatchBool done (runs ≡ []) (P runs)

-- The held range, if there is one, followed by what else may be given.
abbrev pub after : {T : Type 0} → (T → ℕ) → Option (RangeInclusive T) → Outcomes → Outcomes
after rank None P runs = P runs
after rank (Some range) P runs = record {
  rest : List Interval;
  given : P rest;
  is : runs ≡ interval_of rank range ∷ rest;
}

-- The ranks from `first` onwards that are not in the set.
abbrev pub gaps_from : ℕ → Selection → Selection
gaps_from first selected rank = nat_le first rank && not (selected rank)

-- ---- calls of `next`

-- Whether a call fits what may be given: the returned range, followed by whatever may come after
-- the call, might come before it. If the call returns `None`, the empty list might come before it.
abbrev pub Answers : {S T : Type 0} → (T → ℕ) → (S → Outcomes)
    → S → Option (RangeInclusive T) → S → Type 0
Answers rank may_give s item t = MatchOption item (may_give s [])
    (λ range. (rest : List Interval) → may_give t rest → may_give s (interval_of rank range ∷ rest))

-- Whether, after `None`, the stream may be called again and nothing comes.
abbrev pub Rests : {S T : Type 0} → (S → Type 0) → (S → Outcomes)
    → Option (RangeInclusive T) → S → Type 0
Rests can_next may_give item t = MatchOption item (can_next t × (may_give t ⊆ just []))
    (λ _. Unit {0})

-- Both of these.
pub record AnswersAndRests {S T : Type 0} (rank : T → ℕ) (can_next : S → Type 0)
    (may_give : S → Outcomes)
    (s : S) (item : Option (RangeInclusive T)) (t : S) : Type 0 where
  pub answers : Answers rank may_give s item t
  pub rests : Rests can_next may_give item t

-- The same, and what the call asked of the streams that the stream is built from.
pub record AnswersAndAsks {S T : Type 0} (rank : T → ℕ) (can_next : S → Type 0)
    (may_give : S → Outcomes) (Asks : S → Option (RangeInclusive T) → S → Type 0)
    (s : S) (item : Option (RangeInclusive T)) (t : S) : Type 0 where
  pub answers : Answers rank may_give s item t
  pub rests : Rests can_next may_give item t
  pub asks : Asks s item t

-- Whether something may be given, all that may be given satisfies the law, and the calls end.
pub record Keeps (law : List Interval → Type 0) (P : Outcomes) (remaining : Count) : Type 0 where
  pub some : HasOutcome P
  pub all : P ⊆ law
  pub ends : IsFinite remaining

-- ---- results

-- Whether a stream built from another gives only the runs of its complement.
abbrev pub GivesComplement : ℕ → Outcomes → Outcomes → Type 0
GivesComplement n of given = given ⊆ runs_by n complement of

-- Whether a stream built from two others gives only the runs of their union.
abbrev pub GivesUnion : ℕ → Outcomes → Outcomes → Outcomes → Type 0
GivesUnion n left right given = given ⊆ runs_by_two n union left right

-- Whether a stream built from two others gives only the runs of their intersection.
abbrev pub GivesIntersection : ℕ → Outcomes → Outcomes → Outcomes → Type 0
GivesIntersection n left right given = given ⊆ runs_by_two n intersection left right

-- Whether a stream built from two others gives only the runs of their difference.
abbrev pub GivesDifference : ℕ → Outcomes → Outcomes → Outcomes → Type 0
GivesDifference n left right given = given ⊆ runs_by_two n difference left right

-- Whether a stream built from two others gives only the runs of their symmetric difference.
abbrev pub GivesSymmetricDifference : ℕ → Outcomes → Outcomes → Outcomes → Type 0
GivesSymmetricDifference n left right given =
    given ⊆ runs_by_two n symmetric_difference left right

-- Whether a stream is ready, and the fact about what it gives holds.
pub record IsReadyAnd {S : Type 0} (can_next : S → Type 0) (s : S) (Gives : Type 0) : Type 0 where
  pub ready : can_next s
  pub gives : Gives

-- ---- `next` and `draw`

-- Whether `next` is `draw`: it may be called exactly when `draw` may, does what `draw` does, and
-- has as many ranges to come. For a call that returns `None`, this is stated only if the call is
-- allowed. The reason is a closure in a stream, such as that of a `Filter`, which may reject every
-- range that is left. That the empty list might come is then known only if the stream is ready.
pub record IsDrawn {S T : Type 0} (can_draw : S → Type 0)
    (draw_gives : S → Option (RangeInclusive T) → S → Type 0) (draws_left : S → Count)
    (can_next : S → Type 0) (next_gives : S → Option (RangeInclusive T) → S → Type 0)
    (remaining : S → Count) : Type 0 where
  pub drawable : (s : S) → can_next s → can_draw s
  pub callable : (s : S) → can_draw s → can_next s
  pub gives : (s t : S) (range : RangeInclusive T) → next_gives s (Some range) t
      → draw_gives s (Some range) t
  pub ends : (s t : S) → can_next s → next_gives s None t → draw_gives s None t
  pub counts : (s : S) → remaining s ≡ draws_left s
