-- The runs and gaps of a stream, as they come.
use Rattle.std.proofs.Common.{◌≡◌, ℕ, ◌-◌, Bool, List, [], ◌∷◌}
use Rattle.std.specs.Prelude.{Option, Some, None, IfSome, MatchOption}
use Rattle.std.specs.Iterator.{Count, at_most}
use Rattle.std.specs.declared.ops.RangeInclusive.{RangeInclusive}
use Rattle.rsb_integer.specs.Rank.{interval_of}
use Rattle.rsb_integer.specs.Runs.{Interval, members, AreRuns}
use Rattle.rsb_integer.specs.declared.integer.Integer.{Ghosts as Elements}
use Rattle.rsb_streams.specs.FillGaps.{marked_runs, marked_gaps, IsAscendingFrom, IsFilledList}
use Rattle.rsb_streams.specs.NotIter.{NotReady}
use Rattle.rsb_streams.specs.PutBack.{put_back}
use Rattle.rsb_streams.specs.Stream.{Outcomes, gaps_from, SomeOutcome}
use Rattle.rsb_streams.specs.declared.draw.Draw.{Ghosts as Stream}
use Rattle.rsb_streams.specs.declared.fill_gaps_iter.FillGapsIter.{FillGapsIter}

-- The lists of runs and gaps that may still come.
abbrev pub FilledOutcomes : Type 1
FilledOutcomes = List (Interval × Bool) → Type 0

-- Whether the list ascends and has the given runs, and the gaps that they leave from the rank `low`
-- onwards.
pub record FillsFrom (n low : ℕ) (runs : List Interval) (pairs : List (Interval × Bool)) : Type
    0 where
  pub ascending : IsAscendingFrom low pairs
  pub all_runs : marked_runs pairs ≡ runs
  pub gaps : AreRuns n (gaps_from low (members runs)) (marked_gaps pairs)

-- What may come if the next run or gap starts at the given value. If there is no such value,
-- nothing comes.
abbrev pub fills_after : {T : Type 0} → (T → ℕ) → ℕ → Option T → Outcomes → FilledOutcomes
fills_after rank n None P pairs = pairs ≡ []
fills_after rank n (Some start) P pairs =
    SomeOutcome P (λ given. FillsFrom n (rank start) given pairs)

-- The number of values from the next start onwards.
abbrev pub values_from : {T : Type 0} → (T → ℕ) → ℕ → Option T → ℕ
values_from rank n None = 0
values_from rank n (Some start) = n - rank start

-- At most as many runs and gaps are left as there are values left.
abbrev pub fill_remaining : {T N I : Type 0} → Elements T N → FillGapsIter T I → Count
fill_remaining integer s = at_most (values_from integer.rank integer.value_count s.start)

module _ {T N I : Type 0} (integer : Elements T N) (stream : Stream I T N) where
  -- The runs that are held or still to come, with their gaps.
  abbrev pub fill_may_give : FillGapsIter T I → FilledOutcomes
  fill_may_give s = fills_after integer.rank integer.value_count s.start
      ((put_back integer stream).may_give s.iter)

  -- Whether the iterator may be called: it reached the greatest value, or its stream is ready for a
  -- gap from the next start onwards.
  abbrev pub fill_can_next : FillGapsIter T I → Type 0
  fill_can_next s = IfSome s.start (NotReady integer (put_back integer stream) s.iter)

  -- Whether a call fits what may be given. After `None`, the iterator may be called again, and
  -- nothing comes.
  pub record FillSteps (s : FillGapsIter T I) (item : Option (RangeInclusive T × Bool))
      (t : FillGapsIter T I) : Type 0 where
    pub answers : MatchOption item (fill_may_give s [])
        (λ pair. (rest : List (Interval × Bool)) → fill_may_give t rest
        → fill_may_give s ((interval_of integer.rank pair.0, pair.1) ∷ rest))
    pub rests : MatchOption item
        (fill_can_next t × ((pairs : List (Interval × Bool)) → fill_may_give t pairs → pairs ≡ []))
        (λ _. Unit {0})

-- Whether each list that may be given is the filled list of something that the stream may give.
abbrev pub GivesFilled : ℕ → Outcomes → FilledOutcomes → Type 0
GivesFilled n of told = (pairs : List (Interval × Bool)) → told pairs
    → SomeOutcome of (λ runs. IsFilledList n (members runs) pairs)
