-- What iterators over elements stand for: a set of ranks, from which each call takes the least or
-- the greatest.
use Rattle.std.specs.Prelude.{◌≡◌, ◌↔◌, ℕ, ◌+◌, ◌*◌, cond, false, List, [], ◌∷◌, ◌++◌, Option, Some, None, IsNone, IfSome, MatchOption}
use Rattle.std.specs.Iterator.{Count, YieldsLast, size}
use Rattle.std.specs.declared.ops.RangeInclusive.{RangeInclusive}
use Rattle.rsb_integer.specs.Rank.{interval_of, intervals_of}
use Rattle.rsb_integer.specs.Runs.{Interval, length_of, members, IsCanonicalIn, HasNoRanks}
use Rattle.rsb_integer.specs.Selection.{Selection, difference, IsEmpty}
use Rattle.rsb_streams.specs.Fused.{Fused, fused_can, fused_may_give}
use Rattle.rsb_streams.specs.Listed.{listed_may_give}
use Rattle.rsb_streams.specs.Stream.{Outcomes, ◌⊆◌, run_if_any}
use Rattle.rsb_storage.specs.Set.{only, IsGreatest, IsLeast}
use Rattle.range_set_blaze.specs.declared.iter.Iter.{Iter}

-- ---- one element is removed from a set

-- The set without the value, if there is one.
abbrev pub without_value : {T : Type 0} → (T → ℕ) → Selection → Option T → Selection
without_value rank selected None = selected
without_value rank selected (Some value) = difference selected (only (rank value))

module _ {T : Type 0} (rank : T → ℕ) where
  -- Whether the item is the member that `IsFound` finds in the old set, and `None` exactly when
  -- that set is empty. The new set is the old one without the item.
  pub record Takes (IsFound : Selection → ℕ → Type 0) (old : Selection) (item : Option T)
      (new : Selection) : Type 0 where
    pub none : IsNone item ↔ IsEmpty old
    pub found : IfSome item (λ value. IsFound old (rank value))
    pub rest : (point : ℕ) → new point ≡ without_value rank old item point

  -- Whether the item is the least member.
  abbrev pub TakesLeast : ℕ → Selection → Option T → Selection → Type 0
  TakesLeast n = Takes (IsLeast n)

  -- Whether the item is the greatest member.
  abbrev pub TakesGreatest : ℕ → Selection → Option T → Selection → Type 0
  TakesGreatest n = Takes (IsGreatest n)

-- ---- what is left of an iterator over the elements of a stream

-- The interval of a range, or none if the range is empty.
abbrev pub interval_if_any : {T : Type 0} → (T → ℕ) → RangeInclusive T → List Interval
interval_if_any rank range = run_if_any (interval_of rank range)

-- The stream, and whether it has ended.
abbrev pub stream_of : {T I : Type 0} → Iter T I → Fused I
stream_of s = record { iter = s.ranges; done = s.done }

-- Whether nothing has been taken from the stream yet.
pub record IsWhole {T I : Type 0} (rank : T → ℕ) (ranges : I) (s : Iter T I) : Type 0 where
  pub source : s.ranges ≡ ranges
  pub undone : s.done ≡ false
  pub front : HasNoRanks (interval_of rank s.front)
  pub back : HasNoRanks (interval_of rank s.back)

-- These intervals, between those held from the front and from the back.
abbrev pub between_ends : {T I : Type 0} → (T → ℕ) → Iter T I → List Interval → List Interval
between_ends rank s rest = interval_if_any rank s.front ++ (rest ++ interval_if_any rank s.back)

-- Whether the runs are those held from both ends, with something between them that the stream may
-- still give.
abbrev pub left_between : {T I : Type 0} → (T → ℕ) → (I → Outcomes) → Iter T I → Outcomes
left_between rank may_give s runs = (rest : List Interval)
    × fused_may_give may_give (stream_of s) rest × (runs ≡ between_ends rank s rest)

-- An upper bound on the number of elements left: those that are held, plus, for each range to come,
-- as many as the type has values.
abbrev pub elements_left : {T I : Type 0} → (T → ℕ) → ℕ → (I → Count) → Iter T I → Count
elements_left rank n left s = record {
  bounded = (left s.ranges).bounded;
  bound = length_of (interval_of rank s.front) + length_of (interval_of rank s.back)
      + cond s.done 0 (size (left s.ranges) * n);
}

-- The greatest number of ranges that the stream may still give.
abbrev pub ranges_left : {T I : Type 0} → (I → Count) → Iter T I → Count
ranges_left left s = record {
  bounded = (left s.ranges).bounded;
  bound = cond s.done 0 (size (left s.ranges));
}

module _ {T I : Type 0} (rank : T → ℕ) (n : ℕ) (can_draw : I → Type 0)
    (may_give : I → Outcomes) where
  -- Whether the stream is ready or has ended, and what is left is canonical.
  pub record IsReady (s : Iter T I) : Type 0 where
    pub callable : fused_can can_draw (stream_of s)
    pub canonical : left_between rank may_give s ⊆ IsCanonicalIn n

  -- Whether the iterator may be called. No proof search unfolds this definition, because `rev`
  -- requires it of the iterator that it holds.
  unfoldable pub ElementsReady : Iter T I → Type 0
  ElementsReady s = IsReady s

  -- `ElementsReady` implies `IsReady`.
  pub is_ready : (s : Iter T I) → ElementsReady s → IsReady s
  unfolding ElementsReady
  is_ready s ready = ready

  -- `IsReady` implies `ElementsReady`.
  pub elements_ready : (s : Iter T I) → IsReady s → ElementsReady s
  unfolding ElementsReady
  elements_ready s ready = ready

  -- Whether the iterator may be called again after a call, and the item was taken from what was
  -- left. For each list that may be left after the call, there is a list that may have been left
  -- before, and removing the item from it gives the list after the call.
  pub record Gives (IsFound : Selection → ℕ → Type 0) (s : Iter T I) (item : Option T)
      (t : Iter T I) : Type 0 where
    pub ready : ElementsReady t
    pub takes : (after : List Interval) → left_between rank may_give t after
        → (before : List Interval) × left_between rank may_give s before
        × Takes rank IsFound (members before) item (members after)

  -- Whether the item was the least member.
  abbrev pub GivesLeast : Iter T I → Option T → Iter T I → Type 0
  GivesLeast = Gives (IsLeast n)

  -- Whether the item was the greatest member.
  abbrev pub GivesGreatest : Iter T I → Option T → Iter T I → Type 0
  GivesGreatest = Gives (IsGreatest n)

  -- ---- streams that can be called from both ends (docs/DECISIONS.md, goes-back)

  -- Whether the range that a call from the back returned might have come last, after whatever may
  -- still come.
  abbrev pub AnswersLast : I → Option (RangeInclusive T) → I → Type 0
  AnswersLast s item t = MatchOption item (may_give s [])
      (λ range. (rest : List Interval) → may_give t rest
      → may_give s (rest ++ interval_of rank range ∷ []))

  module _ (can_next_back : I → Type 0) (back_gives : I → Option (RangeInclusive T) → I → Type 0)
    where
      -- Whether the stream may be called from the back exactly when it is ready, and calls from the
      -- back return what may come last.
      pub record GoesBack : Type 0 where
        pub callable : (s : I) → can_draw s → can_next_back s
        pub drawable : (s : I) → can_next_back s → can_draw s
        pub answers : (s t : I) (item : Option (RangeInclusive T)) → back_gives s item t
            → AnswersLast s item t

      -- Whether the stream can be called from both ends, and the iterator may be called.
      pub record ElementsReadyBack (s : Iter T I) : Type 0 where
        pub both_ends : GoesBack
        pub ready : ElementsReady s

-- ---- streams whose state shows the list of the ranges to come

module _ {T : Type 0} (rank : T → ℕ) (n : ℕ) where
  -- Whether the list is canonical.
  abbrev pub IsListReady : List (RangeInclusive T) → Type 0
  IsListReady ranges = IsCanonicalIn n (intervals_of rank ranges)

  -- Whether the iterator may be called from the front.
  abbrev pub ListedReady : Iter T (List (RangeInclusive T)) → Type 0
  ListedReady = ElementsReady rank n IsListReady (listed_may_give rank (λ ranges. ranges))

  -- Whether the iterator may be called from both ends.
  abbrev pub ListedReadyBack : Iter T (List (RangeInclusive T)) → Type 0
  ListedReadyBack = ElementsReadyBack rank n IsListReady (listed_may_give rank (λ ranges. ranges))
      IsListReady (YieldsLast (λ ranges. ranges))

-- What is left, as intervals in ascending order.
abbrev pub runs_left : {T : Type 0} → (T → ℕ) → Iter T (List (RangeInclusive T)) → List Interval
runs_left rank s = between_ends rank s (cond s.done [] (intervals_of rank s.ranges))

-- Whether the iterator may be called from both ends, and has the members of the set.
pub record IsOverSet {T : Type 0} (rank : T → ℕ) (n : ℕ) (set : List Interval)
    (elements : Iter T (List (RangeInclusive T))) : Type 0 where
  pub runs : runs_left rank elements ≡ set
  pub ready : ListedReady rank n elements
  pub ready_back : ListedReadyBack rank n elements
