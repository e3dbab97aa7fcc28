-- What an array becomes by `into_iter`, as a source of a stream.
use Rattle.std.proofs.Common.{◌≡◌, ℕ, ◌+◌, ◌<◌, ◌≤◌, false, cond, List, [], ◌∷◌, ◌++◌, length, sym, ap, ◌∙◌, subst}
use Rattle.std.proofs.lemmas.List.{map-append, nil_from_length}
use Rattle.std.proofs.lemmas.List.Elements.{All-nil, All-cons}
use Rattle.std.specs.Array.Iter.{array_into_iter_items, array_steps}
use Rattle.std.specs.Iterator.{at_most}
use Rattle.std.specs.Range.{range_inclusive_start, range_inclusive_end, range_inclusive_exhausted}
use Rattle.std.specs.declared.array.IntoIter.{IntoIter}
use Rattle.std.specs.declared.iter.Iterator.{Ghosts as Iteration}
use Rattle.std.specs.declared.ops.RangeInclusive.{RangeInclusive}
use Rattle.rsb_integer.specs.Rank.{interval_of, intervals_of}
use Rattle.rsb_integer.specs.Runs.{Interval, AllEndBelow, IsCanonicalIn}
use Rattle.rsb_integer.proofs.lemmas.Canonical.{canonical-front}
use Rattle.rsb_streams.specs.Calls.{IsSource}
use Rattle.rsb_streams.specs.laws.Calls.{calls-steps}
use Rattle.rsb_streams.specs.Stream.{HasSortedStarts, HasSortedStartsFrom}
use Rattle.rsb_streams.specs.laws.Stream.{spaced-canonical}
use Rattle.rsb_streams.specs.Touching.{IsSpacedFrom, IsSpacedIn, IsTouchingIn}
use Rattle.rsb_streams.proofs.lemmas.checking.Spaced.{spaced-front}
use Rattle.rsb_streams.proofs.lemmas.sources.Lawful.{sorted-front}
use Rattle.rsb_streams.proofs.lemmas.sources.Listed.{listed-yields}

-- ---- ranges by their ends, in a type of n values
module _ {T : Type 0} (rank : T → ℕ) (n : ℕ) where
  -- Whether the range was not iterated to its end, is non-empty, and is within the type.
  pub record IsWhole (range : RangeInclusive T) : Type 0 where
    pub whole : range_inclusive_exhausted range ≡ false
    pub in_order : rank (range_inclusive_start range) ≤ rank (range_inclusive_end range)
    pub in_type : rank (range_inclusive_end range) < n

  -- Whether the first range starts at `low` or later, and each other one at `gap` past the end of
  -- the one before, or later.
  abbrev pub AreSpacedFrom : ℕ → ℕ → List (RangeInclusive T) → Type 0
  AreSpacedFrom gap low [] = Unit {0}
  AreSpacedFrom gap low (range ∷ ranges) =
      (low ≤ rank (range_inclusive_start range)) × IsWhole range
      × AreSpacedFrom gap (rank (range_inclusive_end range) + gap) ranges

  -- Whether the first range starts at `low` or later, and each other one no earlier than the one
  -- before.
  abbrev pub AreByStartsFrom : ℕ → List (RangeInclusive T) → Type 0
  AreByStartsFrom low [] = Unit {0}
  AreByStartsFrom low (range ∷ ranges) =
      (low ≤ rank (range_inclusive_start range)) × IsWhole range
      × AreByStartsFrom (rank (range_inclusive_start range)) ranges

  -- The interval of such a range is from the rank of its start to the rank of its end.
  whole-interval : (range : RangeInclusive T) → IsWhole range → interval_of rank range
      ≡ record {
        first = rank (range_inclusive_start range);
        last = rank (range_inclusive_end range);
      }
  whole-interval range is =
      ap (λ exhausted. cond exhausted (record { first = 1; last = 0 })
      (record {
        first = rank (range_inclusive_start range);
        last = rank (range_inclusive_end range);
      })) is.whole

  -- The intervals of spaced ranges are spaced.
  spaced-list : (gap low : ℕ) (ranges : List (RangeInclusive T)) → AreSpacedFrom gap low ranges
      → IsSpacedFrom gap low (intervals_of rank ranges) × AllEndBelow n (intervals_of rank ranges)
  spaced-list gap low [] spaced = (tt, All-nil (λ (run : Interval). run.last < n))
  spaced-list gap low (range ∷ ranges) spaced =
      let runs = intervals_of rank ranges in
      let rest = spaced-list gap (rank (range_inclusive_end range) + gap) ranges spaced.2 in
      subst (λ (run : Interval). IsSpacedFrom gap low (run ∷ runs) × AllEndBelow n (run ∷ runs))
      (sym (whole-interval range spaced.1)) (
        record { starts = spaced.0; in_order = spaced.1.in_order; rest = rest.0 },
        All-cons (λ (run : Interval). run.last < n) _ runs spaced.1.in_type rest.1,
      )

  -- The intervals of spaced ranges are spaced in the type.
  spaced-in : (gap : ℕ) (ranges : List (RangeInclusive T)) → AreSpacedFrom gap 0 ranges
      → IsSpacedIn gap n (intervals_of rank ranges)
  spaced-in gap ranges spaced =
      let all = spaced-list gap 0 ranges spaced in record { spaced = all.0; within = all.1 }

  -- Ranges sorted by start are a list sorted by start.
  starts-sorted : (low : ℕ) (ranges : List (RangeInclusive T)) → AreByStartsFrom low ranges
      → HasSortedStartsFrom n low (intervals_of rank ranges)
  starts-sorted low [] sorted = tt
  starts-sorted low (range ∷ ranges) sorted =
      subst (λ (run : Interval). HasSortedStartsFrom n low (run ∷ intervals_of rank ranges))
      (sym (whole-interval range sorted.1)) (record {
        starts = sorted.0;
        in_order = sorted.1.in_order;
        in_type = sorted.1.in_type;
        rest = starts-sorted (rank (range_inclusive_start range)) ranges sorted.2;
      })

-- ---- arrays
module _ {T : Type 0} (size : ℕ) (rank : T → ℕ) where
  -- What an array of ranges becomes.
  abbrev Items : Type 0
  Items = IntoIter (RangeInclusive T) size

  -- Its iteration. It may always be called.
  abbrev items : Iteration Items (RangeInclusive T)
  items = record {
    can_next = λ s. Unit {0};
    next_gives = array_steps;
    remaining = λ s. at_most (length (array_into_iter_items s));
  }

  -- If its items satisfy a law that prefixes keep, it is a source for that law.
  array-source : (law : List Interval → Type 0)
      → ((runs others : List Interval) → law (runs ++ others) → law runs) → (s : Items)
      → law (intervals_of rank (array_into_iter_items s)) → IsSource rank items law s
  array-source law front s lawful = record {
    callable = tt;
    finite = tt;
    fronts = λ ranges t all.
        let whole = listed-yields rank items array_into_iter_items
        (λ s t range call. call) (λ s t call. nil_from_length (array_into_iter_items s) call.0)
        ranges s t
        (calls-steps rank items ranges s t all) in
        front (intervals_of rank ranges) (intervals_of rank (array_into_iter_items t))
        (subst law (ap (intervals_of rank) whole
        ∙ map-append (interval_of rank) ranges (array_into_iter_items t)) lawful);
  }

  -- It is a source of a canonical list if its items are canonical.
  pub array-canonical : (n : ℕ) (s : Items)
      → IsCanonicalIn n (intervals_of rank (array_into_iter_items s))
      → IsSource rank items (IsCanonicalIn n) s
  array-canonical n = array-source (IsCanonicalIn n) (canonical-front n)

  -- It is a source of a list sorted by start if its items are sorted by start.
  pub array-sorted : (n : ℕ) (s : Items)
      → HasSortedStarts n (intervals_of rank (array_into_iter_items s))
      → IsSource rank items (HasSortedStarts n) s
  array-sorted n = array-source (HasSortedStarts n) (sorted-front n 0)

  -- An array of ranges that are apart becomes a source of a canonical list.
  pub array-apart : (n : ℕ) (ranges : List (RangeInclusive T)) → AreSpacedFrom rank n 2 0 ranges
      → (s : Items) → array_into_iter_items s ≡ ranges
      → IsSource rank items (IsCanonicalIn n) s
  array-apart n ranges apart s is =
      array-canonical n s
      (subst (λ left. IsCanonicalIn n (intervals_of rank left)) (sym is)
      (spaced-canonical n (intervals_of rank ranges) (spaced-in rank n 2 ranges apart)))

  -- An array of ranges that may touch becomes a source of a touching list.
  pub array-touching : (n : ℕ) (ranges : List (RangeInclusive T)) → AreSpacedFrom rank n 1 0 ranges
      → (s : Items) → array_into_iter_items s ≡ ranges
      → IsSource rank items (IsTouchingIn n) s
  array-touching n ranges touching s is =
      array-source (IsTouchingIn n) (spaced-front 1 n) s
      (subst (λ left. IsTouchingIn n (intervals_of rank left)) (sym is)
      (spaced-in rank n 1 ranges touching))

  -- An array of ranges sorted by start becomes a source of a list sorted by start.
  pub array-by_starts : (n : ℕ) (ranges : List (RangeInclusive T))
      → AreByStartsFrom rank n 0 ranges
      → (s : Items) → array_into_iter_items s ≡ ranges
      → IsSource rank items (HasSortedStarts n) s
  array-by_starts n ranges sorted s is =
      array-sorted n s
      (subst (λ left. HasSortedStarts n (intervals_of rank left)) (sym is)
      (starts-sorted rank n 0 ranges sorted))
