-- The pieces that an odd number of ranges cover, if no rank is in more than two of the ranges.
use Rattle.std.proofs.Common.{◌≡◌, ℕ, ◌+◌, ◌≤◌, false, true, max, min, List, [], ◌∷◌, ◌++◌, length, map}
use Rattle.std.specs.Prelude.{Option, Some, None, IfNone, MatchBool}
use Rattle.std.specs.Iterator.{Count, count_map, count_unless, Yields, YieldsThen}
use Rattle.std.specs.declared.ops.RangeInclusive.{RangeInclusive}
use Rattle.rsb_integer.specs.Rank.{interval_of, intervals_of}
use Rattle.rsb_integer.specs.Runs.{Interval, cover, covers, members, HasRanks}
use Rattle.rsb_integer.specs.Selection.{Selection, Agree, odd_of}
use Rattle.rsb_integer.specs.declared.integer.Integer.{Ghosts as Elements}
use Rattle.rsb_streams.specs.Rows.{stream_asking}
use Rattle.rsb_streams.specs.Stream.{Outcomes, HasSortedStarts, SomeOutcome, outcomes_unless}
use Rattle.rsb_streams.specs.declared.draw.Draw.{Ghosts as Stream}
use Rattle.rsb_streams.specs.declared.odd_pieces.OddPieces.{OddPieces}

-- ---- lists of intervals

-- The ranks in an odd number of the intervals.
abbrev pub oddly_covered : List Interval → Selection
oddly_covered runs = odd_of (map (λ run rank. covers run rank) runs)

-- Whether no rank is in more than two of the intervals.
abbrev pub IsTwoDeep : List Interval → Type 0
IsTwoDeep runs = (rank : ℕ) → cover runs rank ≤ 2

-- Whether the intervals are non-empty, within a type of n values and sorted by start, and no rank
-- is in more than two of them.
pub record IsTwofold (n : ℕ) (runs : List Interval) : Type 0 where
  pub sorted : HasSortedStarts n runs
  pub deep : IsTwoDeep runs

-- Whether the pieces are non-empty intervals within a type of n values, sorted by start, and have
-- exactly the ranks of the set.
pub record ArePieces (n : ℕ) (selected : Selection) (pieces : List Interval) : Type 0 where
  pub sorted : HasSortedStarts n pieces
  pub same : Agree n (members pieces) selected

-- The pieces of the ranks in an odd number of the intervals, counting both those in `before` and
-- those that may be given.
abbrev pub pieces_of : ℕ → List Interval → Outcomes → Outcomes
pieces_of n before P pieces =
    SomeOutcome P (λ given. ArePieces n (oddly_covered (before ++ given)) pieces)

-- ---- the range that has begun and not ended

-- The rest of a range, from `start` to its end. There is none if no range has begun and not ended.
abbrev pub begun_from : {T : Type 0} → (T → ℕ) → T → Option T → List Interval
begun_from rank start None = []
begun_from rank start (Some end) = record { first = rank start; last = rank end } ∷ []

-- The rest of the range that has begun and not ended.
abbrev pub pending_rest : {T I : Type 0} → (T → ℕ) → OddPieces T I → List Interval
pending_rest rank s = begun_from rank s.start s.end

-- The ranks past the lesser of two ends, up to the greater.
abbrev pub past_both : {T : Type 0} → (T → ℕ) → T → T → Interval
past_both rank end other =
    record { first = min (rank end) (rank other) + 1; last = max (rank end) (rank other) }

-- The pending end, as a list.
abbrev pub ends_of : {T : Type 0} → Option T → List T
ends_of None = []
ends_of (Some end) = end ∷ []

-- The pending end, as the items of a vector.
abbrev pub ends_in : {T : Type 0} → Option T → List (Option T)
ends_in None = []
ends_in (Some end) = Some end ∷ []

-- The first of the ends in a vector.
abbrev pub first_end : {T : Type 0} → List (Option T) → Option T
first_end [] = None
first_end (end ∷ ends) = end

-- Whether a vector has at most one end.
abbrev pub HasOneEnd : {T : Type 0} → List (Option T) → Type 0
HasOneEnd ends = ends ≡ ends_in (first_end ends)

-- The state of the pieces with the first end in a vector as the pending one.
abbrev pub with_pending : {T I : Type 0} → OddPieces T I → List (Option T) → OddPieces T I
with_pending s ends =
    record { iter = s.iter; done = s.done; start = s.start; end = first_end ends }

-- ---- what is pending after a draw

-- The rank after a returned piece, or 0 if no piece was returned.
abbrev pub rank_after : {T : Type 0} → (T → ℕ) → Option (RangeInclusive T) → ℕ
rank_after rank None = 0
rank_after rank (Some piece) = (interval_of rank piece).last + 1

-- Whether there is at most one interval, and it is non-empty and starts at the rank or later.
abbrev pub IsOneRunFrom : ℕ → List Interval → Type 0
IsOneRunFrom first [] = Unit {0}
IsOneRunFrom first (run ∷ []) = (first ≤ run.first) × HasRanks run
IsOneRunFrom first (run ∷ other ∷ runs) = ⊥

-- Whether `left` is at most one non-empty interval, which has exactly the ranks from `from` on that
-- are in an odd number of the intervals.
pub record IsLeft (runs : List Interval) (from : ℕ) (left : List Interval) : Type 0 where
  pub one : IsOneRunFrom from left
  pub same : (rank : ℕ) → from ≤ rank → members left rank ≡ oddly_covered runs rank

module _ {T N I : Type 0} (integer : Elements T N) (stream : Stream I T N) where
  -- Whether the source is ready, and no rank is in more than two of the ranges that are pending or
  -- still to come.
  pub record IsGoing (s : OddPieces T I) : Type 0 where
    pub callable : stream.can_draw s.iter
    pub twofold : (given : List Interval) → stream.may_give s.iter given
        → IsTwofold integer.value_count (pending_rest integer.rank s ++ given)

  -- The pieces of the ranks in an odd number of ranges, counting the pending one and those to come.
  -- Once the source has ended and all was given, there are none.
  abbrev pub odd_may_give : OddPieces T I → Outcomes
  odd_may_give s = outcomes_unless s.done
      (pieces_of integer.value_count (pending_rest integer.rank s) (stream.may_give s.iter))

  -- The greatest number of pieces left: one for each range that is pending or still to come.
  abbrev pub odd_remaining : OddPieces T I → Count
  odd_remaining s = count_unless s.done
      (count_map (λ left. left + length (ends_of s.end)) (stream.draws_left s.iter))

  -- Whether a draw takes the ranges `drawn` from the source, and leaves what remains of them. What
  -- is left past the returned piece, of these ranges and of the one that was pending before, is
  -- pending afterwards. So one end is pending if a rank past the piece is in an odd number of these
  -- ranges, and none otherwise. After the source has ended, none is pending.
  pub record Takes (s : OddPieces T I) (item : Option (RangeInclusive T)) (t : OddPieces T I) : Type
      0 where
    pub drawn : List (RangeInclusive T)
    pub draws : MatchBool t.done (YieldsThen stream.draw_gives s.iter drawn None t.iter)
        (Yields stream.draw_gives s.iter drawn t.iter)
    pub ended : IfNone item (t.done ≡ true)
    pub none : t.done ≡ true → t.end ≡ None
    pub left : IsLeft (pending_rest integer.rank s ++ intervals_of integer.rank drawn)
        (rank_after integer.rank item) (pending_rest integer.rank t)

  -- Whether a draw takes such ranges, or does nothing because the source has ended.
  abbrev pub TakesForPiece : OddPieces T I → Option (RangeInclusive T) → OddPieces T I → Type 0
  TakesForPiece s item t = MatchBool s.done ((item ≡ None) × (t ≡ s)) (Takes s item t)

  -- The pieces of a source, as a stream. It is ready while it is going, and after all was given.
  abbrev pub odd_pieces : Stream (OddPieces T I) T N
  odd_pieces = stream_asking integer TakesForPiece (λ s. s.done ≡ false → IsGoing s) odd_remaining
      odd_may_give
