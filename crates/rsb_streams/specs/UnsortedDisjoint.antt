-- Ranges in any order, joined piece by piece.
use Rattle.std.specs.Prelude.{◌≡◌, ℕ, Bool, false, ◌+◌, ◌<◌, ◌≤◌, nat_le, List, [], ◌∷◌, ◌++◌, All, Contains, Option, Some, None, IfSome, IsSomeAnd, MatchOption}
use Rattle.std.specs.List.{filter, AllZip}
use Rattle.std.specs.Option.{option_len}
use Rattle.std.specs.Ordering.{partial_lt}
use Rattle.std.specs.declared.cmp.Ordering.{Ordering}
use Rattle.std.specs.Iterator.{Count, Drains, IsFinite, Yields, count_map}
use Rattle.std.specs.Iterator.Adapters.{fuse_steps}
use Rattle.std.specs.declared.iter.Fuse.{Fuse}
use Rattle.std.specs.declared.iter.Iterator.{Ghosts as Iteration}
use Rattle.std.specs.declared.ops.RangeInclusive.{RangeInclusive}
use Rattle.rsb_integer.specs.Rank.{interval_of, intervals_of}
use Rattle.rsb_integer.specs.Runs.{Interval}
use Rattle.rsb_integer.specs.declared.integer.Integer.{Ghosts as Elements}
use Rattle.rsb_streams.specs.Fused.{fuse_can_next, fuse_remaining}
use Rattle.rsb_streams.specs.declared.unsorted_disjoint.UnsortedDisjoint.{UnsortedDisjoint}

-- ---- pieces and their spans

-- The non-empty intervals, in order.
abbrev pub non_empty : List Interval → List Interval
non_empty items = filter (λ item. nat_le item.first item.last) items

-- Whether two intervals overlap or touch.
abbrev pub Meet : Interval → Interval → Type 0
Meet one other = (one.first ≤ other.last + 1) × (other.first ≤ one.last + 1)

-- Whether `span` is the interval from the least start of the items to their greatest end.
pub record IsSpan (items : List Interval) (span : Interval) : Type 0 where
  pub starts : (item : Interval) × Contains items item × (item.first ≡ span.first)
  pub ends : (item : Interval) × Contains items item × (item.last ≡ span.last)
  pub least : All (λ (item : Interval). span.first ≤ item.first) items
  pub greatest : All (λ (item : Interval). item.last ≤ span.last) items

-- Whether each item of a piece after the first overlaps or touches the span of those before it.
abbrev pub HoldsTogether : List Interval → Type 0
HoldsTogether piece = (before after : List Interval) (item span : Interval)
    → piece ≡ before ++ item ∷ after → IsSpan before span → Meet span item

-- Whether the first item of the next piece neither overlaps nor touches the span of the piece.
abbrev pub IsApart : List Interval → List Interval → Type 0
IsApart piece next = (item : Interval) (others : List Interval) (span : Interval)
    → next ≡ item ∷ others → IsSpan piece span → ¬ (Meet span item)

-- The items of all pieces, one piece after the other.
abbrev pub items_of : List (List Interval) → List Interval
items_of [] = []
items_of (piece ∷ pieces) = piece ++ items_of pieces

-- Whether the items can be split into pieces that hold together, each apart from the one before,
-- and `spans` are the spans of these.
pub record AreSpans (items spans : List Interval) : Type 0 where
  pub pieces : List (List Interval)
  pub whole : items_of pieces ≡ items
  pub together : All HoldsTogether pieces
  pub apart : (before after : List (List Interval)) (piece next : List Interval)
      → pieces ≡ before ++ piece ∷ next ∷ after → IsApart piece next
  pub spanned : AllZip IsSpan pieces spans

-- Whether the ranges that a stream gives to its end are the spans of those that an iterator gives
-- to its end, without the empty ones.
abbrev pub GivesSpans : {I S T : Type 0} → (T → ℕ) → (I → Option (RangeInclusive T) → I → Type 0)
    → I → (S → Option (RangeInclusive T) → S → Type 0) → S → Type 0
GivesSpans {T = T} rank input iter steps stream = (answers : List (RangeInclusive T))
    → Drains steps stream answers
    → (items : List (RangeInclusive T)) × Drains input iter items
    × AreSpans (non_empty (intervals_of rank items)) (intervals_of rank answers)

-- ---- one call

-- Whether a start is past the value after the end of another range, if there is such a value.
abbrev pub starts_past : {T : Type 0} → (T → T → Option Ordering) → Option T → T → Bool
starts_past partial_cmp None start = false
starts_past partial_cmp (Some next) start = partial_lt partial_cmp next start

-- Whether the items of a piece so far hold together, and `span` is their span.
pub record IsPiece (items : List Interval) (span : Interval) : Type 0 where
  pub spans : IsSpan items span
  pub together : HoldsTogether items

-- At most as many ranges are left as in the iterator, plus one if one is held.
abbrev pub unsorted_remaining : {T I : Type 0} → (I → Count) → UnsortedDisjoint T I → Count
unsorted_remaining remaining s =
    count_map (λ left. left + option_len s.gathered) (fuse_remaining remaining s.iter)

module _ {T : Type 0} (rank : T → ℕ) (n : ℕ) where
  -- Whether the range is non-empty and within the type.
  pub record IsProper (range : RangeInclusive T) : Type 0 where
    pub in_order : (interval_of rank range).first ≤ (interval_of rank range).last
    pub in_type : (interval_of rank range).last < n

  -- Whether the held range is the span of the piece so far. Before the first item, none is held.
  abbrev pub IsGathered : List Interval → Option (RangeInclusive T) → Type 0
  IsGathered items held = MatchOption held (items ≡ []) (λ range. IsPiece items (interval_of rank range))

  -- Whether the range begins a new piece, after one with the returned span.
  pub record BeginsAfter (answer : Option (RangeInclusive T)) (range : RangeInclusive T) : Type 0 where
    pub proper : IsProper range
    pub apart : IsSomeAnd answer (λ span. ¬ (Meet (interval_of rank span) (interval_of rank range)))

  -- Whether the iterator may be called and ends, or has ended, and a held range is proper.
  pub record UnsortedReady {I : Type 0} (can_next : I → Type 0) (remaining : I → Count)
      (s : UnsortedDisjoint T I) : Type 0 where
    pub callable : fuse_can_next can_next s.iter
    pub finite : IsFinite (fuse_remaining remaining s.iter)
    pub proper : IfSome s.gathered IsProper

  -- Whether a call returns the span of the piece that was begun before, extended by the items that
  -- the call draws. It draws up to an item that begins a new piece, which is then held, or to the
  -- end.
  pub record UnsortedSteps {I : Type 0} (steps : I → Option (RangeInclusive T) → I → Type 0)
      (s : UnsortedDisjoint T I) (answer : Option (RangeInclusive T)) (t : UnsortedDisjoint T I)
      : Type 0 where
    pub drawn : List (RangeInclusive T)
    pub between : Fuse I
    pub draws : Yields (fuse_steps steps) s.iter drawn between
    pub gathers : (items : List Interval) → IsGathered items s.gathered
        → IsGathered (items ++ non_empty (intervals_of rank drawn)) answer
    pub proper : IfSome answer IsProper
    pub stops : fuse_steps steps between t.gathered t.iter
    pub begins : IfSome t.gathered (BeginsAfter answer)

-- The iterator that joins the ranges of another.
abbrev pub unsorted_disjoint : {T N I : Type 0} → Elements T N → Iteration I (RangeInclusive T)
    → Iteration (UnsortedDisjoint T I) (RangeInclusive T)
unsorted_disjoint integer iterator = record {
  can_next = UnsortedReady integer.rank integer.value_count iterator.can_next iterator.remaining;
  next_gives = UnsortedSteps integer.rank integer.value_count iterator.next_gives;
  remaining = unsorted_remaining iterator.remaining;
}
