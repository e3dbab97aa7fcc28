-- What is left of an iterator over the blocks of a stream, and what one call of it returns.
use Rattle.std.specs.Int.{◌∣◌}
use Rattle.std.specs.Prelude.{◌≡◌, ℕ, ◌+◌, ◌-◌, ◌*◌, ◌^◌, ◌<◌, ◌≤◌, List, [], ◌∷◌, ◌++◌, map, Option, Some, None, IfSome, MatchOption}
use Rattle.std.specs.Iterator.{Count, IsFinite, size}
use Rattle.range_set_blaze.specs.Runs.{from_to, length_of, members, Interval, IsCanonicalIn}
use Rattle.range_set_blaze.specs.Stream.{◌⊆◌, Outcomes}
use Rattle.ip_sets.specs.Blocks.{AreMaximalBlocks, IsBlock}
use Rattle.ip_sets.specs.declared.blocks.Blocks.{Blocks}
use Rattle.ip_sets.specs.declared.blocks.block.Block.{Block}
use Rattle.ip_sets.specs.declared.blocks.span.Span.{Span}

-- ---- blocks and spans of values, as intervals of ranks

-- The ranks of a block of addresses with the given number of bits.
abbrev pub block_run : {T : Type 0} → (T → ℕ) → ℕ → Block T → Interval
block_run rank width block =
    from_to (rank block.first) (rank block.first + 2 ^ (width - block.length) - 1)

-- The ranks of each block of a list.
abbrev pub block_runs : {T : Type 0} → (T → ℕ) → ℕ → List (Block T) → List Interval
block_runs rank width blocks = map (block_run rank width) blocks

-- Whether a block of addresses with the given number of bits is aligned.
abbrev pub IsAligned : {T : Type 0} → (T → ℕ) → ℕ → Block T → Type 0
IsAligned rank width block = (block.length ≤ width) × IsBlock (block_run rank width block)

-- The ranks of a span.
abbrev pub span_run : {T : Type 0} → (T → ℕ) → Span T → Interval
span_run rank span = from_to (rank span.first) (rank span.last)

-- The ranks of a span, as a list, or the empty list if there is none.
abbrev pub span_list : {T : Type 0} → (T → ℕ) → Option (Span T) → List Interval
span_list rank None = []
span_list rank (Some span) = span_run rank span ∷ []

-- The number of ranks of a span, or 0 if there is none.
abbrev pub span_length : {T : Type 0} → (T → ℕ) → Option (Span T) → ℕ
span_length rank None = 0
span_length rank (Some span) = length_of (span_run rank span)

-- ---- the biggest block at the start of a span

-- Whether `2 ^ free` is the greatest power of 2 that divides the first rank of the run and is at
-- most the number of its ranks.
pub record IsBiggest (run : Interval) (free : ℕ) : Type 0 where
  pub aligned : 2 ^ free ∣ run.first
  pub fits : run.first + 2 ^ free ≤ run.last + 1
  pub biggest : (more : ℕ) → 2 ^ more ∣ run.first → run.first + 2 ^ more ≤ run.last + 1
      → more ≤ free

-- Whether `rest` is what is left of a run without its first `count` ranks.
abbrev pub IsRest : {T : Type 0} → (T → ℕ) → Interval → ℕ → Option (Span T) → Type 0
IsRest rank run count rest = MatchOption rest (run.first + count ≡ run.last + 1)
    (λ more. (rank more.first ≡ run.first + count) × (rank more.last ≡ run.last)
    × (rank more.first ≤ rank more.last))

-- Whether the block is the biggest at the start of the span, and `rest` is what is left of the
-- span.
pub record IsSplit {T : Type 0} (rank : T → ℕ) (width : ℕ) (span : Span T) (block : Block T)
    (rest : Option (Span T)) : Type 0 where
  pub prefix : block.length ≤ width
  pub starts : rank block.first ≡ rank span.first
  pub biggest : IsBiggest (span_run rank span) (width - block.length)
  pub left : IsRest rank (span_run rank span) (2 ^ (width - block.length)) rest

-- ---- what is left

module _ {T I : Type 0} (rank : T → ℕ) (may_give : I → Outcomes) where
  -- The lists of runs that are left: what is left of the range that was drawn last, and what the
  -- stream may still give.
  abbrev pub runs_left : Blocks T I → Outcomes
  runs_left s runs = (given : List Interval) × may_give s.ranges given
      × (runs ≡ span_list rank s.rest ++ given)

  -- The lists of blocks that may still come.
  abbrev pub blocks_may_give : Blocks T I → Outcomes
  blocks_may_give s blocks = (runs : List Interval) × runs_left s runs
      × AreMaximalBlocks (members runs) blocks

-- Whether each list that may be given has the maximal blocks of some list that a stream may give.
abbrev pub GivesBlocks : Outcomes → Outcomes → Type 0
GivesBlocks of given = (blocks : List Interval) → given blocks
    → (runs : List Interval) × of runs × AreMaximalBlocks (members runs) blocks

-- There are at most as many blocks left as ranks: those of the span, and for each range to come as
-- many as the type has values.
abbrev pub blocks_left : {T I : Type 0} → (T → ℕ) → ℕ → (I → Count) → Blocks T I → Count
blocks_left rank n left s = record {
  bounded = (left s.ranges).bounded;
  bound = size (left s.ranges) * n + span_length rank s.rest;
}

module _ {T I : Type 0} (rank : T → ℕ) (n : ℕ) (can_draw : I → Type 0)
    (may_give : I → Outcomes) where
  -- Whether the stream is ready, and the runs that are left are canonical.
  pub record BlocksReady (s : Blocks T I) : Type 0 where
    pub callable : can_draw s.ranges
    pub canonical : runs_left rank may_give s ⊆ IsCanonicalIn n

  module _ (left : I → Count) where
    -- Whether the span comes first of what is left, and the rest is left in the stream.
    pub record TakesSpan (s : Blocks T I) (span : Span T) (t : Blocks T I) : Type 0 where
      pub callable : can_draw t.ranges
      pub comes : (given : List Interval) → may_give t.ranges given
          → runs_left rank may_give s (span_run rank span ∷ given)
      pub in_order : rank span.first ≤ rank span.last
      pub in_type : rank span.last < n
      pub ends : IsFinite (left s.ranges) → IsFinite (left t.ranges)
          × (size (left t.ranges) * n + length_of (span_run rank span)
          ≤ size (left s.ranges) * n + span_length rank s.rest)

    -- Whether nothing is left.
    pub record TakesNone (s t : Blocks T I) : Type 0 where
      pub nothing : runs_left rank may_give s []
      pub ends : IsFinite (left s.ranges) → IsFinite (left t.ranges)

module _ {T I : Type 0} (rank : T → ℕ) (width : ℕ) (may_give : I → Outcomes) where
  -- Whether a call fits what may be given: it returns an aligned block that may come first, and
  -- leaves what may come after it. If it returns `None`, nothing may come.
  pub record GivesBlock (s : Blocks T I) (item : Option (Block T)) (t : Blocks T I) : Type 0 where
    pub aligned : IfSome item (IsAligned rank width)
    pub answers : MatchOption item (blocks_may_give rank may_give s [])
        (λ block. (blocks : List Interval) → blocks_may_give rank may_give t blocks
        → blocks_may_give rank may_give s (block_run rank width block ∷ blocks))
