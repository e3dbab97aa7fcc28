-- Blocks of addresses, and which list of blocks is the shortest for a set.
use Rattle.std.specs.Int.{◌∣◌}
use Rattle.std.specs.Prelude.{◌≡◌, ℕ, ◌+◌, ◌^◌, ◌≤◌, List, [], ◌∷◌, length, All, IsTrue}
use Rattle.range_set_blaze.specs.Runs.{Interval, covers, members}
use Rattle.range_set_blaze.specs.Selection.{Selection}

-- Whether the interval is a block: it has `2 ^ free` ranks, and its first rank is a multiple of
-- that number. In binary, these are all ranks that differ from the first only in the `free` lowest
-- digits, which are 0 in the first.
pub record IsBlock (block : Interval) : Type 0 where
  pub free : ℕ
  pub size : block.last + 1 ≡ block.first + 2 ^ free
  pub aligned : 2 ^ free ∣ block.first

-- Whether the first interval starts at `low` or later, and each other one past the end of the one
-- before. They may touch, but do not overlap.
abbrev pub AscendsFrom : ℕ → List Interval → Type 0
AscendsFrom low [] = Unit {0}
AscendsFrom low (block ∷ blocks) =
    (low ≤ block.first) × (block.first ≤ block.last) × AscendsFrom (block.last + 1) blocks

-- Whether the intervals are non-empty, ascend, and do not overlap.
abbrev pub Ascends : List Interval → Type 0
Ascends blocks = AscendsFrom 0 blocks

-- Whether all ranks of the interval are selected.
abbrev pub IsInside : Selection → Interval → Type 0
IsInside selected run = (rank : ℕ) → IsTrue (covers run rank) → IsTrue (selected rank)

module _ (selected : Selection) where
  -- Whether the list consists of blocks, and has exactly the selected ranks. The blocks may overlap
  -- and be in any order.
  pub record AreBlocks (blocks : List Interval) : Type 0 where
    pub each : All IsBlock blocks
    pub exact : (rank : ℕ) → members blocks rank ≡ selected rank

  -- Whether no list of blocks with exactly the selected ranks is shorter.
  abbrev pub AreFewest : List Interval → Type 0
  AreFewest blocks = (others : List Interval) → AreBlocks others → length blocks ≤ length others

  -- Whether the interval is a block of selected ranks, and contains every such block with which it
  -- has a rank in common.
  pub record IsMaximalBlock (block : Interval) : Type 0 where
    pub is_block : IsBlock block
    pub inside : IsInside selected block
    pub maximal : (other : Interval) (rank : ℕ) → IsBlock other → IsInside selected other
        → IsTrue (covers other rank) → IsTrue (covers block rank)
        → (block.first ≤ other.first) × (other.last ≤ block.last)

  -- Whether the list has exactly the selected ranks, in maximal blocks that ascend.
  pub record AreMaximalBlocks (blocks : List Interval) : Type 0 where
    pub ascending : Ascends blocks
    pub maximal : All IsMaximalBlock blocks
    pub exact : (rank : ℕ) → members blocks rank ≡ selected rank
