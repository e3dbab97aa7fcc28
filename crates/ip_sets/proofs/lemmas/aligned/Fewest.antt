-- A list of maximal blocks is the shortest list of blocks: each other list has a block that starts
-- in each of them.
use Rattle.std.proofs.Common.{◌≡◌, ℕ, cond, ◌+◌, ◌<◌, ◌≤◌, nat_le, List, [], ◌∷◌, get_or, length, sym, ap, ◌∙◌, subst, inl, inr, arith}
use Rattle.std.proofs.lemmas.Bool.Decides.{nat_tests}
use Rattle.std.proofs.lemmas.List.Elements.{All-contains, All-head, All-tail}
use Rattle.std.specs.List.{All, Contains}
use Rattle.rsb_integer.proofs.lemmas.List.{Contains-cases}
use Rattle.range_set_blaze.specs.Runs.{members, Interval}
use Rattle.range_set_blaze.specs.Selection.{Selection}
use Rattle.range_set_blaze.proofs.MembersLemmas.{covers-inside, members-from, members-in}
use Rattle.ip_sets.specs.Blocks.{AreBlocks, AreFewest, AreMaximalBlocks, AscendsFrom, IsBlock, IsInside, IsMaximalBlock}
use Rattle.ip_sets.proofs.lemmas.aligned.Meeting.{block-ordered}

-- ---- how many intervals of a list start at a rank or later

-- How many intervals of the list start at `low` or later.
abbrev starts_from : ℕ → List Interval → ℕ
starts_from low [] = 0
starts_from low (run ∷ runs) = cond (nat_le low run.first) 1 0 + starts_from low runs

-- A test counts at most once.
test-most : (low first : ℕ) → cond (nat_le low first) 1 0 ≤ 1
test-most low first = grind (arith, nat_tests)

-- What starts at a higher rank or later also starts at a lower one or later.
test-lower : (low high first : ℕ) → low ≤ high
    → cond (nat_le high first) 1 0 ≤ cond (nat_le low first) 1 0
test-lower low high first less = grind (arith, nat_tests)

-- What starts between the two ranks counts only for the lower one.
test-between : (low high first : ℕ) → low ≤ first → first < high
    → cond (nat_le high first) 1 0 + 1 ≤ cond (nat_le low first) 1 0
test-between low high first from before = grind (arith, nat_tests)

-- There are at most as many as the list has intervals.
pub starts-length : (low : ℕ) (runs : List Interval) → starts_from low runs ≤ length runs
starts-length low [] = omega arith
starts-length low (run ∷ runs) =
    let first = test-most low run.first in
    let rest = starts-length low runs in
    omega (arith, first, rest)

-- From a higher rank, there are at most as many.
starts-lower : (low high : ℕ) (runs : List Interval) → low ≤ high
    → starts_from high runs ≤ starts_from low runs
starts-lower low high [] less = omega arith
starts-lower low high (run ∷ runs) less =
    let first = test-lower low high run.first less in
    let rest = starts-lower low high runs less in
    omega (arith, first, rest)

-- If an interval starts between the two ranks, there are fewer.
starts-fewer : (low high : ℕ) (runs : List Interval) (run : Interval) → Contains runs run
    → low ≤ high → low ≤ run.first → run.first < high
    → starts_from high runs + 1 ≤ starts_from low runs
starts-fewer low high [] run found less from before = let below = found.1 in absurd (omega arith)
starts-fewer low high (other ∷ runs) run found less from before =
    elim (Contains-cases other runs run found) [
      | inl same ↦
          let start = ap (λ (each : Interval). each.first) same in
          let first = test-between low high other.first (omega (arith, start, from))
          (omega (arith, start, before)) in
          let rest = starts-lower low high runs less in
          omega (arith, first, rest)
      | inr later ↦
          let first = test-lower low high other.first less in
          let rest = starts-fewer low high runs run later less from before in
          omega (arith, first, rest)
    ]

-- ---- each block of the shortest list has a start of each other list

-- Whether one of the others starts in the block.
abbrev pub HasStart : List Interval → Interval → Type 0
HasStart others block = (other : Interval) × Contains others other
    × (block.first ≤ other.first) × (other.first ≤ block.last)

-- If one of the others starts in each of the blocks, there are at least as many of them.
pub length-starts : (low : ℕ) (blocks others : List Interval) → AscendsFrom low blocks
    → All (HasStart others) blocks → length blocks ≤ starts_from low others
length-starts low [] others ascending starts = omega arith
length-starts low (block ∷ blocks) others ascending starts =
    let first = All-head (HasStart others) block blocks starts in
    let rest = length-starts (block.last + 1) blocks others ascending.2
    (All-tail (HasStart others) block blocks starts) in
    let low_first = ascending.0 in
    let ordered = ascending.1 in
    let fewer = starts-fewer low (block.last + 1) others first.0 first.1
    (omega (arith, low_first, ordered)) (omega (arith, low_first, first.2))
    (omega (arith, first.3)) in
    omega (arith, rest, fewer)

-- Each other list of blocks with the same ranks has a block that starts in a maximal block: the one
-- that contains its first rank.
has-start : (selected : Selection) (others : List Interval) (block : Interval)
    → AreBlocks selected others → IsMaximalBlock selected block → HasStart others block
has-start selected others block all is =
    let ordered = block-ordered block is.is_block in
    let here = covers-inside block block.first (omega arith) ordered in
    let found = members-in others block.first (all.exact block.first ∙ is.inside block.first here) in
    let other_is = All-contains IsBlock others found.0 all.each found.1 in
    let inside : IsInside selected found.0 = λ rank at.
    sym (all.exact rank) ∙ members-from others found.0 rank found.1 at in
    let within = is.maximal found.0 block.first other_is inside found.2 here in
    let other_ordered = block-ordered found.0 other_is in
    (found.0, found.1, within.0, omega (arith, other_ordered, within.1))

-- So no other list of blocks is shorter.
pub maximal-fewest : (selected : Selection) (blocks : List Interval)
    → AreMaximalBlocks selected blocks → AreFewest selected blocks
maximal-fewest selected blocks are others all =
    let starts : All (HasStart others) blocks = λ place default within.
    has-start selected others (get_or blocks place default) all
    (are.maximal place default within) in
    let most = length-starts 0 blocks others are.ascending starts in
    let count = starts-length 0 others in
    omega (arith, most, count)

-- Maximal blocks are blocks.
pub maximal-blocks : (selected : Selection) (blocks : List Interval)
    → AreMaximalBlocks selected blocks → AreBlocks selected blocks
maximal-blocks selected blocks are = record {
  each = λ place default within. (are.maximal place default within).is_block;
  exact = are.exact;
}

-- The maximal blocks of the runs of a set are those of the set.
pub maximal-same : (runs set blocks : List Interval) → runs ≡ set
    → AreMaximalBlocks (members runs) blocks → AreMaximalBlocks (members set) blocks
maximal-same runs set blocks same are = subst (λ each. AreMaximalBlocks (members each) blocks) same are
