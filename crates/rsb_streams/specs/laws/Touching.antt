-- The laws of lists whose intervals may touch.
use Rattle.std.proofs.Common.{ℕ, ◌≤◌, List, arith}
use Rattle.std.specs.Iterator.{Count}
use Rattle.rsb_integer.specs.Runs.{Interval, IsCanonicalIn}
use Rattle.rsb_streams.specs.Stream.{HasSortedStarts, Keeps, Outcomes}
use Rattle.rsb_streams.specs.laws.Stream.{canonical-spaced, spaced-starts, spaced-weaker}
use Rattle.rsb_streams.specs.Touching.{IsTouchingFrom, IsTouchingIn}

-- A list whose intervals may touch, from `low`, is also one from any lower rank.
pub touching-lower : (low lower : ℕ) (runs : List Interval) → lower ≤ low → IsTouchingFrom low runs
    → IsTouchingFrom lower runs
touching-lower low lower runs = spaced-weaker 1 1 low lower runs (omega arith)

-- A canonical list is also a list whose intervals may touch, since none of them overlap.
pub touching-canonical_in : (n : ℕ) (runs : List Interval) → IsCanonicalIn n runs → IsTouchingIn n runs
touching-canonical_in n runs canonical = record {
  spaced = spaced-weaker 2 1 0 0 runs (omega arith) (omega arith)
      (canonical-spaced n runs canonical).spaced;
  within = canonical.within;
}

-- If a stream may give only such lists, they are sorted by start.
pub touching-starts : (n : ℕ) (P : Outcomes) (remaining : Count)
    → Keeps (IsTouchingIn n) P remaining
    → Keeps (HasSortedStarts n) P remaining
touching-starts = spaced-starts 1
