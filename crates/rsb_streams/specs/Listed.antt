-- Streams whose state shows the list of the ranges to come.
use Rattle.std.specs.Prelude.{ℕ, List}
use Rattle.std.specs.declared.ops.RangeInclusive.{RangeInclusive}
use Rattle.rsb_integer.specs.Rank.{intervals_of}
use Rattle.rsb_streams.specs.Stream.{Outcomes, just}

-- Only the list that is left.
abbrev pub listed_may_give : {S T : Type 0} → (T → ℕ) → (S → List (RangeInclusive T)) → S → Outcomes
listed_may_give rank left s = just (intervals_of rank (left s))
