-- What a loop over the ranges of a set gives: maximal runs of the set.
use Rattle.std.proofs.Common.{◌≡◌, ℕ, List, [], ◌∷◌, ◌∙◌, subst, sym}
use Rattle.std.proofs.lemmas.List.Elements.{All-contains}
use Rattle.std.specs.Iterator.{Yields, YieldsFirst}
use Rattle.std.specs.List.{Contains}
use Rattle.std.specs.declared.ops.RangeInclusive.{RangeInclusive}
use Rattle.rsb_integer.specs.Rank.{interval_of, intervals_of}
use Rattle.rsb_integer.specs.Runs.{members, AreRuns, Interval, IsMaximalRun}
use Rattle.rsb_integer.proofs.lemmas.List.{Contains-head, Contains-tail}

module _ {T : Type 0} (rank : T → ℕ) where
  -- The range that comes after some calls is one of the list.
  pub given-contained : (given ranges here next : List (RangeInclusive T)) (range : RangeInclusive T)
      → Yields (YieldsFirst (λ (left : List (RangeInclusive T)). left)) ranges given here
      → here ≡ range ∷ next → Contains (intervals_of rank ranges) (interval_of rank range)
  given-contained [] ranges here next range came is =
      subst (λ each. Contains (intervals_of rank each) (interval_of rank range)) (sym (came ∙ is))
      (Contains-head (interval_of rank range) (intervals_of rank next))
  given-contained (first ∷ given) ranges here next range came is =
      subst (λ each. Contains (intervals_of rank each) (interval_of rank range)) (sym came.1)
      (Contains-tail (interval_of rank first) (intervals_of rank came.0) (interval_of rank range)
      (given-contained given came.0 here next range came.2 is))

  -- So if the list has the runs of a set, that range is a maximal run of the set.
  pub given-run : (n : ℕ) (set : List Interval) (given ranges here next : List (RangeInclusive T))
      (range : RangeInclusive T) → intervals_of rank ranges ≡ set → AreRuns n (members set) set
      → Yields (YieldsFirst (λ (left : List (RangeInclusive T)). left)) ranges given here
      → here ≡ range ∷ next → IsMaximalRun n (members set) (interval_of rank range)
  given-run n set given ranges here next range is runs came first =
      All-contains (IsMaximalRun n (members set)) set (interval_of rank range) runs.maximal
      (subst (λ each. Contains each (interval_of rank range)) is
      (given-contained given ranges here next range came first))
