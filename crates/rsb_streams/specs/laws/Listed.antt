-- The laws of streams whose state shows the list of the ranges to come.
use Rattle.std.proofs.Common.{ℕ, List, ◌∷◌, refl, sym, ap, ◌∙◌}
use Rattle.std.specs.Prelude.{Option, Some, None}
use Rattle.std.specs.Iterator.{YieldsFirst, item_count}
use Rattle.std.specs.declared.ops.RangeInclusive.{RangeInclusive}
use Rattle.rsb_integer.specs.Rank.{interval_of, intervals_of}
use Rattle.rsb_integer.specs.Runs.{IsCanonicalIn}
use Rattle.rsb_streams.specs.Listed.{listed_may_give}
use Rattle.rsb_streams.specs.Stream.{Answers, Keeps}

module _ {S T : Type 0} (rank : T → ℕ) (left : S → List (RangeInclusive T)) where
  -- A call fits what may be given: it returns the first range of the list, and leaves the others.
  pub listed-answers : (s t : S) (item : Option (RangeInclusive T)) → YieldsFirst left s item t
      → Answers rank (listed_may_give rank left) s item t
  listed-answers s t None call = ap (intervals_of rank) (sym call.0)
  listed-answers s t (Some range) call = λ rest at.
      ap (λ runs. interval_of rank range ∷ runs) at ∙ ap (intervals_of rank) (sym call)

  -- If the list that is left is canonical, so is all that may be given, and the stream ends.
  pub listed-keeps : (n : ℕ) (s : S) → IsCanonicalIn n (intervals_of rank (left s))
      → Keeps (IsCanonicalIn n) (listed_may_give rank left s) (item_count left s)
  listed-keeps n s canonical = record {
    some = λ never. never (intervals_of rank (left s)) refl;
    all = λ runs at. rw at canonical;
    ends = tt;
  }
