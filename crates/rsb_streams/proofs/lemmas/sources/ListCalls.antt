-- Streams whose state shows the list of the ranges to come, and calls of them.
use Rattle.std.proofs.Common.{◌≡◌, ℕ, List, ◌∷◌, ◌++◌, None, Option, Some, arith, subst}
use Rattle.std.specs.Iterator.{MakesProgress, item_count}
use Rattle.std.specs.Option.{option_to_list}
use Rattle.std.specs.declared.ops.RangeInclusive.{RangeInclusive}
use Rattle.rsb_integer.specs.Rank.{interval_of, intervals_of}
use Rattle.rsb_integer.specs.Runs.{IsCanonicalIn}
use Rattle.rsb_integer.proofs.lemmas.Canonical.{canonical-tail}

module _ {T : Type 0} (rank : T → ℕ) where
  -- A call that takes the first of some canonical ranges makes progress.
  pub canonical-goes : (n : ℕ) (before after : List (RangeInclusive T))
      (first item : RangeInclusive T)
      → before ≡ first ∷ after → IsCanonicalIn n (intervals_of rank before)
      → MakesProgress (λ ranges. IsCanonicalIn n (intervals_of rank ranges))
      (item_count (λ (ranges : List (RangeInclusive T)). ranges)) before (Some item) after
  canonical-goes n before after first item is canonical =
      let rest = canonical-tail n (interval_of rank first) (intervals_of rank after)
      (subst (λ ranges. IsCanonicalIn n (intervals_of rank ranges)) is canonical) in
      record {
        on = λ finite. (rest, tt, rw is (omega arith));
        keeps = rest;
        rests = λ finite. tt;
      }

  -- So does a call that takes the first range, or returns `None` if there is none.
  pub canonical-goes_by : (n : ℕ) (before after : List (RangeInclusive T))
      (item : Option (RangeInclusive T)) → before ≡ option_to_list item ++ after
      → IsCanonicalIn n (intervals_of rank before)
      → MakesProgress (λ ranges. IsCanonicalIn n (intervals_of rank ranges))
      (item_count (λ (ranges : List (RangeInclusive T)). ranges)) before item after
  canonical-goes_by n before after None is canonical = record {
    on = λ finite. tt;
    keeps = tt;
    rests = λ finite. tt;
  }
  canonical-goes_by n before after (Some range) is canonical =
      canonical-goes n before after range range is canonical
