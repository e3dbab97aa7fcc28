-- The next run, as the code reads it.
use Rattle.std.proofs.Common.{◌≡◌, ℕ, false, suc, ◌+◌, ◌-◌, ◌*◌, ◌≤◌, List, [], ◌∷◌, ◌++◌, Option, Some, refl, sym, ap, subst, ◌∙◌, arith, add-one}
use Rattle.std.specs.declared.ops.RangeInclusive.{RangeInclusive}
use Rattle.std.proofs.lemmas.List.{map-append}
use Rattle.rsb_integer.specs.Rank.{interval_of, intervals_of}
use Rattle.rsb_integer.specs.Runs.{Interval, from_to}
use Rattle.range_set_bytes.specs.Leb128.{leb128}
use Rattle.range_set_bytes.specs.Reading.{from_of, least_gap, ExpectsNumber, ExpectsRuns, IsExpected}
use Rattle.range_set_bytes.proofs.lemmas.Expecting.{expects-gap, expects-length, expects-others}

-- The ranks of a range that was made from its ends.
pub made-interval : {T : Type 0} (rank : T → ℕ) (range : RangeInclusive T) (start end : T) (first last : ℕ)
    → range.exhausted ≡ false → range.start ≡ start → range.end ≡ end → rank start ≡ first
    → rank end ≡ last → interval_of rank range ≡ from_to first last
made-interval rank range start end first last fresh start_is end_is first_is last_is =
    rw (fresh, start_is, end_is, first_is, last_is) refl

-- The ranges of one more run.
pub pushed-range : {T : Type 0} (rank : T → ℕ) (items others : List (RangeInclusive T))
    (range : RangeInclusive T) (first last : ℕ) → others ≡ items ++ (range ∷ [])
    → interval_of rank range ≡ from_to first last
    → intervals_of rank others ≡ intervals_of rank items ++ (from_to first last ∷ [])
pushed-range rank items others range first last is same =
    ap (intervals_of rank) is ∙ map-append (interval_of rank) items (range ∷ [])
    ∙ ap (λ (run : Interval). intervals_of rank items ++ (run ∷ [])) same

module _ (n : ℕ) (bytes rest : List ℕ) (previous : Option ℕ) (after greatest from : ℕ)
    (n_is : greatest + 1 ≡ n) (from_is : from ≡ from_of previous) where
  as-suc : (runs : List Interval) → ExpectsRuns n bytes rest runs previous (after + 1)
      → ExpectsRuns n bytes rest runs previous (suc after)
  as-suc runs expected = subst (ExpectsRuns n bytes rest runs previous) (add-one after) expected

  module _ (least : ℕ) (least_is : least ≡ least_gap previous) where
    pub gap-expected : IsExpected n bytes rest previous (after + 1)
        → ExpectsNumber n bytes rest least (greatest - 2 * after - from)
    gap-expected expected =
        let most : n - 1 - 2 * after - from_of previous ≡ greatest - 2 * after - from = omega arith in
        subst (λ (k : ℕ). ExpectsNumber n bytes rest k (greatest - 2 * after - from)) (sym least_is)
        (subst (ExpectsNumber n bytes rest (least_gap previous)) most
        (expects-gap n bytes rest expected.0 previous after (as-suc expected.0 expected.1)))

    module _ (gap : ℕ) (middle : List ℕ) (low : least ≤ gap) (high : gap ≤ greatest - 2 * after - from)
        (gap_is : rest ≡ leb128 gap ++ middle) where
      pub length-expected : IsExpected n bytes rest previous (after + 1)
          → ExpectsNumber n bytes middle 0 (greatest - 2 * after - (from + gap))
      length-expected expected =
          let most : n - 1 - 2 * after - (from_of previous + gap) ≡ greatest - 2 * after - (from + gap)
          = omega arith in
          subst (ExpectsNumber n bytes middle 0) most
          (expects-length n bytes rest expected.0 previous after (as-suc expected.0 expected.1) gap middle
          (omega arith) (omega arith) gap_is)

      pub others-expected : (runs : List Interval) → ExpectsRuns n bytes rest runs previous (after + 1)
          → (number : ℕ) (others : List ℕ) → number ≤ greatest - 2 * after - (from + gap)
          → middle ≡ leb128 number ++ others
          → ExpectsRuns n bytes others (runs ++ (from_to (from + gap) (from + gap + number) ∷ []))
          (Some (from + gap + number)) after
      others-expected runs expected number others most number_is =
          let first : from_of previous + gap ≡ from + gap = omega arith in
          subst (λ (k : ℕ). ExpectsRuns n bytes others (runs ++ (from_to k (k + number) ∷ [])) (Some (k + number)) after)
          first (expects-others n bytes rest runs previous after (as-suc runs expected) gap middle
          (omega arith) (omega arith) gap_is number others (omega arith) number_is)
