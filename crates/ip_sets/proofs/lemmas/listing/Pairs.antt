-- Ranges that are given as pairs of their ends.
use Rattle.std.proofs.Common.{◌≡◌, ◌∙◌, ℕ, ◌≤◌, List, [], ◌∷◌, ◌++◌, refl, ap, sym}
use Rattle.std.proofs.lemmas.List.{map-append}
use Rattle.std.specs.Range.{range_inclusive_start, range_inclusive_end}
use Rattle.std.specs.declared.ops.RangeInclusive.{RangeInclusive}
use Rattle.range_set_blaze.specs.Rank.{interval_of, intervals_of, ranges_of}
use Rattle.range_set_blaze.specs.Runs.{Interval}
use Rattle.range_set_blaze.proofs.RangeLemmas.{interval_of-some}
use Rattle.ip_sets.specs.Pairs.{span_of, spans_of}

-- The ranges have the ranks of the pairs.
pub spans-of-ranges : {T : Type 0} (rank : T → ℕ) (pairs : List (T × T))
    → intervals_of rank (ranges_of pairs) ≡ spans_of rank pairs
spans-of-ranges rank [] = refl
spans-of-ranges rank (pair ∷ pairs) =
    ap (λ others. span_of rank pair ∷ others) (spans-of-ranges rank pairs)

-- The pair of the ends of a range that has ranks has the ranks of the range.
pub spans-taken : {T : Type 0} (rank : T → ℕ) (pairs new : List (T × T)) (pair : T × T)
    (range : RangeInclusive T) → new ≡ pairs ++ pair ∷ []
    → pair.0 ≡ range_inclusive_start range → pair.1 ≡ range_inclusive_end range
    → (interval_of rank range).first ≤ (interval_of rank range).last
    → spans_of rank new ≡ spans_of rank pairs ++ interval_of rank range ∷ []
spans-taken {T} rank pairs new pair range is starts ends ordered =
    let same : span_of rank pair ≡ interval_of rank range =
    (λ i. record { first = rank (starts i); last = rank (ends i) })
    ∙ sym (interval_of-some rank range ordered) in
    ap (spans_of rank) is ∙ map-append (span_of rank) pairs (pair ∷ [])
    ∙ ap (λ (last : Interval). spans_of rank pairs ++ last ∷ []) same
