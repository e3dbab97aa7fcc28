-- The law of a merge of any number of streams: its ranges come in the order of their starts.
use Rattle.std.proofs.Common.{ℕ, zero, suc, ◌<◌, [], refl, arith}
use Rattle.std.specs.Iterator.{at_most}
use Rattle.rsb_streams.specs.laws.Merge.{merge-starts, merges-keeps}
use Rattle.rsb_streams.specs.Stream.{◌⊆◌, merges, HasOutcome, HasSortedStarts, HasSortedStartsFrom, Outcomes}
use Rattle.rsb_streams.specs.laws.Stream.{settled_sorted}
use Rattle.rsb_many.specs.Many.{merges_all}

-- If the ranges of two streams come in the order of their starts, none before `low`, so do those of
-- their merge.
pub merges-starts : (n low : ℕ) (P Q : Outcomes) → P ⊆ HasSortedStartsFrom n low
    → Q ⊆ HasSortedStartsFrom n low → merges n P Q ⊆ HasSortedStartsFrom n low
merges-starts n low P Q first second runs may = settled_sorted n low runs (λ fails.
    may (λ left right at also all. fails
    (merge-starts n low left right runs (first left at) (second right also) all.0 all.1)))

-- If the ranges of many streams come in the order of their starts, none before `low`, so do those
-- of their merge.
pub merges_all-starts : (n low count : ℕ) (may_give : ℕ → Outcomes)
    → ((place : ℕ) → place < count → may_give place ⊆ HasSortedStartsFrom n low)
    → merges_all n count may_give ⊆ HasSortedStartsFrom n low
merges_all-starts n low zero may_give each runs may = rw may tt
merges_all-starts n low (suc count) may_give each runs may = merges-starts n low (may_give zero)
    (merges_all n count (λ place. may_give (suc place))) (each zero (omega arith))
    (merges_all-starts n low count (λ place. may_give (suc place))
    (λ place less. each (suc place) (omega (arith, less)))) runs may

-- If some list may come from each of many streams, and its ranges come in the order of their
-- starts, then some list may come from the merge of the streams.
pub merges_all-some : (n count : ℕ) (may_give : ℕ → Outcomes)
    → ((place : ℕ) → place < count → HasOutcome (may_give place))
    → ((place : ℕ) → place < count → may_give place ⊆ HasSortedStarts n)
    → HasOutcome (merges_all n count may_give)
merges_all-some n zero may_give some sorted = λ never. never [] refl
merges_all-some n (suc count) may_give some sorted =
    let laters = λ (place : ℕ). may_give (suc place) in
    let both = merges-keeps n (may_give zero) (merges_all n count laters) (at_most 0) (at_most 0)
    (record { some = some zero (omega arith); all = sorted zero (omega arith); ends = tt })
    (record {
      some = merges_all-some n count laters
          (λ place less. some (suc place) (omega (arith, less)))
          (λ place less. sorted (suc place) (omega (arith, less)));
      all = merges_all-starts n 0 count laters
          (λ place less. sorted (suc place) (omega (arith, less)));
      ends = tt;
    }) in
    both.some
