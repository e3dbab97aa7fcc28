-- The ranges of a set, one after the other.
use Rattle.std.proofs.Common.{◌≡◌, ℕ, List, [], ◌∷◌, ◌++◌, ◌∙◌, Some, ap, sym, arith, length, length-append, subst}
use Rattle.std.proofs.lemmas.Simd.{map-map}
use Rattle.std.proofs.lemmas.List.{map-append}
use Rattle.std.specs.Iterator.{MakesProgress, item_count}
use Rattle.std.specs.declared.ops.RangeInclusive.{RangeInclusive}
use Rattle.rsb_integer.specs.Rank.{interval_of, intervals_of, range_of, ranges_of}
use Rattle.rsb_integer.specs.Runs.{IsCanonicalIn}
use Rattle.rsb_integer.proofs.lemmas.Canonical.{canonical-front}
use Rattle.rsb_streams.proofs.lemmas.sources.ListCalls.{canonical-goes}
use Rattle.rsb_storage.specs.Storage.{runs_of}

-- The ranges of runs have the intervals of the runs.
pub intervals_of-ranges : {T : Type 0} (rank : T → ℕ) (runs : List (T × T))
    → intervals_of rank (ranges_of runs) ≡ runs_of rank runs
intervals_of-ranges rank = map-map (interval_of rank) range_of

module _ {T : Type 0} (rank : T → ℕ) (n : ℕ) where
  -- Whether a call that takes a range makes progress: canonical ranges are left.
  abbrev Goes : List (RangeInclusive T) → RangeInclusive T → List (RangeInclusive T) → Type 0
  Goes ranges item rest = MakesProgress (λ each. IsCanonicalIn n (intervals_of rank each))
      (item_count (λ (each : List (RangeInclusive T)). each)) ranges (Some item) rest

  -- A call that takes the first range makes progress.
  pub goes-first : {ranges : List (RangeInclusive T)} {entries others : List (T × T)}
      {entry : T × T} {item : RangeInclusive T} → ranges_of entries ≡ ranges
      → IsCanonicalIn n (intervals_of rank ranges) → entries ≡ entry ∷ others
      → Goes ranges item (ranges_of others)
  goes-first are canonical is =
      canonical-goes rank n _ _ _ _ (sym are ∙ ap ranges_of is) canonical

  -- A call that takes the last range makes progress.
  pub goes-last : {ranges : List (RangeInclusive T)} {entries : List (T × T)}
      {item : RangeInclusive T} (others : List (T × T)) (entry : T × T) → ranges_of entries ≡ ranges
      → IsCanonicalIn n (intervals_of rank ranges) → entries ≡ others ++ entry ∷ []
      → Goes ranges item (ranges_of others)
  goes-last others entry are canonical is =
      let parts = sym are ∙ ap ranges_of is ∙ map-append range_of others (entry ∷ []) in
      let rest = canonical-front n (intervals_of rank (ranges_of others)) _
      (subst (IsCanonicalIn n) (ap (intervals_of rank) parts
      ∙ map-append (interval_of rank) (ranges_of others) (range_of entry ∷ [])) canonical) in
      let count = ap length parts ∙ length-append (ranges_of others) (range_of entry ∷ []) in
      record { on = λ finite. (rest, tt, omega (arith, count)); keeps = rest; rests = λ finite. tt }
