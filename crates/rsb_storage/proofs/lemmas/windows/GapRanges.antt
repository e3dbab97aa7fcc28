-- The gaps that are left, as ranges.
use Rattle.std.proofs.Common.{◌≡◌, ℕ, false, ◌+◌, ◌<◌, ◌≤◌, List, [], ◌∷◌, ◌++◌, refl, sym, ap, ◌∙◌, Option, Some, None, arith, subst}
use Rattle.std.proofs.lemmas.List.{map-append}
use Rattle.std.proofs.lemmas.List.Elements.{All-head, All-nil, All-tail}
use Rattle.std.specs.Range.{range_inclusive_end, range_inclusive_exhausted, range_inclusive_start}
use Rattle.std.specs.declared.ops.RangeInclusive.{RangeInclusive}
use Rattle.rsb_integer.specs.Rank.{intervals_of}
use Rattle.rsb_integer.specs.Runs.{Interval, AllEndBelow, IsCanonicalFrom, IsCanonicalIn}
use Rattle.rsb_integer.specs.Selection.{Selection}
use Rattle.rsb_storage.specs.GapsIn.{gaps_left, range_at, ranges_at, AreGapsLeft}
use Rattle.rsb_storage.specs.Storage.{entry_of, entry_run, run_of, runs_of}
use Rattle.rsb_storage.specs.Set.{IsSetOf}
use Rattle.rsb_storage.specs.declared.run.Run.{Run}
use Rattle.rsb_storage.proofs.lemmas.windows.Gaps.{gaps-canonical, last-apart}
use Rattle.rsb_integer.proofs.lemmas.Canonical.{canonical-none}

-- If the last entry is that of the run, the runs of the entries end with this run.
pub last-runs : {T : Type 0} (rank : T → ℕ) {entries : List (T × T)} (front : List (T × T))
    (run : Run T) → entries ≡ front ++ entry_of run ∷ []
    → runs_of rank entries ≡ runs_of rank front ++ run_of rank run ∷ []
last-runs rank front run parts =
    ap (runs_of rank) parts ∙ map-append (entry_run rank) front (entry_of run ∷ [])

module _ {T : Type 0} (rank : T → ℕ) (n : ℕ) (value_at : ℕ → T) where
  -- The ranges of canonical intervals have these intervals.
  intervals_of-ranges : ((place : ℕ) → place < n → rank (value_at place) ≡ place) → (low : ℕ)
      (runs : List Interval) → IsCanonicalFrom low runs → AllEndBelow n runs
      → intervals_of rank (ranges_at value_at runs) ≡ runs
  intervals_of-ranges ranks low [] canonical ends = refl
  intervals_of-ranges ranks low (run ∷ runs) canonical ends =
      let order = canonical.in_order in
      let last = All-head (λ (each : Interval). each.last < n) run runs ends in
      let first : run.first < n = omega (arith, order, last) in λ i.
      (record { first = ranks run.first first i; last = ranks run.last last i })
      ∷ intervals_of-ranges ranks (run.last + 2) runs canonical.rest
      (All-tail (λ (each : Interval). each.last < n) run runs ends) i

  pub intervals_of-ranges_at : ((place : ℕ) → place < n → rank (value_at place) ≡ place)
      → (runs : List Interval) → IsCanonicalIn n runs
      → intervals_of rank (ranges_at value_at runs) ≡ runs
  intervals_of-ranges_at ranks runs canonical =
      intervals_of-ranges ranks 0 runs canonical.apart canonical.within

  -- So if the intervals are canonical, the ranges are.
  pub ranges-canonical : ((place : ℕ) → place < n → rank (value_at place) ≡ place)
      → (runs : List Interval) → IsCanonicalIn n runs
      → IsCanonicalIn n (intervals_of rank (ranges_at value_at runs))
  ranges-canonical ranks runs canonical =
      rw (intervals_of-ranges_at ranks runs canonical) canonical

  -- The ranges have the members of the intervals.
  pub ranges-members : ((place : ℕ) → place < n → rank (value_at place) ≡ place)
      → (runs : List Interval) (selected : Selection) → IsCanonicalIn n runs
      → IsSetOf runs selected → IsSetOf (intervals_of rank (ranges_at value_at runs)) selected
  ranges-members ranks runs selected canonical is point =
      rw (intervals_of-ranges_at ranks runs canonical) (is point)

  -- The gaps that are left are canonical.
  pub left-canonical : (rest : Option (Run T)) (entries : List (T × T))
      → AreGapsLeft rank n rest entries → IsCanonicalIn n (gaps_left rank rest entries)
  left-canonical None entries left = canonical-none n
  left-canonical (Some run) entries left =
      gaps-canonical n (rank run.start) (rank run.end) (runs_of rank entries) left

  module _ (at_rank : (x : T) → rank x < n → value_at (rank x) ≡ x) where
    -- The range of a gap goes from the start of the gap to its end.
    range_at-is : (gap : Run T) (item : RangeInclusive T) → rank gap.start ≤ rank gap.end
        → rank gap.end < n → range_inclusive_start item ≡ gap.start
        → range_inclusive_end item ≡ gap.end → range_inclusive_exhausted item ≡ false
        → range_at value_at (run_of rank gap) ≡ item
    range_at-is gap item order known starts ends more =
        let first = at_rank gap.start (omega (arith, order, known)) ∙ sym starts in
        let last = at_rank gap.end known ∙ sym ends in λ i.
        record { start = first i; end = last i; exhausted = sym more i }

    -- If a gap is the first of those that are left, its range is the first of their ranges.
    pub gap-first : {gaps : List Interval} (others : List Interval) (gap : Run T)
        (item : RangeInclusive T) → IsCanonicalIn n gaps → range_inclusive_start item ≡ gap.start
        → range_inclusive_end item ≡ gap.end → range_inclusive_exhausted item ≡ false
        → gaps ≡ run_of rank gap ∷ others
        → ranges_at value_at gaps ≡ item ∷ ranges_at value_at others
    gap-first others gap item canonical starts ends more parts =
        let left = subst (IsCanonicalIn n) parts canonical in
        let known = All-head (λ (each : Interval). each.last < n) (run_of rank gap) others left.within in
        ap (ranges_at value_at) parts
        ∙ ap (λ (range : RangeInclusive T). range ∷ ranges_at value_at others)
        (range_at-is gap item left.apart.in_order known starts ends more)

    -- If a gap is the last of those that are left, its range is the last of their ranges.
    pub gap-last : {gaps : List Interval} (others : List Interval) (gap : Run T)
        (item : RangeInclusive T) → IsCanonicalIn n gaps → range_inclusive_start item ≡ gap.start
        → range_inclusive_end item ≡ gap.end → range_inclusive_exhausted item ≡ false
        → gaps ≡ others ++ run_of rank gap ∷ []
        → ranges_at value_at gaps ≡ ranges_at value_at others ++ item ∷ []
    gap-last others gap item canonical starts ends more parts =
        let left = subst (IsCanonicalIn n) parts canonical in
        let last = last-apart 0 n others (run_of rank gap) left.apart left.within in
        ap (ranges_at value_at) parts
        ∙ map-append (range_at value_at) others (run_of rank gap ∷ [])
        ∙ ap (λ (range : RangeInclusive T). ranges_at value_at others ++ range ∷ [])
        (range_at-is gap item last.in_order last.ends starts ends more)
