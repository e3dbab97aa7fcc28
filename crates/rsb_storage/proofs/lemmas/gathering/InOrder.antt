-- Ranges that are taken from a list in turn, and tested whether they are the runs of a set.
use Rattle.std.proofs.Common.{◌≡◌, ℕ, ◌+◌, ◌<◌, ◌≤◌, List, [], ◌∷◌, map, arith, refl, subst, sym}
use Rattle.std.proofs.lemmas.List.Elements.{All-cons, All-nil}
use Rattle.std.proofs.lemmas.List.Sums.{sum_by-cons}
use Rattle.std.specs.List.{sum_by}
use Rattle.std.specs.Prelude.{Option, Some, None}
use Rattle.std.specs.Range.{range_inclusive_end, range_inclusive_start}
use Rattle.std.specs.declared.ops.RangeInclusive.{RangeInclusive}
use Rattle.rsb_integer.specs.Rank.{interval_of, intervals_of}
use Rattle.rsb_integer.proofs.lemmas.Range.{interval_of-some}
use Rattle.rsb_integer.specs.Runs.{Interval, length_of, AllEndBelow, IsCanonicalFrom, IsCanonicalIn}
use Rattle.rsb_streams.specs.OutOfPlace.{start_after}
use Rattle.rsb_storage.specs.Storage.{runs_of, IsKept}
use Rattle.rsb_storage.proofs.lemmas.runs.Storage.{sum_by-canonical}

module _ {T : Type 0} (rank : T → ℕ) (n : ℕ) (all : List Interval) where
  -- Whether the intervals are the runs of a set if those to come are. The length is that of those
  -- before, which end at `previous`.
  pub record IsBegun (rest : List Interval) (previous : Option T) (length : ℕ) : Type 0 where
    pub whole : IsCanonicalFrom (start_after rank 2 previous) rest → AllEndBelow n rest
        → IsCanonicalIn n all
    pub counted : length + sum_by length_of rest ≡ sum_by length_of all
    pub within : length ≤ start_after rank 1 previous

  -- Before the first interval.
  pub begun-first : (length : ℕ) → length ≡ 0 → IsBegun all None length
  begun-first length none = record {
    whole = λ canonical below. record { apart = canonical; within = below };
    counted = omega (arith, none);
    within = omega (arith, none);
  }

  -- If no interval is left, all of them are the runs of a set of this length.
  pub begun-all : (previous : Option T) (length : ℕ) → IsBegun [] previous length
      → IsKept n all length
  begun-all previous length begun =
      let canonical = begun.whole tt (All-nil (λ (each : Interval). each.last < n)) in
      let counted = begun.counted in
      let sum = sum_by-canonical n all canonical in
      record { canonical = canonical; length = omega (arith, counted, sum) }

  -- The first of the intervals to come starts past those before it.
  module _ (come rest : List Interval) (run : Interval) (is : come ≡ run ∷ rest)
      (previous : Option T) (length : ℕ) (begun : IsBegun come previous length)
      (past : start_after rank 2 previous ≤ run.first) (some : run.first ≤ run.last)
      (below : run.last < n) where
    -- So the length so far is at most its start.
    before : (each : Option T) → length ≤ start_after rank 1 each
        → start_after rank 2 each ≤ run.first → length ≤ run.first
    before None within from = omega (arith, within)
    before (Some end) within from = omega (arith, within, from)

    -- With its length, it fits in the type.
    pub begun-fits : length + length_of run ≤ n
    begun-fits =
        let under = before previous begun.within past in
        omega (arith, under, some, below)

    -- The same holds after the interval.
    pub begun-next : (end : T) (new : ℕ) → rank end ≡ run.last → new ≡ length + length_of run
        → IsBegun rest (Some end) new
    begun-next end new ends sum =
        let under = before previous begun.within past in
        let counted = rw is at begun.counted in
        record {
          whole = λ canonical others. (rw is at begun.whole)
              (record {
                starts = past;
                in_order = some;
                rest = subst (λ last. IsCanonicalFrom (last + 2) rest) ends canonical;
              })
              (All-cons (λ (each : Interval). each.last < n) run rest below others);
          counted = omega (arith, counted, sum, sum_by-cons length_of run rest);
          within = omega (arith, under, some, ends, sum);
        }

-- The first and last value of a range, as an entry of the map.
abbrev pub bounds_of : {T : Type 0} → RangeInclusive T → T × T
bounds_of range = (range_inclusive_start range, range_inclusive_end range)

-- The runs of these entries are the intervals of the ranges, if these are non-empty.
pub runs_of-bounds : {T : Type 0} (rank : T → ℕ) (low : ℕ) (ranges : List (RangeInclusive T))
    → IsCanonicalFrom low (intervals_of rank ranges)
    → runs_of rank (map bounds_of ranges) ≡ intervals_of rank ranges
runs_of-bounds rank low [] canonical = refl
runs_of-bounds rank low (range ∷ ranges) canonical =
    let first = sym (interval_of-some rank range canonical.in_order) in
    let rest = runs_of-bounds rank ((interval_of rank range).last + 2) ranges canonical.rest in
    λ i. first i ∷ rest i
