-- Ranges of values are determined by their intervals of ranks.
use Rattle.std.proofs.Common.{◌≡◌, ℕ, Bool, true, false, cond, List, [], ◌∷◌, ◌<◌, ◌≤◌, refl, sym, ap, ◌+◌, ◌∙◌, subst, arith}
use Rattle.std.proofs.lemmas.List.Elements.{All-head, All-tail}
use Rattle.std.proofs.lemmas.Map.Lookups.{CmpEqualImpliesEq}
use Rattle.std.specs.Cmp.{nat_cmp_is}
use Rattle.std.specs.Ordering.{nat_cmp}
use Rattle.std.specs.Range.{range_inclusive_start, range_inclusive_end, range_inclusive_exhausted}
use Rattle.std.specs.declared.cmp.Ordering.{Ordering}
use Rattle.std.specs.declared.cmp.Ordering.TheVariants.{Equal}
use Rattle.std.specs.declared.ops.RangeInclusive.{RangeInclusive}
use Rattle.rsb_integer.specs.Rank.{interval_of, intervals_of}
use Rattle.rsb_integer.specs.Runs.{Interval, members, AllEndBelow, IsCanonicalFrom, IsCanonical}
use Rattle.rsb_integer.specs.Selection.{Agree}
use Rattle.rsb_integer.proofs.lemmas.Canonical.{canonical-same}

-- The interval of a range, built from its three parts.
abbrev interval_by : Bool → ℕ → ℕ → Interval
interval_by exhausted first last =
    cond exhausted (record { first = 1; last = 0 }) (record { first = first; last = last })

-- If the interval has a rank, the range was not iterated to its end.
interval_by-some : (exhausted : Bool) (first last : ℕ)
    → (interval_by exhausted first last).first ≤ (interval_by exhausted first last).last → exhausted
    ≡ false
interval_by-some true first last ordered = absurd (omega arith)
interval_by-some false first last ordered = refl

module _ {T : Type 0} (rank : T → ℕ) where
  -- A range that has members was not iterated to its end.
  pub exhausted-some : (range : RangeInclusive T)
      → (interval_of rank range).first ≤ (interval_of rank range).last
      → range_inclusive_exhausted range ≡ false
  exhausted-some range ordered = interval_by-some (range_inclusive_exhausted range)
      (rank (range_inclusive_start range)) (rank (range_inclusive_end range)) ordered

  -- The interval of a range that has members goes from the rank of its start to that of its end.
  pub interval_of-some : (range : RangeInclusive T)
      → (interval_of rank range).first ≤ (interval_of rank range).last
      → interval_of rank range ≡ record {
        first = rank (range_inclusive_start range);
        last = rank (range_inclusive_end range);
      }
  interval_of-some range ordered =
      ap (λ exhausted. interval_by exhausted (rank (range_inclusive_start range))
      (rank (range_inclusive_end range)))
      (exhausted-some range ordered)

  -- The interval of a range that was not iterated to its end goes from the rank of its start to
  -- that of its end.
  pub interval_of-ends : (range : RangeInclusive T) (start end : T)
      → range_inclusive_start range ≡ start → range_inclusive_end range ≡ end
      → range_inclusive_exhausted range ≡ false
      → interval_of rank range ≡ record { first = rank start; last = rank end }
  interval_of-ends range start end starts ends some =
      ap (λ exhausted. interval_by exhausted (rank (range_inclusive_start range))
      (rank (range_inclusive_end range))) some
      ∙ ap (λ value. interval_by false (rank value) (rank (range_inclusive_end range))) starts
      ∙ ap (λ value. interval_by false (rank start) (rank value)) ends

-- In a type of n values that are ordered by their ranks.
module _ {T : Type 0} (rank : T → ℕ) (n : ℕ) (cmp : T → T → Ordering)
    (exact : CmpEqualImpliesEq cmp)
    (in_order : (x y : T) → rank x < n → rank y < n → cmp x y ≡ nat_cmp (rank x) (rank y)) where
  -- No two values have the same rank.
  pub one_place : (x y : T) → rank x < n → rank x ≡ rank y → x ≡ y
  one_place x y below same =
      exact x y (in_order x y below (omega (arith, same))
      ∙ sym (nat_cmp_is (rank x) (rank y) Equal same))

  -- If `value_at` finds a value for each rank, it finds each value by the rank of that value.
  pub value_at-rank : (value_at : ℕ → T)
      → ((place : ℕ) → place < n → rank (value_at place) ≡ place)
      → (x : T) → rank x < n → value_at (rank x) ≡ x
  value_at-rank value_at ranks x below =
      let same = ranks (rank x) below in
      one_place (value_at (rank x)) x (omega (arith, same, below)) same

-- In a type of n values, no two of which have the same rank.
module _ {T : Type 0} (rank : T → ℕ) (n : ℕ)
    (one_place : (x y : T) → rank x < n → rank x ≡ rank y → x ≡ y) where
  -- A range that has members, all within the type, is determined by its interval.
  pub same_range : (range other : RangeInclusive T)
      → (interval_of rank range).first ≤ (interval_of rank range).last
      → (interval_of rank range).last < n
      → interval_of rank range ≡ interval_of rank other → range ≡ other
  same_range range other ordered below same =
      let order : (interval_of rank other).first ≤ (interval_of rank other).last =
      subst (λ (run : Interval). run.first ≤ run.last) same ordered in
      let parts = sym (interval_of-some rank range ordered) ∙ same
      ∙ interval_of-some rank other order in
      let first : rank (range_inclusive_start range) ≡ rank (range_inclusive_start other) =
      ap (λ (run : Interval). run.first) parts in
      let last : rank (range_inclusive_end range) ≡ rank (range_inclusive_end other) =
      ap (λ (run : Interval). run.last) parts in
      let is = interval_of-some rank range ordered in
      let starts = ap (λ (run : Interval). run.first) is in
      let ends = ap (λ (run : Interval). run.last) is in
      let start = one_place (range_inclusive_start range) (range_inclusive_start other)
      (omega (arith, starts, ends)) first in
      let end = one_place (range_inclusive_end range) (range_inclusive_end other)
      (omega (arith, ends)) last in
      let exhausted = exhausted-some rank range ordered ∙ sym (exhausted-some rank other order) in
      λ i. record { start = start i; end = end i; exhausted = exhausted i }

  -- A canonical list of ranges is determined by its intervals.
  pub same_ranges : (low : ℕ) (ranges others : List (RangeInclusive T))
      → IsCanonicalFrom low (intervals_of rank ranges) → AllEndBelow n (intervals_of rank ranges)
      → intervals_of rank ranges ≡ intervals_of rank others → ranges ≡ others
  same_ranges low [] [] canonical below same = refl
  same_ranges low [] (other ∷ others) canonical below same = absurd (cc)
  same_ranges low (range ∷ ranges) [] canonical below same = absurd (cc)
  same_ranges low (range ∷ ranges) (other ∷ others) canonical below same =
      let run = interval_of rank range in
      let head : interval_of rank range ≡ interval_of rank other = cc in
      let tail : intervals_of rank ranges ≡ intervals_of rank others = cc in
      let ends = All-head (λ (each : Interval). each.last < n) run (intervals_of rank ranges) below
      in
      let later = All-tail (λ (each : Interval). each.last < n) run (intervals_of rank ranges) below
      in
      let first = same_range range other canonical.in_order ends head in
      let rest = same_ranges (run.last + 2) ranges others canonical.rest later tail in
      λ i. first i ∷ rest i

  -- Two canonical lists of ranges with the same members are the same list.
  pub same_members : (ranges others : List (RangeInclusive T))
      → IsCanonical (intervals_of rank ranges) → IsCanonical (intervals_of rank others)
      → AllEndBelow n (intervals_of rank ranges) → AllEndBelow n (intervals_of rank others)
      → Agree n (members (intervals_of rank ranges)) (members (intervals_of rank others))
      → ranges ≡ others
  same_members ranges others left right below below_too same =
      same_ranges 0 ranges others left below
      (canonical-same n (intervals_of rank ranges) (intervals_of rank others) left right below
      below_too same)
