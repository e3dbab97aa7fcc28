-- Two canonical lists of runs, one after the other.
use Rattle.std.proofs.Common.{◌≡◌, ℕ, ◌+◌, ◌-◌, ◌<◌, ◌≤◌, List, [], ◌∷◌, ◌++◌, length, slice_get, ◌||◌, Some, arith, subst, sym, ◌∙◌}
use Rattle.std.proofs.Math.Bool.{or_comm}
use Rattle.std.proofs.lemmas.List.{length-append}
use Rattle.std.proofs.lemmas.List.Elements.{All-append, All-head, All-tail}
use Rattle.std.proofs.lemmas.List.Sums.{sum_by-append}
use Rattle.std.proofs.lemmas.Option.{get_or_from_slice_get, slice_get_within}
use Rattle.rsb_integer.specs.Runs.{Interval, length_of, members, AllEndBelow, IsCanonicalFrom, IsCanonicalIn}
use Rattle.rsb_integer.proofs.lemmas.Canonical.{canonical-lower}
use Rattle.rsb_integer.proofs.lemmas.Members.{members-append}
use Rattle.rsb_streams.specs.RunCount.{HasRunsOfBothAtMost}
use Rattle.rsb_storage.specs.Storage.{IsKept}
use Rattle.rsb_storage.specs.Starts.{StartsWith}
use Rattle.range_set_blaze.proofs.lemmas.order.EndRuns.{ends-last}
use Rattle.rsb_storage.proofs.lemmas.runs.Storage.{sum_by-canonical, sum_by-within}

-- If runs end before a bound, with a gap between, others from there on may follow.
canonical-append : (low bound : ℕ) (runs others : List Interval) → low ≤ bound + 1
    → IsCanonicalFrom low runs → AllEndBelow bound runs → IsCanonicalFrom (bound + 1) others
    → IsCanonicalFrom low (runs ++ others)
canonical-append low bound [] others within canonical below from =
    canonical-lower (bound + 1) low others within from
canonical-append low bound (run ∷ runs) others within canonical below from =
    let here = All-head (λ (each : Interval). each.last < bound) run runs below in record {
      starts = canonical.starts;
      in_order = canonical.in_order;
      rest = canonical-append (run.last + 2) bound runs others (omega (arith, here)) canonical.rest
          (All-tail (λ (each : Interval). each.last < bound) run runs below) from;
    }

module _ (n : ℕ) (low high : List Interval) (lower : IsCanonicalIn n low)
    (upper : IsCanonicalIn n high) where
  -- If the last run of one list ends before the first of the other, with a gap between, the lists
  -- are canonical one after the other.
  pub appended-canonical : (last first : Interval) → slice_get low (length low - 1) ≡ Some last
      → StartsWith high first → last.last + 2 ≤ first.first → IsCanonicalIn n (low ++ high)
  appended-canonical last first found starts past =
      let i = length low - 1 in
      let within = slice_get_within low i last found in
      let is = get_or_from_slice_get low i last last found in
      let ends = subst (λ (each : Interval). AllEndBelow (each.last + 1) low) is
      (ends-last 0 i low last lower.apart (omega (arith, within))).1 in
      let from = subst (IsCanonicalFrom 0) starts.parts upper.apart in record {
        apart = canonical-append 0 (last.last + 1) low high (omega arith) lower.apart ends
            (subst (IsCanonicalFrom (last.last + 1 + 1)) (sym starts.parts) (record {
              starts = omega (arith, past);
              in_order = from.in_order;
              rest = from.rest;
            }));
        within = All-append (λ (each : Interval). each.last < n) low high lower.within upper.within;
      }

  -- The lists one after the other have as many members as both together.
  pub appended-kept : (least most both : ℕ) → IsCanonicalIn n (low ++ high) → IsKept n low least
      → IsKept n high most → both ≡ least + most → IsKept n (low ++ high) both
  appended-kept least most both canonical below above sum = record {
    canonical = canonical;
    length =
        let all = sum_by-canonical n (low ++ high) canonical in
        let here = sum_by-canonical n low lower in
        let there = sum_by-canonical n high upper in
        let parts = sum_by-append length_of low high in
        let one = below.length in
        let other = above.length in
        omega (arith, all, here, there, parts, one, other, sum);
  }

  -- So both numbers together fit in the type.
  pub appended-fits : (least most : ℕ) → IsCanonicalIn n (low ++ high) → IsKept n low least
      → IsKept n high most → least + most ≤ n
  appended-fits least most canonical below above =
      let all = sum_by-within n (low ++ high) canonical in
      let here = sum_by-canonical n low lower in
      let there = sum_by-canonical n high upper in
      let parts = sum_by-append length_of low high in
      let one = below.length in
      let other = above.length in
      omega (arith, all, here, there, parts, one, other)

-- The order of two lists makes no difference to the members of both.
pub members-swapped : (left right : List Interval) (rank : ℕ)
    → members (right ++ left) rank ≡ (members left rank || members right rank)
members-swapped left right rank =
    members-append right left rank ∙ or_comm (members right rank) (members left rank)

-- Two lists one after the other have as many runs as both together.
pub appended-few : (low high set : List Interval) → set ≡ low ++ high
    → HasRunsOfBothAtMost low high set
appended-few low high set is = rw is (omega (arith, length-append low high))

pub swapped-few : (left right set : List Interval) → set ≡ right ++ left
    → HasRunsOfBothAtMost left right set
swapped-few left right set is = rw is (omega (arith, length-append right left))
