-- Maps as lists of pairs of a key and its value, and the comparisons of maps, which are those of
-- these lists.
use Rattle.std.specs.Prelude.{ℕ, zero, suc, Bool, ◌&&◌, List, [], ◌∷◌, ◌++◌, Option, Some, None, nat_eq}
use Rattle.std.specs.Cmp.Lexicographic.{pointwise, slice_cmp}
use Rattle.std.specs.Ordering.{nat_cmp, ordering_then}
use Rattle.std.specs.declared.cmp.Ordering.{Ordering}
use Rattle.rsb_integer.specs.Runs.{Interval}
use Rattle.range_map_blaze.specs.Map.{value_at}

module _ {V : Type 0} where
  -- A rank with its value, if it has one.
  abbrev pub pair_if_any : ℕ → Option V → List (ℕ × V)
  pair_if_any rank None = []
  pair_if_any rank (Some value) = (rank, value) ∷ []

  -- The ranks with their values, among the given number of ranks from `low` on, in ascending order.
  -- This is not an abbreviation, since that number may be 2 ^ 128.
  unfoldable pub pairs_from : ℕ → ℕ → (ℕ → Option V) → List (ℕ × V)
  pairs_from low zero value = []
  pairs_from low (suc more) value = pair_if_any low (value low) ++ pairs_from (suc low) more value

  -- The keys of a map in a type of n values, by their ranks, each with its value.
  abbrev pub pairs : ℕ → List (Interval × V) → List (ℕ × V)
  pairs n pieces = pairs_from 0 n (value_at pieces)

  -- Whether two pairs have the same rank, and values that `eq` finds equal.
  abbrev pub same_pair : (V → V → Bool) → ℕ × V → ℕ × V → Bool
  same_pair eq left right = nat_eq left.0 right.0 && eq left.1 right.1

  -- What `==` of two maps returns.
  abbrev pub map_eq : ℕ → (V → V → Bool) → List (Interval × V) → List (Interval × V) → Bool
  map_eq n eq left right = pointwise (same_pair eq) (pairs n left) (pairs n right)

  -- The order of two pairs: that of their ranks, or that of their values if the ranks are the same.
  abbrev pub pair_cmp : (V → V → Ordering) → ℕ × V → ℕ × V → Ordering
  pair_cmp cmp left right = ordering_then (nat_cmp left.0 right.0) (cmp left.1 right.1)

  -- What `cmp` of two maps returns.
  abbrev pub map_cmp : ℕ → (V → V → Ordering) → List (Interval × V) → List (Interval × V) → Ordering
  map_cmp n cmp left right = slice_cmp (pair_cmp cmp) (pairs n left) (pairs n right)
