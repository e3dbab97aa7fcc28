-- The comparisons of maps satisfy their laws. This file is in `specs/` because a law must not cite
-- `proofs/`.
use Rattle.std.specs.Prelude.{◌≡◌, ◌↔◌, ℕ, zero, suc, Bool, true, false, ◌&&◌, ◌+◌, ◌<◌, ◌≤◌, List, [], ◌∷◌, ◌++◌, Option, Some, None, nat_eq}
use Rattle.std.specs.Cmp.{IsEquivalence, IsPartialEquivalence, IsPartialOrder, IsTotalOrder, and_equiv, both_tied, first_so, second_so, nat_cmp_total, nat_eq_equiv, on_equiv, on_total, partial_equiv_from_equiv, po, then_total, unsigned_ties}
use Rattle.std.specs.Cmp.Lexicographic.{lists_equiv, lists_ties, lists_total, pointwise}
use Rattle.std.specs.Option.{option_map}
use Rattle.std.specs.Ordering.{eq_by_cmp, nat_cmp}
use Rattle.std.specs.declared.cmp.Ordering.{Ordering}
use Rattle.std.proofs.Common.{refl, sym, ap, subst, inl, inr, arith}
use Rattle.std.proofs.lemmas.Bool.{cases_lt}
use Rattle.std.proofs.lemmas.Bool.Decides.{nat_tests}
use Rattle.std.proofs.lemmas.Option.{none-some, same_Some}
use Rattle.rsb_integer.specs.Runs.{Interval}
use Rattle.range_map_blaze.specs.Made.{all_seen, hashed_map, pieces_made, with_rank, fed_piece}
use Rattle.range_map_blaze.specs.Map.{value_at}
use Rattle.range_map_blaze.specs.Order.{map_cmp, map_eq, pair_cmp, pair_if_any, pairs, pairs_from, same_pair}

-- ---- what two equal lists of pairs have at each rank

module _ {V : Type 0} (eq : V → V → Bool) where
  -- Whether two functions have no value at a rank, or equal ones.
  abbrev pub alike : Option V → Option V → Bool
  alike None None = true
  alike None (Some other) = false
  alike (Some value) None = false
  alike (Some value) (Some other) = eq value other

  -- Whether a list of pairs has no rank below `low`.
  starts_from : ℕ → List (ℕ × V) → Type 0
  starts_from low [] = Unit {0}
  starts_from low (pair ∷ rest) = low ≤ pair.0

  starts-earlier : (low lower : ℕ) (list : List (ℕ × V)) → lower ≤ low → starts_from low list
      → starts_from lower list
  unfolding starts_from
  starts-earlier low lower [] less starts = tt
  starts-earlier low lower (pair ∷ rest) less starts = omega (arith, less, starts)

  pairs-start : (low more : ℕ) (value : ℕ → Option V) → starts_from low (pairs_from low more value)
  unfolding starts_from pairs_from
  pairs-start low zero value = tt
  pairs-start low (suc more) value =
      by (value low) (starts-earlier (suc low) low (pairs_from (suc low) more value) (omega arith)
      (pairs-start (suc low) more value))
    where
      by : (found : Option V) → starts_from low (pairs_from (suc low) more value)
          → starts_from low (pair_if_any low found ++ pairs_from (suc low) more value)
      by None rest = rest
      by (Some here) rest = omega arith

  -- A list that starts with this rank is not equal to one that starts past it.
  head-differs : (rank : ℕ) (value : V) (rest others : List (ℕ × V)) → starts_from (suc rank) others
      → pointwise (same_pair eq) ((rank, value) ∷ rest) others ≡ true → ⊥
  unfolding starts_from
  head-differs rank value rest [] starts is = absurd (cc)
  head-differs rank value rest (other ∷ others) starts is =
      let ranks : nat_eq rank other.0 ≡ true = first_so (nat_eq rank other.0) (eq value other.1)
      (first_so (same_pair eq (rank, value) other) (pointwise (same_pair eq) rest others) is) in
      grind (arith, nat_tests, ranks, starts)

  differs-head : (rank : ℕ) (value : V) (rest others : List (ℕ × V)) → starts_from (suc rank) others
      → pointwise (same_pair eq) others ((rank, value) ∷ rest) ≡ true → ⊥
  unfolding starts_from
  differs-head rank value rest [] starts is = absurd (cc)
  differs-head rank value rest (other ∷ others) starts is =
      let ranks : nat_eq other.0 rank ≡ true = first_so (nat_eq other.0 rank) (eq other.1 value)
      (first_so (same_pair eq other (rank, value)) (pointwise (same_pair eq) others rest) is) in
      grind (arith, nat_tests, ranks, starts)

  -- If the lists of pairs of two functions are equal, the functions are alike at each of the ranks.
  pub pairs-alike : (low more : ℕ) (left right : ℕ → Option V)
      → pointwise (same_pair eq) (pairs_from low more left) (pairs_from low more right) ≡ true
      → (rank : ℕ) → low ≤ rank → rank < low + more → alike (left rank) (right rank) ≡ true
  unfolding pairs_from
  pairs-alike low zero left right is rank from below = absurd (omega (arith, from, below))
  pairs-alike low (suc more) left right is rank from below =
      by (left low) (right low) refl refl is
      (λ here rest. elim (cases_lt low rank) [
        | inl past ↦
            pairs-alike (suc low) more left right rest rank (omega (arith, past)) (omega (arith, below))
        | inr most ↦
            let at : low ≡ rank = omega (arith, most, from) in
            subst (λ each. alike (left each) (right each) ≡ true) at here
      ])
    where
      Rest : Type 0
      Rest = pointwise (same_pair eq) (pairs_from (suc low) more left) (pairs_from (suc low) more right)
          ≡ true

      by : (found other : Option V) → left low ≡ found → right low ≡ other
          → pointwise (same_pair eq) (pair_if_any low found ++ pairs_from (suc low) more left)
          (pair_if_any low other ++ pairs_from (suc low) more right) ≡ true
          → (alike (left low) (right low) ≡ true → Rest → alike (left rank) (right rank) ≡ true)
          → alike (left rank) (right rank) ≡ true
      by None None one two both later = later (rw (one, two) refl) both
      by (Some value) None one two both later =
          absurd (head-differs low value (pairs_from (suc low) more left) (pairs_from (suc low) more right)
          (pairs-start (suc low) more right) both)
      by None (Some other) one two both later =
          absurd (differs-head low other (pairs_from (suc low) more right) (pairs_from (suc low) more left)
          (pairs-start (suc low) more left) both)
      by (Some value) (Some other) one two both later =
          let same = second_so (nat_eq low low) (eq value other)
          (first_so (same_pair eq (low, value) (low, other))
          (pointwise (same_pair eq) (pairs_from (suc low) more left) (pairs_from (suc low) more right)) both) in
          later (rw (one, two) same)
          (second_so (same_pair eq (low, value) (low, other))
          (pointwise (same_pair eq) (pairs_from (suc low) more left) (pairs_from (suc low) more right)) both)

  -- If two functions are alike at each of the ranks, their lists of pairs are equal.
  pub alike-pairs : (low more : ℕ) (left right : ℕ → Option V)
      → ((rank : ℕ) → low ≤ rank → rank < low + more → alike (left rank) (right rank) ≡ true)
      → pointwise (same_pair eq) (pairs_from low more left) (pairs_from low more right) ≡ true
  unfolding pairs_from
  alike-pairs low zero left right same = refl
  alike-pairs low (suc more) left right same =
      by (left low) (right low) (same low (omega arith) (omega arith))
      (alike-pairs (suc low) more left right
      (λ rank from below. same rank (omega (arith, from)) (omega (arith, below))))
    where
      by : (found other : Option V) → alike found other ≡ true
          → pointwise (same_pair eq) (pairs_from (suc low) more left) (pairs_from (suc low) more right) ≡ true
          → pointwise (same_pair eq) (pair_if_any low found ++ pairs_from (suc low) more left)
          (pair_if_any low other ++ pairs_from (suc low) more right) ≡ true
      by None None here rest = rest
      by None (Some other) here rest = absurd (cc)
      by (Some value) None here rest = absurd (cc)
      by (Some value) (Some other) here rest =
          let itself : nat_eq low low ≡ true = grind (arith, nat_tests) in
          λ i. (itself i && here i) && rest i

-- ---- what is seen of equal maps is the same

module _ {V : Type 0} (eq : V → V → Bool) (seen : V → V)
    (exact : (left right : V) → (eq left right ≡ true) ↔ (seen left ≡ seen right)) where
  -- Alike values are seen as the same.
  pub alike-seen : (left right : Option V) → alike eq left right ≡ true
      → option_map seen left ≡ option_map seen right
  alike-seen None None is = refl
  alike-seen None (Some other) is = absurd (cc)
  alike-seen (Some value) None is = absurd (cc)
  alike-seen (Some value) (Some other) is = ap Some ((exact value other).0 is)

  -- Values that are seen as the same are alike.
  pub seen-alike : (left right : Option V) → option_map seen left ≡ option_map seen right
      → alike eq left right ≡ true
  seen-alike None None is = refl
  seen-alike None (Some other) is = absurd (none-some (seen other) is)
  seen-alike (Some value) None is = absurd (none-some (seen value) (sym is))
  seen-alike (Some value) (Some other) is =
      (exact value other).1 (same_Some (seen value) (seen other) is)

  -- Two maps are equal exactly if they are seen to have the same value at each rank of the type.
  pub equal-values : (n : ℕ) (left right : List (Interval × V))
      → (map_eq n eq left right ≡ true) ↔ ((rank : ℕ) → rank < n
      → option_map seen (value_at left rank) ≡ option_map seen (value_at right rank))
  equal-values n left right = (
    (λ is rank below. alike-seen (value_at left rank) (value_at right rank)
        (pairs-alike eq 0 n (value_at left) (value_at right) is rank (omega arith) (omega (arith, below)))),
    (λ same. alike-pairs eq 0 n (value_at left) (value_at right)
        (λ rank from below. seen-alike (value_at left rank) (value_at right rank)
        (same rank (omega (arith, below))))),
  )

  -- The pieces that are made of two functions that agree at these ranks are the same.
  pub made-same : (low more : ℕ) (left right : ℕ → Option V)
      → ((rank : ℕ) → low ≤ rank → rank < low + more → left rank ≡ right rank)
      → pieces_made eq low more left ≡ pieces_made eq low more right
  unfolding pieces_made
  made-same low zero left right same = refl
  made-same low (suc more) left right same =
      let later = made-same (suc low) more left right
      (λ rank from below. same rank (omega (arith, from)) (omega (arith, below))) in
      let here = same low (omega arith) (omega arith) in
      λ i. with_rank eq low (here i) (later i)

  -- Equal maps feed a hasher the same.
  pub hashed-same : (n : ℕ) (key : ℕ → List (List ℕ)) (value : V → List (List ℕ))
      (left right : List (Interval × V)) → map_eq n eq left right ≡ true
      → hashed_map n eq seen key value left ≡ hashed_map n eq seen key value right
  hashed-same n key value left right is =
      ap (Rattle.std.specs.Hash.slice (fed_piece key value))
      (made-same 0 n (all_seen seen (value_at left)) (all_seen seen (value_at right))
      (λ rank from below. alike-seen (value_at left rank) (value_at right rank)
      (pairs-alike eq 0 n (value_at left) (value_at right) is rank from (omega (arith, below)))))

-- ---- the laws, of maps in a type of n values

module _ {V : Type 0} (n : ℕ) where
  pub maps_equivalence : {eq : V → V → Bool} → IsEquivalence eq → IsEquivalence (map_eq n eq)
  maps_equivalence equal = on_equiv (λ (map : List (Interval × V)). pairs n map)
      (lists_equiv (and_equiv (on_equiv (λ (pair : ℕ × V). pair.0) nat_eq_equiv)
      (on_equiv (λ (pair : ℕ × V). pair.1) equal)))

  pub maps_partial_equivalence : {eq : V → V → Bool} → IsEquivalence eq
      → IsPartialEquivalence (map_eq n eq)
  maps_partial_equivalence equal = partial_equiv_from_equiv (maps_equivalence equal)

  pub maps_total : {cmp : V → V → Ordering} → IsTotalOrder cmp → IsTotalOrder (map_cmp n cmp)
  maps_total total = on_total (λ (map : List (Interval × V)). pairs n map)
      (lists_total (then_total (on_total (λ (pair : ℕ × V). pair.0) nat_cmp_total)
      (on_total (λ (pair : ℕ × V). pair.1) total)))

  pub maps_ties : (eq : V → V → Bool) (cmp : V → V → Ordering)
      → ((left right : V) → eq left right ≡ eq_by_cmp cmp left right)
      → (left right : List (Interval × V)) → map_eq n eq left right ≡ eq_by_cmp (map_cmp n cmp) left right
  maps_ties eq cmp ties left right =
      lists_ties (pair_cmp cmp) (λ one other. both_tied _ _ (nat_cmp one.0 other.0) (cmp one.1 other.1)
      (unsigned_ties one.0 other.0) (ties one.1 other.1)) (pairs n left) (pairs n right)

  pub maps_partial_order : (eq : V → V → Bool) (cmp : V → V → Ordering) → IsTotalOrder cmp
      → ((left right : V) → eq left right ≡ eq_by_cmp cmp left right)
      → IsPartialOrder (map_eq n eq) (λ left right. Some (map_cmp n cmp left right))
  maps_partial_order eq cmp total ties = po (maps_total total) (maps_ties eq cmp ties)
