-- A map that is built from a list of entries in order.
use Rattle.std.proofs.Common.{◌≡◌, ℕ, ◌+◌, ◌<◌, Bool, true, false, List, [], ◌∷◌, Option, Some, None, Less, Equal, Greater, refl, sym, ap, ◌∙◌, arith}
use Rattle.std.proofs.lemmas.Bool.Decides.{nat_tests}
use Rattle.std.proofs.lemmas.Cmp.{eq_by_cmp_equiv, tied_itself}
use Rattle.std.proofs.lemmas.Map.{lookup-none}
use Rattle.std.proofs.lemmas.Map.Entries.{lookup_head, lookup_tail, none_below_head, none_past_head}
use Rattle.std.proofs.lemmas.Map.Lookups.{CmpEqualImpliesEq}
use Rattle.std.proofs.lemmas.Map.Keys.{sorted_tail, IsDistinct-from_sorted}
use Rattle.std.proofs.lemmas.Map.Made.{update_all_none}
use Rattle.std.proofs.lemmas.Option.{none-some, same_Some}
use Rattle.std.specs.BTreeMap.{is_at, BTreeMap, IsFromIterResult}
use Rattle.std.specs.Cmp.{IsTotalOrder}
use Rattle.std.specs.List.{AllByRecursion}
use Rattle.std.specs.List.Sorted.{IsStrictlySortedBy}
use Rattle.std.specs.Map.{keys_of, lookup, update_all}
use Rattle.std.specs.Ordering.{eq_by_cmp, nat_cmp, is_eq, ordering_reverse}
use Rattle.std.specs.declared.cmp.Ordering.{Ordering}
use Rattle.rsb_storage.specs.Storage.{runs_of}
use Rattle.rsb_storage.specs.Starts.{StartsAscendFrom}

-- If two look-ups have the same result, they find the same value.
one-value : {X : Type 0} (x y : X) (left right : Option X) → left ≡ right → left ≡ Some x
    → right ≡ Some y → x ≡ y
one-value x y left right same at other = same_Some x y (sym at ∙ same ∙ other)

-- If two look-ups have the same result, not only one of them finds a value.
one-found : {X P : Type 0} (x : X) (left right : Option X) → left ≡ right → left ≡ Some x
    → right ≡ None → P
one-found x left right same at none = absurd (none-some x (sym none ∙ sym same ∙ at))

module _ {T : Type 0} (cmp : T → T → Ordering) (order : IsTotalOrder cmp) (rank : T → ℕ) (n : ℕ)
    (in_order : (x y : T) → rank x < n → rank y < n → cmp x y ≡ nat_cmp (rank x) (rank y))
    (exact : CmpEqualImpliesEq cmp) where
  -- If the starts of entries ascend past the rank of a value, their keys are past that value.
  later : (value : T) (low : ℕ) (entries : List (T × T)) → rank value < n → rank value < low
      → StartsAscendFrom n low (runs_of rank entries)
      → AllByRecursion (λ key. cmp value key ≡ Less) (keys_of entries)
  later value low [] valued below ascending = tt
  later value low (entry ∷ entries) valued below ascending =
      let from = ascending.starts in
      let less : nat_cmp (rank value) (rank entry.0) ≡ Less = grind (arith, nat_tests, below, from) in (
        in_order value entry.0 valued ascending.in_type ∙ less,
        later value (rank entry.0 + 1) entries valued (omega (arith, below, from)) ascending.rest,
      )

  -- So if the starts of entries ascend, their keys do.
  sorted-keys : (low : ℕ) (entries : List (T × T)) → StartsAscendFrom n low (runs_of rank entries)
      → IsStrictlySortedBy cmp (keys_of entries)
  unfolding IsStrictlySortedBy
  sorted-keys low [] ascending = tt
  sorted-keys low (entry ∷ entries) ascending = (
    later entry.0 (rank entry.0 + 1) entries ascending.in_type (omega arith) ascending.rest,
    sorted-keys (rank entry.0 + 1) entries ascending.rest,
  )

  -- Two lists of entries in order are the same if all look-ups have the same result in both.
  same-entries : (low : ℕ) (entries others : List (T × T))
      → IsStrictlySortedBy cmp (keys_of entries) → StartsAscendFrom n low (runs_of rank others)
      → ((key : T) → lookup (is_at (cmp key)) entries ≡ lookup (is_at (cmp key)) others)
      → entries ≡ others
  same-entries low [] [] sorted ascending same = refl
  same-entries low [] (other ∷ others) sorted ascending same =
      one-found other.1 _ _ (sym (same other.0))
      (lookup_head (is_at (cmp other.0)) other others (ap is_eq (tied_itself order other.0))) refl
  same-entries low (entry ∷ entries) [] sorted ascending same =
      one-found entry.1 _ _ (same entry.0)
      (lookup_head (is_at (cmp entry.0)) entry entries (ap is_eq (tied_itself order entry.0))) refl
  same-entries low (entry ∷ entries) (other ∷ others) sorted ascending same =
      by (λ keys. same-entries (rank other.0 + 1) entries others
      (sorted_tail cmp entry.0 (keys_of entries) sorted) ascending.rest (rest-same keys))
      (cmp entry.0 other.0) refl
    where
      -- The other list is in order too.
      others-sorted : IsStrictlySortedBy cmp (keys_of (other ∷ others))
      others-sorted = sorted-keys low (other ∷ others) ascending

      -- The first entry of each list is found at its key.
      entry-found : lookup (is_at (cmp entry.0)) (entry ∷ entries) ≡ Some entry.1
      entry-found =
          lookup_head (is_at (cmp entry.0)) entry entries (ap is_eq (tied_itself order entry.0))

      other-found : lookup (is_at (cmp other.0)) (other ∷ others) ≡ Some other.1
      other-found =
          lookup_head (is_at (cmp other.0)) other others (ap is_eq (tied_itself order other.0))

      -- Look-ups have the same result in the lists without their first entries.
      rest-same : entry.0 ≡ other.0 → (key : T)
          → lookup (is_at (cmp key)) entries ≡ lookup (is_at (cmp key)) others
      rest-same keys key = at (is_at (cmp key) entry.0) refl
        where
          -- This depends on whether the key is that of the first entry.
          at : (here : Bool) → is_at (cmp key) entry.0 ≡ here
              → lookup (is_at (cmp key)) entries ≡ lookup (is_at (cmp key)) others
          at true is =
              lookup-none (is_at (cmp key)) entries
              (none_past_head (eq_by_cmp_equiv order) key entry entries
              (IsDistinct-from_sorted cmp (keys_of (entry ∷ entries)) sorted) is)
              ∙ sym (lookup-none (is_at (cmp key)) others
              (none_past_head (eq_by_cmp_equiv order) key other others
              (IsDistinct-from_sorted cmp (keys_of (other ∷ others)) others-sorted)
              (ap (is_at (cmp key)) (sym keys) ∙ is)))
          at false is =
              sym (lookup_tail (is_at (cmp key)) entry entries is) ∙ same key
              ∙ lookup_tail (is_at (cmp key)) other others (ap (is_at (cmp key)) (sym keys) ∙ is)

      -- The two first entries are the same, and so are the lists after them.
      by : (entry.0 ≡ other.0 → entries ≡ others) → (found : Ordering)
          → cmp entry.0 other.0 ≡ found → entry ∷ entries ≡ other ∷ others
      by rest Less is =
          one-found entry.1 _ _ (same entry.0) entry-found
          (lookup-none (is_at (cmp entry.0)) (other ∷ others)
          (none_below_head order entry.0 other others others-sorted is))
      by rest Greater is =
          one-found other.1 _ _ (sym (same other.0)) other-found
          (lookup-none (is_at (cmp other.0)) (entry ∷ entries)
          (none_below_head order other.0 entry entries sorted
          (order.antisymm other.0 entry.0 ∙ ap ordering_reverse is)))
      by rest Equal is =
          let keys = exact entry.0 other.0 is in
          let found = one-value entry.1 other.1 _ _ (same entry.0) entry-found
          (lookup_head (is_at (cmp entry.0)) other others (ap is_eq is)) in
          let others_same = rest keys in
          λ i. (keys i, found i) ∷ others_same i

  -- So a map that is built from entries in order has exactly these.
  pub made-entries : (items entries : List (T × T)) (made : BTreeMap T T)
      → IsFromIterResult cmp items made → items ≡ entries → StartsAscendFrom n 0 (runs_of rank entries)
      → made.entries ≡ entries
  made-entries items entries made from is ascending =
      same-entries 0 made.entries entries from.1 ascending (λ key.
      from.0 key
      ∙ ap (λ (each : List (T × T)). update_all (eq_by_cmp cmp) (λ _. None) each key) is
      ∙ update_all_none (eq_by_cmp_equiv order) (eq_by_cmp cmp) (λ x y. refl) entries key
      (IsDistinct-from_sorted cmp (keys_of entries) (sorted-keys 0 entries ascending)))
