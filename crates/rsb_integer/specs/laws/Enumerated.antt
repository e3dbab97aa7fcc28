-- Why a type whose values are listed in ascending order satisfies the laws of `Integer`.
use Rattle.std.specs.Prelude.{◌≡◌, ℕ, zero, suc, ◌<◌, Bool, true, false, ◌&&◌, List, [], ◌∷◌, length, slice_get, slice_index_or, Some}
use Rattle.std.specs.Cmp.{IsTotalOrder, ranked, tied_itself}
use Rattle.std.specs.Ordering.{MatchOrdering, is_lt, nat_cmp, ordering_reverse}
use Rattle.std.specs.declared.cmp.Ordering.{Ordering}
use Rattle.std.specs.declared.cmp.Ordering.TheVariants.{Less, Equal, Greater}
use Rattle.std.proofs.Common.{arith, refl, sym, ap, subst, ◌∙◌, true≢false}
use Rattle.std.proofs.lemmas.Map.Lookups.{CmpEqualImpliesEq, exact_unsigned}
use Rattle.std.proofs.lemmas.Option.{none-some, same_Some, slice_get_within, slice_get-get_or}
use Rattle.rsb_integer.specs.Enumerated.{place_in, ascends, IsListed}

-- `is_lt` is true only for `Less`.
is-less : (order : Ordering) → is_lt order ≡ true → order ≡ Less
is-less Less is = refl
is-less Equal is = absurd (true≢false (sym is))
is-less Greater is = absurd (true≢false (sym is))

-- If two tests both pass, each of them passes.
each : (left right : Bool) → (left && right) ≡ true → (left ≡ true) × (right ≡ true)
each true right both = (refl, both)
each false right both = absurd (true≢false (sym both))

module _ {T : Type 0} (cmp : T → T → Ordering) (total : IsTotalOrder cmp) where
  -- What comes after the first value of an ascending list ascends too.
  others-ascend : (first : T) (others : List T) → ascends cmp (first ∷ others) ≡ true
      → ascends cmp others ≡ true
  others-ascend first [] ascending = refl
  others-ascend first (next ∷ others) ascending = (each _ _ ascending).1

  -- The first value of an ascending list is less than each of the others.
  first-less : (first : T) (others : List T) → ascends cmp (first ∷ others) ≡ true
      → (place : ℕ) (value : T) → slice_get others place ≡ Some value → cmp first value ≡ Less
  first-less first [] ascending place value found = absurd (none-some value found)
  first-less first (next ∷ others) ascending zero value found =
      subst (λ other. cmp first other ≡ Less) (same_Some next value found)
      (is-less (cmp first next) (each _ _ ascending).0)
  first-less first (next ∷ others) ascending (suc place) value found =
      total.trans first next value (is-less (cmp first next) (each _ _ ascending).0)
      (first-less next others (each _ _ ascending).1 place value found)

  -- Each value of an ascending list is less than each later one.
  earlier-less : (values : List T) → ascends cmp values ≡ true → (place later : ℕ) (x y : T)
      → slice_get values place ≡ Some x → slice_get values later ≡ Some y → place < later
      → cmp x y ≡ Less
  earlier-less [] ascending place later x y found found_later below = absurd (none-some x found)
  earlier-less (first ∷ others) ascending zero zero x y found found_later below =
      absurd (omega (arith, below))
  earlier-less (first ∷ others) ascending zero (suc later) x y found found_later below =
      subst (λ other. cmp other y ≡ Less) (same_Some first x found)
      (first-less first others ascending later y found_later)
  earlier-less (first ∷ others) ascending (suc place) zero x y found found_later below =
      absurd (omega (arith, below))
  earlier-less (first ∷ others) ascending (suc place) (suc later) x y found found_later below =
      earlier-less others (others-ascend first others ascending) place later x y found found_later
      (omega (arith, below))

module _ {T : Type 0} (eq : T → T → Bool) (values : List T)
    (complete : (value : T) → IsListed eq values value) where
  -- The place of a value is less than the length of the list.
  pub place-below : (value : T) → place_in eq values value < length values
  place-below value = slice_get_within values (place_in eq values value) value (complete value)

  -- Values with the same place are equal.
  one-place : (x y : T) → place_in eq values x ≡ place_in eq values y → x ≡ y
  one-place x y same =
      same_Some x y (sym (complete x) ∙ ap (slice_get values) same ∙ complete y)

module _ {T : Type 0} (eq : T → T → Bool) (cmp : T → T → Ordering) (total : IsTotalOrder cmp)
    (values : List T) (ascending : ascends cmp values ≡ true)
    (complete : (value : T) → IsListed eq values value) where
  -- The order of the places of two values is the order of the values.
  by-places : (x y : T) (order : Ordering)
      → MatchOrdering order (place_in eq values x < place_in eq values y)
      (place_in eq values x ≡ place_in eq values y) (place_in eq values y < place_in eq values x)
      → cmp x y ≡ order
  by-places x y Less less =
      earlier-less cmp total values ascending (place_in eq values x) (place_in eq values y) x y
      (complete x) (complete y) less
  by-places x y Equal equal =
      ap (cmp x) (sym (one-place eq values complete x y equal)) ∙ tied_itself total x
  by-places x y Greater greater =
      total.antisymm x y ∙ ap ordering_reverse (earlier-less cmp total values ascending
      (place_in eq values y) (place_in eq values x) y x (complete y) (complete x) greater)

  -- Values are ordered as their places are.
  pub listed-in_order : (x y : T)
      → cmp x y ≡ nat_cmp (place_in eq values x) (place_in eq values y)
  listed-in_order x y =
      by-places x y (nat_cmp (place_in eq values x) (place_in eq values y))
      (ranked (place_in eq values x) (place_in eq values y)
      (nat_cmp (place_in eq values x) (place_in eq values y)) refl)

  -- Values that compare as equal are equal.
  pub listed-exact : CmpEqualImpliesEq cmp
  listed-exact x y equal =
      one-place eq values complete x y (exact_unsigned (place_in eq values x) (place_in eq values y)
      (sym (listed-in_order x y) ∙ equal))

  -- The value at a place of the list has that place.
  pub listed-ranks : (least : T) (place : ℕ) → place < length values
      → place_in eq values (slice_index_or values place least) ≡ place
  listed-ranks least place below =
      by-order (nat_cmp (place_in eq values value) place)
      (ranked (place_in eq values value) place (nat_cmp (place_in eq values value) place) refl)
    where
      value : T
      value = slice_index_or values place least

      found : slice_get values place ≡ Some value
      found = slice_get-get_or values place least below

      -- No value is less than itself.
      not-less : cmp value value ≡ Less → ⊥
      not-less less = true≢false (ap is_lt (sym less ∙ tied_itself total value))

      by-order : (order : Ordering)
          → MatchOrdering order (place_in eq values value < place)
          (place_in eq values value ≡ place) (place < place_in eq values value)
          → place_in eq values value ≡ place
      by-order Less less =
          absurd (not-less (earlier-less cmp total values ascending
          (place_in eq values value) place value value (complete value) found less))
      by-order Equal equal = equal
      by-order Greater greater =
          absurd (not-less (earlier-less cmp total values ascending
          place (place_in eq values value) value value found (complete value) greater))
