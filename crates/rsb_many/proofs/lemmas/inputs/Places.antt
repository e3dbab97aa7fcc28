-- The places of a list of streams, which are the numbers of the inputs.
use Rattle.std.proofs.Common.{◌≡◌, inl, inr, ℕ, zero, suc, ◌<◌, true, false, nat_eq, List, [], ◌∷◌, length, set, get_or, slice_get, refl, sym, ap, subst, arith, Some}
use Rattle.std.proofs.lemmas.Bool.{cases_eq, eqb-false, ne_eqb}
use Rattle.rsb_integer.proofs.lemmas.List.{true_or_false}

-- Two places that differ are different numbers.
pub nat_eq-differs : (place other : ℕ) → ¬ (other ≡ place) → nat_eq place other ≡ false
nat_eq-differs place other differs = ne_eqb place other (λ same. differs (sym same))

-- A place is the same number as itself.
pub nat_eq-itself : (place : ℕ) → nat_eq place place ≡ true
nat_eq-itself place = elim (true_or_false (nat_eq place place)) [
  | inl same ↦ same
  | inr apart ↦ absurd (eqb-false place place apart refl)
]

-- If a fact holds at one place and at all others, it holds at each place.
pub at-place : (Fact : ℕ → Type 0) (here : ℕ) → Fact here
    → ((place : ℕ) → ¬ (place ≡ here) → Fact place) → (place : ℕ) → Fact place
at-place Fact here holds others place = elim (cases_eq place here) [
  | inl same ↦ subst Fact (sym same) holds
  | inr differs ↦ others place differs
]

module _ {S : Type 0} where
  -- The place that was changed has the new stream.
  pub slice_get-set_same : (streams : List S) (place : ℕ) (stream : S) → place < length streams
      → slice_get (set streams place stream) place ≡ Some stream
  slice_get-set_same [] place stream less = absurd (omega (arith, less))
  slice_get-set_same (first ∷ streams) zero stream less = refl
  slice_get-set_same (first ∷ streams) (suc place) stream less =
      slice_get-set_same streams place stream (omega (arith, less))

  -- Another place has the same stream as before.
  pub slice_get-set_other : (streams : List S) (place other : ℕ) (stream : S) → ¬ (other ≡ place)
      → slice_get (set streams place stream) other ≡ slice_get streams other
  slice_get-set_other [] place other stream differs = refl
  slice_get-set_other (first ∷ streams) zero zero stream differs = absurd (differs refl)
  slice_get-set_other (first ∷ streams) zero (suc other) stream differs = refl
  slice_get-set_other (first ∷ streams) (suc place) zero stream differs = refl
  slice_get-set_other (first ∷ streams) (suc place) (suc other) stream differs =
      slice_get-set_other streams place other stream (λ same. differs (ap suc same))

  -- If a place is one of the list, `get_or` returns the stream there, and not the default.
  pub slice_get-get_or : (streams : List S) (place : ℕ) (stream : S) → place < length streams
      → slice_get streams place ≡ Some (get_or streams place stream)
  slice_get-get_or [] place stream less = absurd (omega (arith, less))
  slice_get-get_or (first ∷ streams) zero stream less = refl
  slice_get-get_or (first ∷ streams) (suc place) stream less =
      slice_get-get_or streams place stream (omega (arith, less))
