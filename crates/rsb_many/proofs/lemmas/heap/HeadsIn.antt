-- The head of each input among heads in a list with at most one of each, in any order.
use Rattle.std.proofs.Common.{◌≡◌, ◌≢◌, inl, inr, ℕ, ◌+◌, ◌≤◌, nat_eq, List, [], ◌∷◌, refl, sym, ap, ◌∙◌, arith, All, sum_by, IsPermutation}
use Rattle.std.proofs.lemmas.Bool.{eqb-true}
use Rattle.std.proofs.lemmas.List.Elements.{All-cons, All-head, All-nil, All-tail}
use Rattle.std.proofs.lemmas.List.Sorted.{All-permutation, sum_by-IsPermutation}
use Rattle.std.proofs.lemmas.List.Sums.{sum_by-cons}
use Rattle.std.specs.Option.{option_len}
use Rattle.std.specs.Prelude.{min, IfSome, None, Option, Some}
use Rattle.rsb_integer.proofs.lemmas.List.{true_or_false}
use Rattle.rsb_many.specs.Heads.{head_of, SetsHead}
use Rattle.rsb_many.specs.HeapOrder.{is_of, HasOneOfEach}
use Rattle.rsb_many.specs.declared.heads.Head.{Head}
use Rattle.rsb_many.proofs.lemmas.inputs.Places.{at-place, nat_eq-differs, nat_eq-itself}

module _ {T : Type 0} where
  -- ---- the first of some heads
  module _ (head : Head T) (heads : List (Head T)) where
    -- It counts as one head of its input.
    itself : is_of head.input head ≡ 1
    itself = rw (nat_eq-itself head.input) refl

    -- It is the head of its input.
    pub first-in : head_of (head ∷ heads) head.input ≡ Some head
    first-in = rw (nat_eq-itself head.input) refl

    -- It does not matter for other inputs.
    pub others-in : (other : ℕ) → ¬ (other ≡ head.input)
        → head_of (head ∷ heads) other ≡ head_of heads other
    others-in other differs = rw (nat_eq-differs head.input other differs) refl

    -- How many heads of an input there are.
    sum : (input : ℕ) → sum_by (is_of input) (head ∷ heads)
        ≡ is_of input head + sum_by (is_of input) heads
    sum input = sum_by-cons (is_of input) head heads

  -- ---- heads in any order
  module _ (input : ℕ) where
    -- What holds of all heads holds of that of an input, which belongs to it.
    pub all-in : (P : Head T → Type 0) (heads : List (Head T)) → All P heads
        → IfSome (head_of heads input) (λ head. (head.input ≡ input) × P head)
    all-in P [] all = tt
    all-in P (head ∷ heads) all = elim (true_or_false (nat_eq head.input input)) [
      | inl here ↦ rw here (eqb-true head.input input here, All-head P head heads all)
      | inr other ↦ rw other (all-in P heads (All-tail P head heads all))
    ]

    -- An input has a head exactly if at least one head is of it.
    counted : (heads : List (Head T))
        → option_len (head_of heads input) ≡ min 1 (sum_by (is_of input) heads)
    counted [] = refl
    counted (head ∷ heads) = elim (true_or_false (nat_eq head.input input)) [
      | inl here ↦
          let found : head_of (head ∷ heads) input ≡ Some head = rw here refl in
          let one : is_of input head ≡ 1 = rw here refl in
          ap option_len found ∙ omega (arith, sum head heads input, one)
      | inr other ↦
          let found : head_of (head ∷ heads) input ≡ head_of heads input = rw other refl in
          let none : is_of input head ≡ 0 = rw other refl in
          ap option_len found ∙ counted heads ∙ omega (arith, sum head heads input, none)
    ]

    -- If at most one head is of the input, each head of it is the one that is found.
    all-found : (found : Option (Head T)) (heads : List (Head T)) → sum_by (is_of input) heads ≤ 1
        → (sum_by (is_of input) heads ≢ 0 → found ≡ head_of heads input)
        → All (λ head. head.input ≡ input → found ≡ Some head) heads
    all-found found [] one is = All-nil (λ head. head.input ≡ input → found ≡ Some head)
    all-found found (head ∷ heads) one is =
        let all = sum head heads input in
        All-cons (λ each. each.input ≡ input → found ≡ Some each) head heads
        (λ at.
        let here = ap (λ each. is_of each head) (sym at) ∙ itself head heads in
        is (λ none. omega (arith, all, here, none))
        ∙ (ap (head_of (head ∷ heads)) (sym at) ∙ first-in head heads))
        (all-found found heads (omega (arith, all, one))
        (λ some. is (λ none. some (omega (arith, all, none)))
        ∙ others-in head heads input (λ same.
        let here = ap (λ each. is_of each head) same ∙ itself head heads in
        omega (arith, all, one, here, some))))

    -- One head is another if both are of the input, and one is there only if the other is.
    same-as : (found now : Option (Head T)) → option_len now ≡ option_len found
        → IfSome now (λ head. (head.input ≡ input) × (head.input ≡ input → found ≡ Some head))
        → now ≡ found
    same-as None None long holds = refl
    same-as (Some head) None long holds = absurd (omega (arith, long))
    same-as found (Some head) long holds = sym (holds.1 holds.0)

  module _ (old new : List (Head T)) (same : IsPermutation old new) (one : HasOneOfEach old) where
    -- In any order, the same head is found.
    pub head_of-permutation : (input : ℕ) → head_of new input ≡ head_of old input
    head_of-permutation input = same-as input (head_of old input) (head_of new input)
        (counted input new ∙ ap (min 1) (sum_by-IsPermutation (is_of input) old new same)
        ∙ sym (counted input old))
        (all-in input (λ head. head.input ≡ input → head_of old input ≡ Some head) new
        (All-permutation (λ head. head.input ≡ input → head_of old input ≡ Some head) old new same
        (all-found input (head_of old input) old (one input) (λ some. refl))))

    -- And there is at most one of each input.
    pub one-permutation : HasOneOfEach new
    one-permutation input = rw (sum_by-IsPermutation (is_of input) old new same) (one input)

  -- If the first head is removed, its input has none, and each other at most one.
  pub one-fewer : (head : Head T) (heads : List (Head T)) → HasOneOfEach (head ∷ heads)
      → HasOneOfEach heads × (head_of heads head.input ≡ None)
  one-fewer head heads one = (
    λ input. omega (arith, sum head heads input, one input),
    none-of (head_of heads head.input) (omega (
      arith,
      counted head.input heads,
      sum head heads head.input,
      itself head heads,
      one head.input,
    )),
  )
    where
      -- If there is no head, it is `None`.
      none-of : (found : Option (Head T)) → option_len found ≡ 0 → found ≡ None
      none-of None long = refl
      none-of (Some each) long = absurd (omega (arith, long))

  -- A head of an input that has none is added to the others, in any order.
  module _ (head : Head T) (old new : List (Head T)) (same : IsPermutation (head ∷ old) new)
      (none : head_of old head.input ≡ None) (one : HasOneOfEach old) where
    -- There was at most one head of each input.
    one-more : HasOneOfEach (head ∷ old)
    one-more = at-place (λ input. sum_by (is_of input) (head ∷ old) ≤ 1) head.input
        (let some = sym (counted head.input old) ∙ ap option_len none in
        omega (arith, sum head old head.input, itself head old, some))
        (λ input differs.
        let other : is_of input head ≡ 0 = rw (nat_eq-differs head.input input differs) refl in
        omega (arith, sum head old input, other, one input))

    -- So there is now.
    pub pushed-one : HasOneOfEach new
    pushed-one = one-permutation (head ∷ old) new same one-more

    -- The input has the new head, and each other the one it had.
    pub pushed-in : SetsHead old head.input (Some head) new
    pushed-in =
        let found = head_of-permutation (head ∷ old) new same one-more in
        record {
          here = found head.input ∙ first-in head old;
          others = λ other differs. found other ∙ others-in head old other differs;
        }
