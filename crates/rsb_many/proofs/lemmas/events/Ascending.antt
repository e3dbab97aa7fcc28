-- Lists that ascend: given elements have at most one such list, and exactly one if any two of them
-- are related.
use Rattle.std.proofs.Common.{◌≡◌, ◌⊎◌, suc, List, [], ◌∷◌, ◌++◌, All, AllPairs, Contains, IsPermutation, refl, sym, subst, inl, inr, arith}
use Rattle.std.proofs.lemmas.List.Elements.{All-append, All-cons, All-contains, All-head, All-nil, All-tail, All-weaker}
use Rattle.std.proofs.lemmas.List.Sorted.{All-permutation, IsPermutation-cons, IsPermutation-middle, IsPermutation-refl, IsPermutation-trans}
use Rattle.rsb_integer.proofs.lemmas.List.{All-both, AllPairs-cons, AllPairs-tail, Contains-cases}

module _ {X : Type 0} (R : X → X → Type 0) where
  -- If all pairs of a list are related, its head is related to each later item.
  pub AllPairs-head : (x : X) (xs : List X) → AllPairs R (x ∷ xs) → All (R x) xs
  AllPairs-head x xs pairs n d within = pairs 0 (suc n) d (omega arith) (omega arith)

  -- All pairs of the empty list are related.
  pub AllPairs-nil : AllPairs R []
  AllPairs-nil m n d less within = absurd (omega arith)

  -- All pairs of a list of one item are related.
  pub AllPairs-single : (x : X) → AllPairs R (x ∷ [])
  AllPairs-single x m n d less within = absurd (omega arith)

  -- All pairs of `xs ++ ys` are related if those of each list are, and the items of `xs` are
  -- related to those of `ys`.
  pub AllPairs-append : (xs ys : List X) → AllPairs R xs → AllPairs R ys
      → All (λ x. All (R x) ys) xs → AllPairs R (xs ++ ys)
  AllPairs-append [] ys left right across = right
  AllPairs-append (x ∷ xs) ys left right across =
      AllPairs-cons R x (xs ++ ys)
      (All-append (R x) xs ys (AllPairs-head x xs left)
      (All-head (λ each. All (R each) ys) x xs across))
      (AllPairs-append xs ys (AllPairs-tail R x xs left) right
      (All-tail (λ each. All (R each) ys) x xs across))

  -- ---- given elements have at most one list that ascends

  module _ (one_way : (x y : X) → R x y → R y x → ⊥) where
    -- If items that come after `y` are among `y ∷ ys`, they are among `ys`.
    later-contains : (y : X) (ys xs : List X) → All (R y) xs → All (Contains (y ∷ ys)) xs
        → All (Contains ys) xs
    later-contains y ys xs above =
        All-both (R y) (Contains (y ∷ ys)) (Contains ys) (λ x after found.
        elim (Contains-cases y ys x found) [
          | inl same ↦
              let again : R y y = subst (R y) (sym same) after in
              absurd (one_way y y again again)
          | inr later ↦ later
        ]) xs above

    -- Lists that ascend and contain each other's heads have the same head.
    same-head : (x y : X) (xs ys : List X) → AllPairs R (x ∷ xs) → AllPairs R (y ∷ ys)
        → Contains (y ∷ ys) x → Contains (x ∷ xs) y → x ≡ y
    same-head x y xs ys left right there back = elim (Contains-cases y ys x there) [
      | inl same ↦ sym same
      | inr later ↦ elim (Contains-cases x xs y back) [
        | inl same ↦ same
        | inr other ↦
            absurd (one_way x y (All-contains (R x) xs y (AllPairs-head x xs left) other)
            (All-contains (R y) ys x (AllPairs-head y ys right) later))
      ]
    ]

    -- Lists that ascend and have the same elements are equal.
    pub ascending-same : (xs ys : List X) → AllPairs R xs → AllPairs R ys → All (Contains ys) xs
        → All (Contains xs) ys → xs ≡ ys
    ascending-same [] [] left right there back = refl
    ascending-same [] (y ∷ ys) left right there back =
        let found = All-head (Contains []) y ys back in
        absurd (omega (arith, found.1))
    ascending-same (x ∷ xs) [] left right there back =
        let found = All-head (Contains []) x xs there in
        absurd (omega (arith, found.1))
    ascending-same (x ∷ xs) (y ∷ ys) left right there back =
        let head = same-head x y xs ys left right (All-head (Contains (y ∷ ys)) x xs there)
        (All-head (Contains (x ∷ xs)) y ys back) in
        let above = subst (λ each. All (R each) xs) head (AllPairs-head x xs left) in
        let below = subst (λ each. All (R each) ys) (sym head) (AllPairs-head y ys right) in
        let rest = ascending-same xs ys (AllPairs-tail R x xs left) (AllPairs-tail R y ys right)
        (later-contains y ys xs above (All-tail (Contains (y ∷ ys)) x xs there))
        (later-contains x xs ys below (All-tail (Contains (x ∷ xs)) y ys back)) in
        λ i. head i ∷ rest i

  -- ---- elements can be put in order if any two of them are apart

  -- Whether one of the two elements is related to the other.
  abbrev pub Apart : X → X → Type 0
  Apart x y = R x y ⊎ R y x

  -- Whether `x` is related to the head of the list, and each element to the next one.
  abbrev pub IsChainFrom : X → List X → Type 0
  IsChainFrom x [] = Unit {0}
  IsChainFrom x (y ∷ ys) = R x y × IsChainFrom y ys

  module _ (through : (x y z : X) → R x y → R y z → R x z) where
    -- If an element comes before the head of a list that ascends, it comes before all of the list.
    pub before-all : (x y : X) (ys : List X) → R x y → AllPairs R (y ∷ ys) → All (R x) (y ∷ ys)
    before-all x y ys first pairs =
        All-cons (R x) y ys first
        (All-weaker (R y) (R x) (λ z. through x y z first) ys (AllPairs-head y ys pairs))

    -- A list that ascends still does if an element that comes before its head is put in front.
    pub ascending-cons : (x y : X) (ys : List X) → R x y → AllPairs R (y ∷ ys)
        → AllPairs R (x ∷ y ∷ ys)
    ascending-cons x y ys first pairs =
        AllPairs-cons R x (y ∷ ys) (before-all x y ys first pairs) pairs

    -- A list ascends if each element is related to the next one.
    pub ascending-chain : (x : X) (xs : List X) → IsChainFrom x xs → AllPairs R (x ∷ xs)
    ascending-chain x [] chain = AllPairs-single x
    ascending-chain x (y ∷ ys) chain =
        ascending-cons x y ys chain.0 (ascending-chain y ys chain.1)

    -- A list that ascends has a place for an element that is apart from each of its elements.
    ascending-place : (x : X) (ys : List X) → AllPairs R ys → All (Apart x) ys
        → (zs : List X) × IsPermutation (x ∷ ys) zs × AllPairs R zs
    ascending-place x [] pairs apart =
        (x ∷ [], IsPermutation-refl (x ∷ []), AllPairs-cons R x [] (All-nil (R x)) pairs)
    ascending-place x (y ∷ ys) pairs apart = elim (All-head (Apart x) y ys apart) [
      | inl first ↦ (
        x ∷ y ∷ ys,
        IsPermutation-refl (x ∷ y ∷ ys),
        ascending-cons x y ys first pairs,
      )
      | inr later ↦
          let rest = ascending-place x ys (AllPairs-tail R y ys pairs)
          (All-tail (Apart x) y ys apart) in (
            y ∷ rest.0,
            IsPermutation-trans (x ∷ y ∷ ys) (y ∷ x ∷ ys) (y ∷ rest.0)
                (IsPermutation-middle (x ∷ []) y ys)
                (IsPermutation-cons y (x ∷ ys) rest.0 rest.1),
            AllPairs-cons R y rest.0
                (All-permutation (R y) (x ∷ ys) rest.0 rest.1
                (All-cons (R y) x ys later (AllPairs-head y ys pairs)))
                rest.2,
          )
    ]

    -- There is a list that ascends with the given elements if any two of them are apart.
    pub ascending-some : (xs : List X) → AllPairs Apart xs
        → (zs : List X) × IsPermutation xs zs × AllPairs R zs
    ascending-some [] apart = ([], IsPermutation-refl [], AllPairs-nil)
    ascending-some (x ∷ xs) apart =
        let first : All (Apart x) xs = λ n d within.
        apart 0 (suc n) d (omega arith) (omega arith) in
        let rest = ascending-some xs (AllPairs-tail Apart x xs apart) in
        let placed = ascending-place x rest.0 rest.2
        (All-permutation (Apart x) xs rest.0 rest.1 first) in (
          placed.0,
          IsPermutation-trans (x ∷ xs) (x ∷ rest.0) placed.0
              (IsPermutation-cons x xs rest.0 rest.1) placed.1,
          placed.2,
        )
