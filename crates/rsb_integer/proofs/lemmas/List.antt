-- Facts about the head and the tail of a list, which std states only for pushes and appends.
use Rattle.std.proofs.Common.{◌≡◌, ◌⊎◌, zero, suc, Bool, true, false, List, [], ◌∷◌, ◌++◌, get_or, refl, inl, inr, arith}
use Rattle.std.proofs.lemmas.List.Elements.{All-cons, All-head, All-nil, All-tail, Contains-append_left, Contains-append_right, Contains-append_cases, Contains-push, Contains-push_cases}
use Rattle.std.specs.List.{All, AllPairs, Contains}

-- ---- tests

-- A test passes or fails.
pub true_or_false : (test : Bool) → (test ≡ true) ⊎ (test ≡ false)
true_or_false true = inl refl
true_or_false false = inr refl

-- No test both passes and fails.
pub not_both : (test : Bool) → test ≡ true → test ≡ false → ⊥
not_both test holds fails = absurd (cc)

-- ---- elements

-- What holds for each item of two lists, one after the other, holds for each item of the first.
pub All-front : {X : Type 0} (P : X → Type 0) (xs ys : List X) → All P (xs ++ ys) → All P xs
All-front P [] ys all = All-nil P
All-front P (x ∷ xs) ys all =
    All-cons P x xs (All-head P x (xs ++ ys) all) (All-front P xs ys (All-tail P x (xs ++ ys) all))

-- If two facts about an item give a third, they give it for each item of a list.
pub All-both : {X : Type 0} (P Q R : X → Type 0) → ((x : X) → P x → Q x → R x) → (xs : List X)
    → All P xs → All Q xs → All R xs
All-both P Q R combine xs ps qs k default within =
    combine (get_or xs k default) (ps k default within) (qs k default within)

-- All pairs of a list are related if its head is related to each item of the tail, and all pairs of
-- the tail are.
pub AllPairs-cons : {X : Type 0} (R : X → X → Type 0) (x : X) (xs : List X)
    → All (R x) xs → AllPairs R xs → AllPairs R (x ∷ xs)
AllPairs-cons R x xs first rest zero zero d i j = absurd (omega arith)
AllPairs-cons R x xs first rest zero (suc n) d i j = first n d (omega arith)
AllPairs-cons R x xs first rest (suc m) zero d i j = absurd (omega arith)
AllPairs-cons R x xs first rest (suc m) (suc n) d i j = rest m n d (omega arith) (omega arith)

-- What holds for all pairs of a list holds for all pairs of its tail.
pub AllPairs-tail : {X : Type 0} (R : X → X → Type 0) (x : X) (xs : List X)
    → AllPairs R (x ∷ xs) → AllPairs R xs
AllPairs-tail R x xs pairs m n d i j = pairs (suc m) (suc n) d (omega arith) (omega arith)

-- A list contains its head.
pub Contains-head : {X : Type 0} (x : X) (xs : List X) → Contains (x ∷ xs) x
Contains-head x xs = Contains-append_left (x ∷ []) xs x (Contains-push [] x)

-- A list contains what its tail contains.
pub Contains-tail : {X : Type 0} (x : X) (xs : List X) (y : X) → Contains xs y → Contains (x ∷ xs) y
Contains-tail x xs y found = Contains-append_right (x ∷ []) xs y found

-- What a list contains is its head or is in its tail.
pub Contains-cases : {X : Type 0} (x : X) (xs : List X) (y : X)
    → Contains (x ∷ xs) y → (x ≡ y) ⊎ Contains xs y
Contains-cases x xs y found = elim (Contains-append_cases (x ∷ []) xs y found) [
  | inl head ↦ elim (Contains-push_cases [] x y head) [
    | inl nothing ↦ let below = nothing.1 in absurd (omega arith)
    | inr same ↦ inl same
  ]
  | inr tail ↦ inr tail
]
