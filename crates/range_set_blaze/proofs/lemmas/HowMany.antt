-- How many of some sets have a rank, if one more of them is taken into account: the step of a loop.
use Rattle.std.proofs.Common.{◌≡◌, ℕ, Bool, true, false, ◌&&◌, ◌||◌, cond, ◌+◌, ◌<◌, nat_le, List, [], ◌∷◌, ◌++◌, length, get_or, map, take, ap, ◌∙◌, arith}
use Rattle.std.proofs.lemmas.Bool.Decides.{nat_tests}
use Rattle.std.proofs.lemmas.List.{take_more}
use Rattle.rsb_integer.specs.Selection.{Selection, at_least, how_many}

-- With one more set at the end of a list, one more has the rank if that set does.
pub how_many-one_more : {X : Type 0} (selection : X → Selection) (front : List X) (last : X)
    (rank : ℕ) → how_many (map selection (front ++ last ∷ [])) rank
    ≡ how_many (map selection front) rank + cond (selection last rank) 1 0
how_many-one_more selection [] last rank = omega arith
how_many-one_more selection (first ∷ front) last rank =
    let rest = how_many-one_more selection front last rank in omega (arith, rest)

-- The same holds with the next set of a list, as a loop over a slice takes it.
pub how_many-next : {X : Type 0} (selection : X → Selection) (all : List X) (place : ℕ) (other : X)
    → place < length all → (rank : ℕ) → how_many (map selection (take (place + 1) all)) rank
    ≡ how_many (map selection (take place all)) rank
    + cond (selection (get_or all place other) rank) 1 0
how_many-next selection all place other below rank =
    ap (λ list. how_many (map selection list) rank) (take_more all place other below)
    ∙ how_many-one_more selection (take place all) (get_or all place other) rank

-- More than k sets have the rank if more than k did before, or if at least k did and one more does.
one-deeper : (k many : ℕ) (here : Bool) → nat_le (k + 1) (many + cond here 1 0)
    ≡ (nat_le (k + 1) many || (nat_le k many && here))
one-deeper k many true = grind (arith, nat_tests)
one-deeper k many false = grind (arith, nat_tests)

-- Suppose that one more set is added at the end of a list. A rank is then in more than k sets if it
-- was before, or if at least k had it and the new one does.
pub at_least-one_more : {X : Type 0} (selection : X → Selection) (k : ℕ) (front : List X) (last : X)
    (rank : ℕ) → at_least (k + 1) (map selection (front ++ last ∷ [])) rank
    ≡ (at_least (k + 1) (map selection front) rank
    || (at_least k (map selection front) rank && selection last rank))
at_least-one_more selection k front last rank =
    ap (nat_le (k + 1)) (how_many-one_more selection front last rank)
    ∙ one-deeper k (how_many (map selection front) rank) (selection last rank)

-- The same holds with the next set of a list, as a loop over a slice takes it.
pub at_least-next : {X : Type 0} (selection : X → Selection) (k : ℕ) (all : List X) (place : ℕ)
    (other : X) → place < length all → (rank : ℕ)
    → at_least (k + 1) (map selection (take (place + 1) all)) rank
    ≡ (at_least (k + 1) (map selection (take place all)) rank
    || (at_least k (map selection (take place all)) rank
    && selection (get_or all place other) rank))
at_least-next selection k all place other below rank =
    ap (nat_le (k + 1)) (how_many-next selection all place other below rank)
    ∙ one-deeper k (how_many (map selection (take place all)) rank)
    (selection (get_or all place other) rank)
