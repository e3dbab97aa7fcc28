-- The ranks in at least one of many sets when one more set is added, as a loop does.
use Rattle.std.proofs.Common.{◌≡◌, ℕ, ◌||◌, ◌+◌, ◌<◌, List, [], ◌∷◌, ◌++◌, length, get_or, map, take, sym, ap, ◌∙◌}
use Rattle.std.proofs.Math.Bool.{or_assoc, or-false}
use Rattle.std.proofs.lemmas.List.{take_more}
use Rattle.rsb_integer.specs.Selection.{Selection, any_of}

-- One more set at the end of a list adds the ranks of that set.
pub any_of-one_more : {X : Type 0} (selection : X → Selection) (front : List X) (last : X)
    (rank : ℕ) → any_of (map selection (front ++ last ∷ [])) rank
    ≡ (any_of (map selection front) rank || selection last rank)
any_of-one_more selection [] last rank = or-false (selection last rank)
any_of-one_more selection (first ∷ front) last rank =
    ap (λ test. selection first rank || test) (any_of-one_more selection front last rank)
    ∙ sym (or_assoc (selection first rank) (any_of (map selection front) rank)
    (selection last rank))

-- The first `place + 1` sets of a list have the ranks of the first `place` sets and of the set at
-- `place`.
pub any_of-next : {X : Type 0} (selection : X → Selection) (all : List X) (place : ℕ) (other : X)
    → place < length all → (rank : ℕ) → any_of (map selection (take (place + 1) all)) rank
    ≡ (any_of (map selection (take place all)) rank || selection (get_or all place other) rank)
any_of-next selection all place other below rank =
    ap (λ list. any_of (map selection list) rank) (take_more all place other below)
    ∙ any_of-one_more selection (take place all) (get_or all place other) rank
