-- What lies in some, in all and in an odd number of sets, worked out on 1..=5, 3..=8 and 5..=6.
use Rattle.std.proofs.Common.{◌≡◌, Bool, true, false, List, [], ◌∷◌, map, refl}
use Rattle.rsb_integer.specs.Runs.{members, from_to}
use Rattle.rsb_integer.specs.Selection.{Selection, all_of, any_of, odd_of}

-- The three sets.
abbrev sets : List Selection
sets = map members ((from_to 1 5 ∷ []) ∷ (from_to 3 8 ∷ []) ∷ (from_to 5 6 ∷ []) ∷ [])

-- Whether each of the ranks from 0 to 9 is in the set.
abbrev row_of : Selection → List Bool
row_of selected =
    selected 0 ∷ selected 1 ∷ selected 2 ∷ selected 3 ∷ selected 4 ∷ selected 5 ∷ selected 6
    ∷ selected 7 ∷ selected 8 ∷ selected 9 ∷ []

-- 1..=8 lies in some of them.
any_of_three : row_of (any_of sets)
    ≡ (false ∷ true ∷ true ∷ true ∷ true ∷ true ∷ true ∷ true ∷ true ∷ false ∷ [])
any_of_three = refl

-- 5 lies in all of them.
all_of_three : row_of (all_of sets)
    ≡ (false ∷ false ∷ false ∷ false ∷ false ∷ true ∷ false ∷ false ∷ false ∷ false ∷ [])
all_of_three = refl

-- 1..=2, 5 and 7..=8 lie in an odd number of them.
odd_of_three : row_of (odd_of sets)
    ≡ (false ∷ true ∷ true ∷ false ∷ false ∷ true ∷ false ∷ true ∷ true ∷ false ∷ [])
odd_of_three = refl

-- If there are no sets, nothing lies in some of them, everything in all, and nothing in an odd
-- number.
any_of_none : row_of (any_of [])
    ≡ (false ∷ false ∷ false ∷ false ∷ false ∷ false ∷ false ∷ false ∷ false ∷ false ∷ [])
any_of_none = refl

all_of_none : row_of (all_of [])
    ≡ (true ∷ true ∷ true ∷ true ∷ true ∷ true ∷ true ∷ true ∷ true ∷ true ∷ [])
all_of_none = refl

odd_of_none : row_of (odd_of [])
    ≡ (false ∷ false ∷ false ∷ false ∷ false ∷ false ∷ false ∷ false ∷ false ∷ false ∷ [])
odd_of_none = refl
