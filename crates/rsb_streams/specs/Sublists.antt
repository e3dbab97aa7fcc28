-- Lists of some items of another, in its order.
use Rattle.std.specs.Prelude.{◌≡◌, ◌⊎◌, List, [], ◌∷◌}

-- Whether the first list consists of items of the second, in its order.
abbrev pub IsSublist : {X : Type 0} → List X → List X → Type 0
IsSublist items [] = items ≡ []
IsSublist {X} items (first ∷ others) = IsSublist items others
    ⊎ ((rest : List X) × (items ≡ first ∷ rest) × IsSublist rest others)
