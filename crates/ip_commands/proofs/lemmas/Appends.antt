-- The bytes that a writer takes, one part after the other.
use Rattle.std.proofs.Common.{◌∙◌, ℕ, List, [], ◌∷◌, ◌++◌, Option, Some, None, refl, sym, ap, append_assoc, subst}
use Rattle.std.proofs.lemmas.List.{append-nil, flat_map_more}
use Rattle.std.specs.Io.KnownBytes.{Appends, Keeps}
use Rattle.std.specs.List.{flat_map}

-- If nothing changes, the known bytes are kept.
pub Keeps-itself : (known : Option (List ℕ)) → Keeps known known
Keeps-itself None = tt
Keeps-itself (Some xs) = refl

-- If known bytes are kept twice, they are kept.
pub Keeps-then : (old mid new : Option (List ℕ)) → Keeps old mid → Keeps mid new → Keeps old new
Keeps-then None mid new first second = tt
Keeps-then (Some before) None new first second = absurd first
Keeps-then (Some before) (Some between) None first second = absurd second
Keeps-then (Some before) (Some between) (Some after) first second = second ∙ first

-- If nothing changes, nothing was written.
pub Appends-nothing : (known : Option (List ℕ)) → Appends known known []
Appends-nothing None = tt
Appends-nothing (Some xs) = sym (append-nil xs)

-- If two parts were written one after the other, both together were written.
pub Appends-then : (old mid new : Option (List ℕ)) (xs ys : List ℕ)
    → Appends old mid xs → Appends mid new ys → Appends old new (xs ++ ys)
Appends-then None mid new xs ys first second = tt
Appends-then (Some before) None new xs ys first second = absurd first
Appends-then (Some before) (Some between) None xs ys first second = absurd second
Appends-then (Some before) (Some between) (Some after) xs ys first second =
    second ∙ ap (λ v. v ++ ys) first ∙ append_assoc before xs ys

-- If nothing changes after a part was written, that part was written.
pub Appends-kept : (old mid new : Option (List ℕ)) (xs : List ℕ) → Appends old mid xs
    → Keeps mid new → Appends old new xs
Appends-kept None mid new xs first keeps = tt
Appends-kept (Some before) None new xs first keeps = absurd first
Appends-kept (Some before) (Some between) None xs first keeps = absurd keeps
Appends-kept (Some before) (Some between) (Some after) xs first keeps = keeps ∙ first

-- If the line of one more item was written after those of the items before it, all were written.
pub Appends-item : {X : Type 0} (line : X → List ℕ) (old mid new : Option (List ℕ))
    (items : List X) (item : X) → Appends old mid (flat_map line items)
    → Appends mid new (line item) → Appends old new (flat_map line (items ++ item ∷ []))
Appends-item line old mid new items item before more =
    subst (Appends old new) (flat_map_more line [] items item)
    (Appends-then old mid new (flat_map line items) (line item) before more)
