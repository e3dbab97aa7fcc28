-- Events that are added to a list one after the other.
use Rattle.std.proofs.Common.{◌≡◌, List, [], ◌∷◌, ◌++◌, map, ap, ◌∙◌}
use Rattle.std.proofs.lemmas.List.{append_assoc, map-append}

-- If `now` is `told` and one more event, what follows `now` follows that event.
pub told-more : {X Y : Type 0} (f : X → Y) (told now : List X) (one : X) (rest : List Y)
    → now ≡ told ++ one ∷ [] → map f now ++ rest ≡ map f told ++ f one ∷ rest
told-more f told now one rest is =
    ap (λ items. map f items ++ rest) is
    ∙ ap (λ each. each ++ rest) (map-append f told (one ∷ []))
    ∙ append_assoc (map f told) (f one ∷ []) rest
