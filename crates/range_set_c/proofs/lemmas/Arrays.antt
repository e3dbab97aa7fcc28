-- A set that gets the values of an array, item by item.
use Rattle.std.proofs.Common.{◌≡◌, ℕ, ◌+◌, ◌<◌, List, [], ◌∷◌, length, get_or, map, take, sym, subst, arith}
use Rattle.std.proofs.lemmas.Bool.Decides.{nat_tests}
use Rattle.std.proofs.lemmas.List.{map_more}
use Rattle.rsb_integer.specs.Runs.{Interval, covers, members}
use Rattle.rsb_integer.proofs.lemmas.Members.{members-append, members-cons}
use Rattle.range_set_blaze.specs.Set.{Adds, IsSetOf}

module _ {X : Type 0} (interval : X → Interval) where
  -- If the set has the values of the items before a place, and those of the item there are added,
  -- it has the values of one item more.
  pub one-more : (items : List X) (place : ℕ) (other : X) → place < length items
      → (old new : List Interval)
      → IsSetOf old (members (map interval (take place items)))
      → Adds old new (covers (interval (get_or items place other)))
      → IsSetOf new (members (map interval (take (place + 1) items)))
  one-more items place other below old new had adds rank =
      let before = map interval (take place items) in
      let item = interval (get_or items place other) in
      let has = had rank in
      let added = adds rank in
      let both = members-append before (item ∷ []) rank in
      let one = members-cons item [] rank in
      subst (λ (runs : List Interval). members new rank ≡ members runs rank)
      (sym (map_more interval items place other below))
      (grind (arith, nat_tests, has, added, both, one))
