-- What stays true of a heap, as keys at places, while one key moves up or down.
use Rattle.std.proofs.Common.{◌≡◌, ℕ, zero, suc, ◌+◌, ◌*◌, ◌<◌, ◌≤◌, not, inl, inr, arith}
use Rattle.std.proofs.lemmas.Bool.{cases_eq}
use Rattle.std.specs.Prelude.{◌≢◌, IsFalse, IsTrue}
use Rattle.rsb_many.specs.HeapOrder.{parent, IsBridged, IsHeapBut, IsHeapButUnder, IsHeapOf, IsUnder}
use Rattle.rsb_many.specs.Keys.{comes_before, Key}
use Rattle.rsb_many.proofs.lemmas.heap.Keys.{comes_before-chain, comes_before-itself, comes_before-one_way}

-- Whether the keys at two places are swapped, and all others are unchanged.
pub record AreSwapped (old new : ℕ → Key) (one other : ℕ) : Type 0 where
  pub one_is : new one ≡ old other
  pub other_is : new other ≡ old one
  pub elsewhere : (place : ℕ) → place ≢ one → place ≢ other → new place ≡ old place

-- A fact holds if it follows both from `place` being `one` and from its being another place.
pub cases_place : {Fact : Type 0} (place one : ℕ) → (place ≡ one → Fact) → (place ≢ one → Fact)
    → Fact
cases_place place one same other = elim (cases_eq place one) [
  | inl is ↦ same is
  | inr not ↦ other not
]

-- The parent of a place other than the first is before it.
pub parent-above : (place : ℕ) → 0 < place → parent place < place
parent-above place some = omega arith

-- A place before or past another is not the same.
not_below : (place one : ℕ) → place < one → place ≢ one
not_below place one below same = absurd (omega (arith, below, same))

not_above : (place one : ℕ) → one < place → place ≢ one
not_above place one above same = absurd (omega (arith, above, same))

module _ (keys : ℕ → Key) (count : ℕ) where
  -- No key of a heap comes before the first.
  pub first-least : IsHeapOf keys count → (most place : ℕ) → place ≤ most → place < count
      → IsFalse (comes_before (keys place) (keys 0))
  first-least heap zero place small within =
      let first : place ≡ 0 = omega arith in
      rw first (comes_before-itself (keys 0))
  first-least heap (suc most) place small within =
      cases_place place 0 (λ first. rw first (comes_before-itself (keys 0))) (λ not.
      let some : 0 < place = omega (arith, not) in
      let above = parent-above place some in
      comes_before-chain (keys 0) (keys (parent place)) (keys place)
      (first-least heap most (parent place) (omega arith) (omega arith)) (heap place some within))

  -- If only the key at `here` might come before its parent, and it does not, the keys are a heap.
  pub risen-here : (here : ℕ) → IsHeapBut keys count here → IsUnder keys here → IsHeapOf keys count
  risen-here here heap under place some within =
      cases_place place here (λ same. rw same under) (heap place some within)

  -- If only children of `here` might come before it, and it has none, the keys are a heap.
  pub sunk-last : (here : ℕ) → count ≤ 2 * here + 1 → IsHeapButUnder keys count here
      → IsHeapOf keys count
  sunk-last here last heap place some within =
      heap place some within (λ same. absurd (omega (arith, last, some, within, same)))

  -- If only children of `here` might come before it, and the lesser one does not, the keys are a
  -- heap.
  pub sunk-here : (here child : ℕ) → IsHeapButUnder keys count here
      → ((next : ℕ) → 0 < next → next < count → parent next ≡ here
      → IsFalse (comes_before (keys next) (keys child)))
      → IsFalse (comes_before (keys child) (keys here)) → IsHeapOf keys count
  sunk-here here child heap lesser under place some within =
      cases_place (parent place) here
      (λ same. rw same (comes_before-chain (keys here) (keys child) (keys place) under
      (lesser place some within same)))
      (heap place some within)

module _ (old new : ℕ → Key) (count here : ℕ) where
  -- A key that comes before its parent moves up, and the two are swapped.
  module _ (some_here : 0 < here) (swapped : AreSwapped old new here (parent here))
      (first : IsTrue (comes_before (old here) (old (parent here))))
      (heap : IsHeapBut old count here) (bridged : IsBridged old count here) where
    -- A key does not come before its parent, unless it is at the place that the moved key has now.
    risen-under : (place : ℕ) → 0 < place → place < count → place ≢ parent here → IsUnder new place
    risen-under place some within elsewhere =
        let back = comes_before-one_way (old here) (old (parent here)) first in
        cases_place place here
        (λ same. rw (same, swapped.one_is, swapped.other_is) back)
        (λ not.
        let stays = swapped.elsewhere place not elsewhere in
        let under = heap place some within not in
        cases_place (parent place) here
        (λ same. rw (stays, same, swapped.one_is) (bridged some_here place some within same))
        (λ apart. cases_place (parent place) (parent here)
        (λ same. rw (stays, same, swapped.other_is)
        (comes_before-chain (old here) (old (parent here)) (old place) back (rw same at under)))
        (λ away. rw (stays, swapped.elsewhere (parent place) apart away) under)))

    -- So the keys are a heap except for the key that moved.
    pub risen : IsHeapBut new count (parent here)
    risen place some within elsewhere = risen-under place some within elsewhere

    -- No child of that place comes before the parent of that place.
    pub risen-bridged : IsBridged new count (parent here)
    risen-bridged some_up place some within same =
        let below = parent-above here some_here in
        let above = parent-above (parent here) some_up in
        let stays = swapped.elsewhere (parent (parent here))
        (not_below (parent (parent here)) here (omega (arith, above, below)))
        (not_below (parent (parent here)) (parent here) above) in
        let under = heap (parent here) some_up (omega (arith, below, within, same, some))
        (not_below (parent here) here below) in
        cases_place place here
        (λ is. rw (is, swapped.one_is, stays) under)
        (λ not.
        let above_it = parent-above place some in
        let elsewhere = not_above place (parent here) (omega (arith, above_it, same)) in
        rw (swapped.elsewhere place not elsewhere, stays)
        (comes_before-chain (old (parent (parent here))) (old (parent here)) (old place) under
        (rw same at (heap place some within not))))

  -- A key moves down and is swapped with its lesser child, which comes before it.
  module _ (child : ℕ) (under_here : parent child ≡ here) (some_child : 0 < child)
      (child_within : child < count)
      (swapped : AreSwapped old new here child)
      (first : IsTrue (comes_before (old child) (old here)))
      (lesser : (next : ℕ) → 0 < next → next < count → parent next ≡ here
      → IsFalse (comes_before (old next) (old child)))
      (heap : IsHeapButUnder old count here) (bridged : IsBridged old count here) where
    -- The key moves to a later place.
    below_here : here < child
    below_here = let above = parent-above child some_child in omega (arith, above, under_here)

    -- A key at neither place, whose parent is not at `child`, does not come before its parent.
    sunk-under : (place : ℕ) → 0 < place → place < count → parent place ≢ child → place ≢ here
        → place ≢ child → IsUnder new place
    sunk-under place some within elsewhere not_here not_child =
        let stays = swapped.elsewhere place not_here not_child in
        cases_place (parent place) here
        (λ same. rw (stays, same, swapped.one_is) (lesser place some within same))
        (λ apart. rw (stays, swapped.elsewhere (parent place) apart elsewhere)
        (heap place some within apart))

    -- So the keys are a heap except for the children of the key that moved.
    pub sunk : IsHeapButUnder new count child
    sunk place some within elsewhere =
        cases_place place child
        (λ same. rw (same, under_here, swapped.other_is, swapped.one_is)
        (comes_before-one_way (old child) (old here) first))
        (λ not_child. cases_place place here
        (λ same.
        let some_here : 0 < here = omega (arith, some, same) in
        let above = parent-above here some_here in
        let stays = swapped.elsewhere (parent here) (not_below (parent here) here above)
        (not_below (parent here) child (omega (arith, above, below_here))) in
        rw (same, swapped.one_is, stays)
        (bridged some_here child some_child child_within under_here))
        (λ not_here. sunk-under place some within elsewhere not_here not_child))

    -- No child of that place comes before the parent of that place.
    pub sunk-bridged : IsBridged new count child
    sunk-bridged some_place place some within same =
        let above = parent-above place some in
        let not_child = not_above place child (omega (arith, above, same)) in
        let not_here = not_above place here (omega (arith, above, same, below_here)) in
        let apart : parent place ≢ here = λ is. not_below here child below_here
        (omega (arith, is, same)) in
        rw (under_here, swapped.one_is, swapped.elsewhere place not_here not_child)
        (rw same at (heap place some within apart))
