-- Heaps of heads: what stays true when their lists change.
use Rattle.std.proofs.Common.{◌≡◌, ℕ, suc, Bool, ◌+◌, ◌-◌, ◌*◌, ◌<◌, ◌≤◌, List, [], ◌∷◌, ◌++◌, length, drop, set, take, All, refl, sym, ap, subst, ◌∙◌, arith, slice_index_or, slice_set, IsPermutation}
use Rattle.std.proofs.lemmas.List.{get_or_append_left, get_or_default, get_or-set_other, get_or-set_same, length-append, length-set, set-set}
use Rattle.std.proofs.lemmas.List.Elements.{All-from_get_or, All-get_or, All-tail}
use Rattle.std.proofs.lemmas.List.Sorted.{All-permutation, IsPermutation-refl, IsPermutation-swap, IsPermutation-sym, IsPermutation-to_front, IsPermutation-trans}
use Rattle.std.specs.List.{swap, swap_remove, SwappedAt}
use Rattle.std.specs.Prelude.{◌≢◌, IsFalse, IsTrue}
use Rattle.rsb_many.specs.Heads.{key_of}
use Rattle.rsb_many.specs.HeapOrder.{key_at, parent, IsHeap, IsHeapButFirst, IsHeapButLast, IsLesserChild}
use Rattle.rsb_many.specs.Keys.{comes_before}
use Rattle.rsb_many.specs.declared.heads.Head.{Head}
use Rattle.rsb_many.proofs.lemmas.heap.Places.{cases_place, first-least, AreSwapped}
use Rattle.rsb_many.proofs.lemmas.heap.Keys.{comes_before-as, comes_before-itself, comes_before-one_way}

-- Swapping two elements sets each of the two places to the element of the other.
swap-set : {X : Type 0} (xs : List X) (one other : ℕ) (none : X) → one < length xs
    → other < length xs → swap xs one other
    ≡ set (set xs one (slice_index_or xs other none)) other (slice_index_or xs one none)
swap-set [] one other none within other_within = absurd (omega (arith, within))
swap-set (x ∷ xs) one other none within other_within = λ k.
    set (set (x ∷ xs) one (get_or_default (x ∷ xs) other x none other_within k)) other
    (get_or_default (x ∷ xs) one x none within k)

module _ {T : Type 0} (rank : T → ℕ) where
  -- If two heads are swapped, so are their keys.
  pub swapped-keys : (old new : List (Head T)) (one place : ℕ) → SwappedAt old new one place
      → (other : Head T) → AreSwapped (key_at rank old other) (key_at rank new other) one place
  swapped-keys old new one place swapped other = record {
    one_is = ap (key_of rank) (swapped.0 other);
    other_is = ap (key_of rank) (swapped.1 other);
    elsewhere = λ next not_one not_other. ap (key_of rank) (swapped.2 next other not_one not_other);
  }

  -- The key at a place is that of the head there.
  pub key_at-is : (heads : List (Head T)) (place : ℕ) (head other : Head T) → place < length heads
      → head ≡ slice_index_or heads place head → key_at rank heads other place ≡ key_of rank head
  key_at-is heads place head other within is =
      ap (key_of rank) (get_or_default heads place other head within ∙ sym is)

  -- If a fact holds of all heads, it holds of the head at a place, in any order of the heads.
  pub fact-at : (Fact : Head T → Type 0) (old heads : List (Head T)) → All Fact old
      → IsPermutation old heads → (place : ℕ) (head : Head T) → place < length heads
      → head ≡ slice_index_or heads place head → Fact head
  fact-at Fact old heads all kept place head within is =
      subst Fact (sym is)
      (All-get_or Fact heads place head within (All-permutation Fact old heads kept all))

  -- If `two` is the head at `next`, a comparison with its key is one with the key at `next`.
  pub answer-at : (heads : List (Head T)) (place next : ℕ) (two : Head T) (answer test : Bool)
      → next < length heads → two ≡ slice_index_or heads next two
      → ((none : Head T) → answer ≡ comes_before (key_at rank heads none place) (key_of rank two))
      → answer ≡ test → (other : Head T)
      → comes_before (key_at rank heads other place) (key_at rank heads other next) ≡ test
  answer-at heads place next two answer test within two_is answered is other =
      ap (comes_before (key_at rank heads other place))
      (key_at-is heads next two other within two_is)
      ∙ (sym (answered other) ∙ is)

  -- A head that sinks is kept beside the list, which has another head at `place`. The head moves
  -- down to `child`, and the head `next` there moves up.
  module _ (heads : List (Head T)) (head next : Head T) (place child : ℕ)
      (within : place < length heads) (lesser : IsLesserChild rank heads place child)
      (is : next ≡ slice_index_or heads child next) where
    -- The child is at another place.
    apart : child ≢ place
    apart same = absurd (let under = lesser.under in omega (arith, under, same))

    -- The child is where it was.
    child-held : (other : Head T) → slice_index_or (set heads place head) child other ≡ next
    child-held other =
        get_or-set_other heads place child head other apart
        ∙ get_or_default heads child other next lesser.under.1 ∙ sym is

    -- The head that sinks is at `place`.
    place-held : (other : Head T) → slice_index_or (set heads place head) place other ≡ head
    place-held other = get_or-set_same heads place head other within

    -- Their keys are swapped.
    pub sunk-keys : (other : Head T) → AreSwapped (key_at rank (set heads place head) other)
        (key_at rank (set (set heads place next) child head) other) place child
    sunk-keys other = record {
      one_is = ap (key_of rank)
          (get_or-set_other (set heads place next) child place head other (λ same. apart (sym same))
          ∙ get_or-set_same heads place next other within ∙ sym (child-held other));
      other_is = ap (key_of rank)
          (get_or-set_same (set heads place next) child head other
          (omega (arith, lesser.under.1, length-set heads place next)) ∙ sym (place-held other));
      elsewhere = λ each not_place not_child. ap (key_of rank)
          (get_or-set_other (set heads place next) child each head other not_child
          ∙ get_or-set_other heads place each next other not_place
          ∙ sym (get_or-set_other heads place each head other not_place));
    }

    -- The heads are the same, in another order.
    pub sunk-kept : IsPermutation (set heads place head) (set (set heads place next) child head)
    sunk-kept =
        let held = set heads place head in
        let long = length-set heads place head in
        let first : place < length held = omega (arith, within, long) in
        let second : child < length held = omega (arith, lesser.under.1, long) in
        IsPermutation-swap held _ place child first second
        (sym (swap-set held place child head first second
        ∙ (λ k. set (set held place (child-held head k)) child (place-held head k))
        ∙ ap (λ each. set each child head) (set-set heads place head next)))

    -- The result of comparing the two heads holds of the keys at their places.
    pub sunk-answer : (answer test : Bool)
        → answer ≡ comes_before (key_of rank next) (key_of rank head) → answer ≡ test
        → (other : Head T) → comes_before (key_at rank (set heads place head) other child)
        (key_at rank (set heads place head) other place) ≡ test
    sunk-answer answer test answered tested other =
        comes_before-as (ap (key_of rank) (child-held other)) (ap (key_of rank) (place-held other))
        ∙ (sym answered ∙ tested)

    -- No child of the place comes before the lesser one.
    pub sunk-lesser : (other : Head T) (each : ℕ) → 0 < each → each < length heads
        → parent each ≡ place → IsFalse (comes_before (key_at rank (set heads place head) other each)
        (key_at rank (set heads place head) other child))
    sunk-lesser other each some short same =
        let not_place = λ (at : each ≡ place). absurd (omega (arith, same, some, at)) in
        comes_before-as
        (ap (key_of rank) (get_or-set_other heads place each head other not_place))
        (ap (key_of rank) (get_or-set_other heads place child head other apart))
        ∙ lesser.lesser other each some short same

  -- If a head is added at the end of a heap, the list is a heap except for that head.
  pub pushed-heap : (heads : List (Head T)) (head : Head T) → IsHeap rank heads
      → IsHeapButLast rank (heads ++ head ∷ [])
  pushed-heap heads head heap other place some within not =
      let long = length-append heads (head ∷ []) in
      let short : place < length heads = omega (arith, within, not, long) in
      let here = get_or_append_left heads (head ∷ []) other place short in
      let low : parent place < length heads = omega (arith, short, some) in
      let above = get_or_append_left heads (head ∷ []) other (parent place) low in
      rw (here, above) (heap other place some short)

  -- A list that agrees with a heap past the first place is a heap except for the children of the
  -- first.
  pub agreed-heap : (old new : List (Head T)) → IsHeap rank old → length new ≤ length old
      → ((place : ℕ) (other : Head T) → place ≢ 0 → place < length new
      → slice_index_or new place other ≡ slice_index_or old place other)
      → IsHeapButFirst rank new
  agreed-heap old new heap short agree other place some within not =
      let below : parent place < length new = omega (arith, some, within) in
      rw (
        agree place other (λ none. absurd (omega (arith, none, some))) within,
        agree (parent place) other not below,
      )
      (heap other place some (omega (arith, within, short)))

  -- No head of a heap comes before the first.
  pub first-least_of : (heads rest : List (Head T)) (head : Head T) → IsHeap rank heads
      → 0 < length heads → head ≡ slice_index_or heads 0 head → IsPermutation heads (head ∷ rest)
      → All (λ other. IsFalse (comes_before (key_of rank other) (key_of rank head))) rest
  first-least_of heads rest head heap some is kept =
      let key = key_of rank head in
      let Fact = λ (other : Head T). IsFalse (comes_before (key_of rank other) key) in
      let keys = key_at rank heads head in
      let all = All-from_get_or Fact heads head (λ place within.
      subst (λ first. IsFalse (comes_before (keys place) first))
      (key_at-is heads 0 head head some is)
      (first-least keys (length heads) (heap head) place place (omega arith) within)) in
      All-tail Fact head rest (All-permutation Fact heads (head ∷ rest) kept all)

  -- The two children of a place, of which `left` is the left one.
  module _ (heads : List (Head T)) (place : ℕ) (left : Head T)
      (within : 2 * place + 1 + 1 < length heads)
      (left_is : left ≡ slice_index_or heads (2 * place + 1) left) where
    -- The key of the left child.
    left_key : (other : Head T) → key_at rank heads other (2 * place + 1) ≡ key_of rank left
    left_key other = key_at-is heads (2 * place + 1) left other (omega (arith, within)) left_is

    -- If the right child comes before the left one, it is the lesser child.
    pub right-lesser : ((other : Head T)
        → IsTrue (comes_before (key_at rank heads other (2 * place + 1 + 1)) (key_of rank left)))
        → IsLesserChild rank heads place (2 * place + 1 + 1)
    right-lesser first = record {
      under = (omega arith, within, omega arith);
      lesser = λ other next some short same. cases_place next (2 * place + 1 + 1)
          (λ is. rw is (comes_before-itself (key_at rank heads other (2 * place + 1 + 1))))
          (λ not.
          let right = key_at rank heads other (2 * place + 1 + 1) in
          let is : next ≡ 2 * place + 1 = omega (arith, some, same, not) in
          ap (λ key. comes_before key right) (ap (key_at rank heads other) is ∙ left_key other)
          ∙ comes_before-one_way right (key_of rank left) (first other));
    }

    -- Otherwise the left child is.
    pub left-lesser : ((other : Head T)
        → IsFalse (comes_before (key_at rank heads other (2 * place + 1 + 1)) (key_of rank left)))
        → IsLesserChild rank heads place (2 * place + 1)
    left-lesser most = record {
      under = (omega arith, omega (arith, within), omega arith);
      lesser = λ other next some short same. cases_place next (2 * place + 1)
          (λ is. rw is (comes_before-itself (key_at rank heads other (2 * place + 1))))
          (λ not.
          let is : next ≡ 2 * place + 1 + 1 = omega (arith, some, same, not) in
          comes_before-as (ap (key_at rank heads other) is) (left_key other) ∙ most other);
    }

  -- If a head is added at the end and the list is reordered, its heads are that one and the old
  -- ones.
  pub pushed-kept : (old more new : List (Head T)) (head : Head T) → more ≡ old ++ head ∷ []
      → IsPermutation more new → IsPermutation (head ∷ old) new
  pushed-kept old more new head is kept =
      IsPermutation-trans _ _ _ (IsPermutation-sym _ _ (IsPermutation-to_front old head))
      (subst (λ heads. IsPermutation heads new) is kept)

  -- If the first head is replaced and the list is reordered, its heads are the new one and those
  -- behind the first.
  pub filled-kept : (old more new : List (Head T)) (head : Head T) → 0 < length old
      → more ≡ set old 0 head → IsPermutation more new → IsPermutation (head ∷ drop 1 old) new
  filled-kept [] more new head some is kept = absurd (omega (arith, some))
  filled-kept (first ∷ old) more new head some is kept =
      subst (λ heads. IsPermutation heads new) is kept

  -- If the first head of a heap is replaced, the list is a heap except for the children of the
  -- first.
  pub filled-heap : (old more : List (Head T)) (head : Head T) → more ≡ set old 0 head
      → IsHeap rank old → IsHeapButFirst rank more
  filled-heap old more head is heap =
      let long : length more ≡ length old = ap (λ heads. length heads) is ∙ length-set old 0 head in
      agreed-heap old more heap (omega (arith, long)) (λ place other not within.
      ap (λ heads. slice_index_or heads place other) is ∙ get_or-set_other old 0 place head other not)

  -- A list is its first head followed by the others.
  pub first-drop : (heads : List (Head T)) (head : Head T) → 0 < length heads
      → head ≡ slice_index_or heads 0 head → heads ≡ head ∷ drop 1 heads
  first-drop [] head some is = absurd (omega (arith, some))
  first-drop (first ∷ heads) head some is = ap (λ each. each ∷ heads) (sym is)

  -- A list is all heads but the last, followed by the last.
  last-behind : (first : Head T) (heads : List (Head T)) (other : Head T)
      → take (length heads) (first ∷ heads)
      ++ slice_index_or (first ∷ heads) (length heads) other ∷ [] ≡ first ∷ heads
  last-behind first [] other = refl
  last-behind first (next ∷ heads) other =
      ap (λ each. first ∷ each) (last-behind next heads other)

  -- If the last head replaces the first, the heads are those behind the first.
  closed-same : (old : List (Head T)) (other : Head T)
      → IsPermutation (drop 1 old) (swap_remove old 0 other)
  closed-same [] other = IsPermutation-refl []
  closed-same (first ∷ []) other = IsPermutation-refl []
  closed-same (first ∷ next ∷ heads) other =
      let all = first ∷ next ∷ heads in
      let last = slice_index_or (next ∷ heads) (length heads) other in
      let front = take (length heads) (next ∷ heads) in
      let count : suc (length heads) ≡ length all - 1 = omega arith in
      subst (λ most. IsPermutation (next ∷ heads)
      (take most (slice_set all 0 (slice_index_or all most other)))) count
      (subst (λ each. IsPermutation each (last ∷ front)) (last-behind next heads other)
      (IsPermutation-to_front front last))

  -- The same holds if the list is then reordered.
  pub closed-kept : (old less new : List (Head T)) (other : Head T) → less ≡ swap_remove old 0 other
      → IsPermutation less new → IsPermutation (drop 1 old) new
  closed-kept old less new other is kept =
      IsPermutation-trans _ _ _ (closed-same old other)
      (subst (λ heads. IsPermutation heads new) is kept)
