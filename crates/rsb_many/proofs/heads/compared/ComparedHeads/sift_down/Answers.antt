use Rattle.std.proofs.Common.{◌≡◌, ◌+◌, true, false, length, set, slice_index_or, refl, sym, ap, subst, ◌∙◌, arith}
use Rattle.std.proofs.lemmas.Bool.{eqb-false}
use Rattle.std.proofs.lemmas.List.{get_or_default, length-set, set-get_or}
use Rattle.std.proofs.lemmas.List.Elements.{All-set}
use Rattle.std.proofs.lemmas.List.Sorted.{IsPermutation-refl, IsPermutation-trans}
use Rattle.std.specs.Prelude.{IsPermutation}
use Rattle.std.specs.Vec.{vec_len}
use Rattle.rsb_many.specs.Heads.{binary_digits, HasValues}
use Rattle.rsb_many.specs.HeapOrder.{key_at, IsBridged, IsHeapButUnder, IsHeapOf}
use Rattle.rsb_many.proofs.lemmas.heap.Digits.{binary_digits-more, binary_digits-parent, binary_digits-some, binary_digits-within}
use Rattle.rsb_many.proofs.lemmas.heap.Heads.{fact-at, sunk-answer, sunk-keys, sunk-kept, sunk-lesser}
use Rattle.rsb_many.proofs.lemmas.heap.Places.{sunk, sunk-bridged, sunk-here, sunk-last}
use Rattle.rsb_many.proofs.heads.compared.ComparedHeads.sift_down.Goals as goal

-- The head that sinks is at the first place, which has no parent.
pub loop-place-init : goal.loop-place-init
loop-place-init g c =
    let rank = g.T.Integer.rank in
    let items = c.args.self.now.heads.items in
    let head = c.index.result.now in
    let none = eqb-false (vec_len c.args.self.now.heads) 0
    (sym c.is_empty.ensures ∙ c.if-is_empty.false) in
    let same : set items 0 head ≡ items =
    ap (set items 0) c.index.ensures ∙ set-get_or items 0 head in
    record {
      within = omega (arith, none, c.args.self.now.heads.ok.0);
      values = c.requires.values;
      kept = subst (IsPermutation items) (sym same) (IsPermutation-refl items);
      room = refl;
      order = λ other. subst (λ heads. IsHeapButUnder (key_at rank heads other) (length items) 0)
          (sym same) (c.requires.order other);
      bridged = λ other some. absurd (omega (arith, some));
      compared = let some = binary_digits-some 0 in omega (arith, some);
      counted = omega arith;
    }

pub comes_first-requires-clause-values : goal.comes_first-requires-clause-values
comes_first-requires-clause-values g c =
    rw c.lesser_child-child.ensures.heads c.loop-place.invariant.values

pub comes_first-requires-clause-other : goal.comes_first-requires-clause-other
comes_first-requires-clause-other g c =
    let items = c.args.self.now.heads.items in
    let none = eqb-false (vec_len c.args.self.now.heads) 0
    (sym c.is_empty.ensures ∙ c.if-is_empty.false) in
    fact-at g.T.Integer.rank (HasValues g.T.Integer.rank g.T.Integer.value_count) items items
    c.requires.values (IsPermutation-refl items) 0 c.index.result.now
    (omega (arith, none, c.args.self.now.heads.ok.0)) c.index.ensures

-- The lesser child does not come before the head, so all heads are in order.
pub returns-then-not-comes_first-clause-order : goal.returns-then-not-comes_first-clause-order
returns-then-not-comes_first-clause-order g c = λ other.
    let rank = g.T.Integer.rank in
    let old = c.loop-place.self.heads.items in
    let place = c.loop-place.place in
    let next = c.lesser_child-child.result in
    let head = c.index.result.now in
    let one = slice_index_or old next head in
    let child = c.lesser_child-child.ensures.child in
    let is = get_or_default old next head one child.under.1 in
    let keys = key_at rank (set old place head) other in
    let answered = (rw c.lesser_child-child.ensures.heads at c.comes_first.ensures.first) head in
    rw (c.comes_first.ensures.heads, c.lesser_child-child.ensures.heads)
    (subst (IsHeapOf keys) (sym (length-set old place head))
    (sunk-here keys (length old) place next (c.loop-place.invariant.order other)
    (sunk-lesser rank old head one place next c.loop-place.invariant.within child is other)
    (sunk-answer rank old head one place next c.loop-place.invariant.within child is
    c.comes_first.result false answered c.if-not-comes_first.true other)))

-- The invariant leaves two comparisons for the last place.
pub returns-then-not-comes_first-clause-compared : goal.returns-then-not-comes_first-clause-compared
returns-then-not-comes_first-clause-compared g c =
    let old = c.loop-place.self.heads.items in
    let place = c.loop-place.place in
    let within = c.loop-place.invariant.within in
    let digits = binary_digits-more (place + 1) (length old) (omega (arith, within)) in
    let long = ap binary_digits (length-set old place c.index.result.now) in
    rw (c.comes_first.ensures.heads, c.lesser_child-child.ensures.heads) (omega (
      arith,
      c.loop-place.invariant.compared,
      c.lesser_child-child.ensures.compared,
      c.comes_first.ensures.compared,
      digits,
      long,
    ))

-- The lesser child comes before the head and takes its place.
pub loop-place-preserved : goal.loop-place-preserved
loop-place-preserved g c =
    let rank = g.T.Integer.rank in
    let old = c.loop-place.self.heads.items in
    let place = c.loop-place.place in
    let next = c.lesser_child-child.result in
    let head = c.index.result.now in
    let two = c.index-in-loop-place.result.now in
    let two_is = rw (c.comes_first.ensures.heads, c.lesser_child-child.ensures.heads) at c.index-in-loop-place.ensures in
    let kept = c.loop-place.invariant in
    let child = c.lesser_child-child.ensures.child in
    let one = slice_index_or old next head in
    let is = get_or_default old next head one child.under.1 in
    let answered = (rw c.lesser_child-child.ensures.heads at c.comes_first.ensures.first) head in
    let long = length-set old place two in
    let first = sunk-answer rank old head one place next kept.within child is
    c.comes_first.result true answered c.if-not-comes_first.false in
    let less = sunk-lesser rank old head one place next kept.within child is in
    let swapped = sunk-keys rank old head two place next kept.within child two_is in
    let keys = key_at rank (set old place head) in
    let moved = key_at rank (set (set old place two) next head) in
    let Fact = HasValues rank g.T.Integer.value_count in
    rw (c.comes_first.ensures.heads, c.lesser_child-child.ensures.heads) (record {
      within = omega (arith, child.under.1, long);
      values = All-set Fact old place two
          (fact-at rank Fact old old kept.values (IsPermutation-refl old) next two child.under.1
          two_is) kept.values;
      kept = IsPermutation-trans _ _ _ kept.kept
          (sunk-kept rank old head two place next kept.within child two_is);
      room = kept.room;
      order = λ other. subst (λ count. IsHeapButUnder (moved other) count next) (sym long)
          (sunk (keys other) (moved other) (length old) place next child.under.2 child.under.0
          child.under.1 (swapped other) (first other) (less other) (kept.order other)
          (kept.bridged other));
      bridged = λ other. subst (λ count. IsBridged (moved other) count next) (sym long)
          (sunk-bridged (keys other) (moved other) (length old) place next child.under.2
          child.under.0 child.under.1 (swapped other) (first other) (less other)
          (kept.order other) (kept.bridged other));
      compared =
          let digit = binary_digits-parent next child.under.0 in
          let same = ap (λ n. binary_digits (n + 1)) child.under.2 in
          omega (
            arith,
            kept.compared,
            c.lesser_child-child.ensures.compared,
            c.comes_first.ensures.compared,
            digit,
            same,
          );
      counted = omega (
        arith,
        kept.counted,
        c.lesser_child-child.ensures.counted,
        c.comes_first.ensures.compared,
      );
    })

-- The place has no children.
pub returns-clause-order : goal.returns-clause-order
returns-clause-order g c = λ other.
    let old = c.loop-place.self.heads.items in
    let place = c.loop-place.place in
    let head = c.index.result.now in
    let keys = key_at g.T.Integer.rank (set old place head) other in
    subst (IsHeapOf keys) (sym (length-set old place head))
    (sunk-last keys (length old) place
    (omega (arith, c.loop-place-test.false, c.len.ensures, c.loop-place.self.heads.ok.0))
    (c.loop-place.invariant.order other))

-- The number of a place has at most one digit more than the number of heads.
pub returns-clause-compared : goal.returns-clause-compared
returns-clause-compared g c =
    let old = c.loop-place.self.heads.items in
    let place = c.loop-place.place in
    let within = c.loop-place.invariant.within in
    let digits = binary_digits-within place (length old) (omega (arith, within)) in
    let long = ap binary_digits (length-set old place c.index.result.now) in
    omega (arith, c.loop-place.invariant.compared, digits, long)
