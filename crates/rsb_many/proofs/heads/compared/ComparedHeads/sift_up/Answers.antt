use Rattle.std.proofs.Common.{◌≡◌, ◌<◌, true, false, length, sym, ap, subst, ◌∙◌, arith}
use Rattle.std.proofs.lemmas.List.Sorted.{All-permutation, IsPermutation-swap, IsPermutation-trans}
use Rattle.rsb_many.specs.Heads.{binary_digits, HasValues}
use Rattle.rsb_many.specs.HeapOrder.{key_at, parent, IsBridged, IsHeapBut}
use Rattle.rsb_many.proofs.lemmas.heap.Digits.{binary_digits-parent, binary_digits-some}
use Rattle.rsb_many.proofs.lemmas.heap.Heads.{answer-at, fact-at, swapped-keys}
use Rattle.rsb_many.proofs.lemmas.heap.Places.{risen, risen-bridged, risen-here}
use Rattle.rsb_many.proofs.heads.compared.ComparedHeads.sift_up.Goals as goal

pub comes_first-requires-clause-values : goal.comes_first-requires-clause-values
comes_first-requires-clause-values g c =
    All-permutation (HasValues g.T.Integer.rank g.T.Integer.value_count)
    c.args.self.now.heads.items c.loop-place.self.heads.items c.loop-place.invariant.kept
    c.requires.values

pub comes_first-requires-clause-other : goal.comes_first-requires-clause-other
comes_first-requires-clause-other g c =
    let within = c.loop-place.invariant.within in
    fact-at g.T.Integer.rank (HasValues g.T.Integer.rank g.T.Integer.value_count)
    c.args.self.now.heads.items c.loop-place.self.heads.items c.requires.values
    c.loop-place.invariant.kept (parent c.loop-place.place) c.index.result.now
    (omega (arith, within)) c.index.ensures

-- The head does not come before its parent, so all heads are in order.
pub returns-then-not-comes_first-clause-order : goal.returns-then-not-comes_first-clause-order
returns-then-not-comes_first-clause-order g c = λ other.
    let items = c.loop-place.self.heads.items in
    let within = c.loop-place.invariant.within in
    rw c.comes_first.ensures.heads
    (risen-here (key_at g.T.Integer.rank items other) (length items) c.loop-place.place
    (c.loop-place.invariant.order other)
    (answer-at g.T.Integer.rank items c.loop-place.place (parent c.loop-place.place)
    c.index.result.now c.comes_first.result false (omega (arith, within)) c.index.ensures
    c.comes_first.ensures.first c.if-not-comes_first.true other))

-- The number of the place has at least one digit, which allows the last comparison.
pub returns-then-not-comes_first-clause-compared : goal.returns-then-not-comes_first-clause-compared
returns-then-not-comes_first-clause-compared g c =
    let before = c.loop-place.invariant.compared in
    let more = c.comes_first.ensures.compared in
    let some = binary_digits-some c.loop-place.place in
    rw c.comes_first.ensures.heads (omega (arith, before, more, some))

-- The head comes before its parent and takes its place.
pub loop-place-preserved : goal.loop-place-preserved
loop-place-preserved g c =
    let rank = g.T.Integer.rank in
    let before = c.loop-place.self.heads in
    let same = c.comes_first.ensures.heads in
    let old = before.items in
    let new = c.swap.new.self.items in
    let place = c.loop-place.place in
    let kept = c.loop-place.invariant in
    let some : 0 < place = c.loop-place-test.true in
    let below : parent place < length old = omega (arith, kept.within) in
    let swaps = rw same at c.swap.ensures in
    let long : length new ≡ length old =
    omega (arith, swaps.len, before.ok.0, c.swap.new.self.ok.0) in
    let first = answer-at rank old place (parent place) c.index.result.now c.comes_first.result
    true below c.index.ensures c.comes_first.ensures.first c.if-not-comes_first.false in
    let swapped = swapped-keys rank old new place (parent place) swaps.by_index in
    let keys = key_at rank old in
    let moved = key_at rank new in
    record {
      within = omega (arith, below, long);
      kept = IsPermutation-trans _ _ _ kept.kept
          (IsPermutation-swap old new place (parent place) kept.within below swaps.items);
      room = swaps.capacity ∙ kept.room;
      order = λ other. subst
          (λ count. IsHeapBut (moved other) count (parent place)) (sym long)
          (risen (keys other) (moved other) (length old) place some (swapped other)
          (first other) (kept.order other) (kept.bridged other));
      bridged = λ other. subst
          (λ count. IsBridged (moved other) count (parent place)) (sym long)
          (risen-bridged (keys other) (moved other) (length old) place some
          (swapped other) (first other) (kept.order other) (kept.bridged other));
      compared =
          let before = kept.compared in
          let more = c.comes_first.ensures.compared in
          let digit = binary_digits-parent place some in
          let digits = ap binary_digits long in
          omega (arith, before, more, digit, digits);
      counted = omega (arith, kept.counted, c.comes_first.ensures.compared);
    }
