use Rattle.std.proofs.Common.{◌≡◌, ◌+◌, ◌≤◌, drop, length, sym, ap, subst, ◌∙◌, arith, IsPermutation}
use Rattle.std.proofs.lemmas.List.Elements.{All-drop}
use Rattle.std.proofs.lemmas.List.Sorted.{length_permutation, All-permutation, IsPermutation-refl}
use Rattle.rsb_many.specs.Heads.{binary_digits, closing_bound, head_of, HasValues}
use Rattle.rsb_many.specs.HeapOrder.{counted_heads, HasOneOfEach}
use Rattle.rsb_many.proofs.lemmas.heap.Heads.{agreed-heap, closed-kept}
use Rattle.rsb_many.proofs.lemmas.heap.HeadsIn.{head_of-permutation, one-permutation}
use Rattle.rsb_many.proofs.heads.Heads.close.Given.{Over}
use Rattle.rsb_many.proofs.heads.Heads.close.Goals as goal

-- The heads behind the first have values.
pub sift_down-requires-clause-values : goal.sift_down-requires-clause-values
sift_down-requires-clause-values g c =
    let Fact = HasValues g.T.Integer.rank g.T.Integer.value_count in
    let old = c.self.inside.list.heads.items in
    let less = c.swap_remove.new.self.items in
    All-permutation Fact (drop 1 old) less
    (closed-kept g.T.Integer.rank old less less c.swap_remove.result c.swap_remove.ensures.items
    (IsPermutation-refl less)) (All-drop Fact 1 old c.self.invariant.values)

-- The last head is now the first, and the others are where they were.
pub sift_down-requires-clause-order : goal.sift_down-requires-clause-order
sift_down-requires-clause-order g c =
    let old = c.self.inside.list.heads.items in
    let less = c.swap_remove.new.self.items in
    let same = c.swap_remove.ensures.len in
    let short : length less + 1 ≡ length old =
    omega (arith, same, c.self.inside.list.heads.ok.0, c.swap_remove.new.self.ok.0) in
    agreed-heap g.T.Integer.rank old less c.self.invariant.order (omega (arith, short))
    (λ place other some within. c.swap_remove.ensures.by_index.1 place other some
    (omega (arith, within, short, c.self.inside.list.heads.ok.0)))

-- The heads behind the first are kept, in another order.
moved : (g : Over) (c : goal.After-sift_down g)
    → IsPermutation (drop 1 c.self.inside.list.heads.items) c.sift_down.new.self.heads.items
moved g c = closed-kept g.T.Integer.rank c.self.inside.list.heads.items c.swap_remove.new.self.items
    c.sift_down.new.self.heads.items c.swap_remove.result c.swap_remove.ensures.items
    c.sift_down.ensures.kept

-- At most one of them belongs to each input.
one : (g : Over) (c : goal.After-sift_down g) → HasOneOfEach (drop 1 c.self.inside.list.heads.items)
one g c = subst (λ is_open. HasOneOfEach (counted_heads is_open c.self.inside.list.heads.items))
    c.if-self.true c.self.invariant.one

-- They are the heads that counted before.
were : (g : Over) (c : goal.After-sift_down g)
    → drop 1 c.self.inside.list.heads.items ≡ c.args.self.now.heads
were g c = ap (λ is_open. counted_heads is_open c.self.inside.list.heads.items) (sym c.if-self.true)
    ∙ ap (λ before. before.heads) c.self.view_is

-- They have values, and the sift puts them in order.
pub invariant_of-self : goal.invariant_of-self
invariant_of-self g c =
    let Fact = HasValues g.T.Integer.rank g.T.Integer.value_count in
    let old = c.self.inside.list.heads.items in
    let new = c.sift_down.new.self.heads.items in
    record {
      values = All-permutation Fact (drop 1 old) new (moved g c)
          (All-drop Fact 1 old c.self.invariant.values);
      order = c.sift_down.ensures.order;
      some = λ yes. absurd (cc);
      one = one-permutation (drop 1 old) new (moved g c) (one g c);
    }

pub returns-then-self-clause-heads : goal.returns-then-self-clause-heads
returns-then-self-clause-heads g c = λ input.
    let old = c.self.inside.list.heads.items in
    head_of-permutation (drop 1 old) c.sift_down.new.self.heads.items (moved g c) (one g c) input
    ∙ ap (λ heads. head_of heads input) (were g c)

pub returns-then-self-clause-count : goal.returns-then-self-clause-count
returns-then-self-clause-count g c =
    length_permutation (drop 1 c.self.inside.list.heads.items) c.sift_down.new.self.heads.items
    (moved g c) ∙ ap (λ heads. length heads) (were g c)

-- The only comparisons are those of the sift.
pub returns-then-self-clause-compared : goal.returns-then-self-clause-compared
returns-then-self-clause-compared g c =
    let old = c.self.inside.list.heads.items in
    let new = c.sift_down.new.self.heads.items in
    let same = ap binary_digits (length_permutation (drop 1 old) new (moved g c)) in
    subst (λ before. c.sift_down.new.self.comparisons.made ≤ before.comparisons
    + closing_bound before)
    c.self.view_is (rw c.if-self.true (omega (arith, c.sift_down.ensures.compared, same)))
