use Rattle.std.proofs.Common.{◌+◌, ◌*◌, ◌≤◌, ◌∷◌, drop, length, refl, set, sym, subst, arith, IsPermutation}
use Rattle.std.proofs.lemmas.List.Elements.{All-cons, All-drop}
use Rattle.std.proofs.lemmas.List.Sorted.{length_permutation, All-permutation, IsPermutation-refl}
use Rattle.rsb_many.specs.Heads.{binary_digits, HasValues}
use Rattle.rsb_many.specs.HeapOrder.{counted_heads, HasOneOfEach, IsHeapButLast}
use Rattle.rsb_many.proofs.lemmas.heap.Heads.{filled-heap, filled-kept, pushed-heap, pushed-kept}
use Rattle.rsb_many.proofs.lemmas.heap.HeadsIn.{pushed-in, pushed-one}
use Rattle.rsb_many.proofs.heads.Heads.push.Given.{Over}
use Rattle.rsb_many.proofs.heads.Heads.push.Goals as goal

-- ---- the place at the top is open

pub sift_down-requires-clause-values : goal.sift_down-requires-clause-values
sift_down-requires-clause-values g c =
    let Fact = HasValues g.T.Integer.rank g.T.Integer.value_count in
    let old = c.self.inside.list.heads.items in
    let more = set old 0 c.args.head in
    let some = c.self.invariant.some c.if-self.true in
    All-permutation Fact (c.args.head ∷ drop 1 old) more
    (filled-kept g.T.Integer.rank old more more c.args.head some refl (IsPermutation-refl more))
    (All-cons Fact c.args.head (drop 1 old) c.requires.values
    (All-drop Fact 1 old c.self.invariant.values))

pub sift_down-requires-clause-order : goal.sift_down-requires-clause-order
sift_down-requires-clause-order g c =
    let old = c.self.inside.list.heads.items in
    filled-heap g.T.Integer.rank old (set old 0 c.args.head) c.args.head refl
    c.self.invariant.order

-- The new head and those behind the first are kept, in another order.
filled : (g : Over) (c : goal.After-sift_down g)
    → IsPermutation (c.args.head ∷ drop 1 c.self.inside.list.heads.items) c.sift_down.new.self.heads.items
filled g c =
    let old = c.self.inside.list.heads.items in
    filled-kept g.T.Integer.rank old (set old 0 c.args.head) c.sift_down.new.self.heads.items
    c.args.head (c.self.invariant.some c.if-self.true) refl c.sift_down.ensures.kept

-- So the heads are the new one and those that counted before.
filled-before : (g : Over) (c : goal.After-sift_down g)
    → IsPermutation (c.args.head ∷ c.args.self.now.heads) c.sift_down.new.self.heads.items
filled-before g c =
    let items = c.self.inside.list.heads.items in
    let new = c.sift_down.new.self.heads.items in
    subst (λ before. IsPermutation (c.args.head ∷ before.heads) new) c.self.view_is
    (subst (λ is_open. IsPermutation (c.args.head ∷ counted_heads is_open items) new)
    (sym c.if-self.true) (filled g c))

pub invariant_of-self : goal.invariant_of-self
invariant_of-self g c =
    let Fact = HasValues g.T.Integer.rank g.T.Integer.value_count in
    let old = c.self.inside.list.heads.items in
    record {
      values = All-permutation Fact (c.args.head ∷ drop 1 old) c.sift_down.new.self.heads.items
          (filled g c) (All-cons Fact c.args.head (drop 1 old) c.requires.values
          (All-drop Fact 1 old c.self.invariant.values));
      order = c.sift_down.ensures.order;
      some = λ yes. absurd (cc);
      one = pushed-one c.args.head c.args.self.now.heads c.sift_down.new.self.heads.items
          (filled-before g c) c.requires.none
          (subst (λ before. HasOneOfEach before.heads) c.self.view_is c.self.invariant.one);
    }

pub returns-then-self-clause-heads : goal.returns-then-self-clause-heads
returns-then-self-clause-heads g c = pushed-in c.args.head c.args.self.now.heads
    c.sift_down.new.self.heads.items (filled-before g c) c.requires.none
    (subst (λ before. HasOneOfEach before.heads) c.self.view_is c.self.invariant.one)

pub returns-then-self-clause-count : goal.returns-then-self-clause-count
returns-then-self-clause-count g c =
    let long = length_permutation (c.args.head ∷ c.args.self.now.heads)
    c.sift_down.new.self.heads.items (filled-before g c) in
    omega (arith, long)

pub returns-then-self-clause-compared : goal.returns-then-self-clause-compared
returns-then-self-clause-compared g c =
    let new = c.sift_down.new.self in
    subst (λ before. new.comparisons.made
    ≤ before.comparisons + 2 * binary_digits (length new.heads.items)) c.self.view_is
    c.sift_down.ensures.compared

-- ---- the place at the top is not open

-- The new head and all others are kept, in another order.
added : (g : Over) (c : goal.After-sift_up g)
    → IsPermutation (c.args.head ∷ c.self.inside.list.heads.items) c.sift_up.new.self.heads.items
added g c = pushed-kept g.T.Integer.rank c.self.inside.list.heads.items c.push_reserved.new.self.items
    c.sift_up.new.self.heads.items c.args.head c.push_reserved.ensures.items c.sift_up.ensures.kept

-- So the heads are the new one and those that counted before.
added-before : (g : Over) (c : goal.After-sift_up g)
    → IsPermutation (c.args.head ∷ c.args.self.now.heads) c.sift_up.new.self.heads.items
added-before g c =
    let items = c.self.inside.list.heads.items in
    let new = c.sift_up.new.self.heads.items in
    subst (λ before. IsPermutation (c.args.head ∷ before.heads) new) c.self.view_is
    (subst (λ is_open. IsPermutation (c.args.head ∷ counted_heads is_open items) new)
    (sym c.if-self.false) (added g c))

pub sift_up-requires-clause-values : goal.sift_up-requires-clause-values
sift_up-requires-clause-values g c =
    let Fact = HasValues g.T.Integer.rank g.T.Integer.value_count in
    let old = c.self.inside.list.heads.items in
    let more = c.push_reserved.new.self.items in
    All-permutation Fact (c.args.head ∷ old) more
    (pushed-kept g.T.Integer.rank old more more c.args.head c.push_reserved.ensures.items
    (IsPermutation-refl more)) (All-cons Fact c.args.head old c.requires.values
    c.self.invariant.values)

-- The new head is last, and the others are where they were.
pub sift_up-requires-clause-order : goal.sift_up-requires-clause-order
sift_up-requires-clause-order g c =
    subst (IsHeapButLast g.T.Integer.rank) (sym c.push_reserved.ensures.items)
    (pushed-heap g.T.Integer.rank c.self.inside.list.heads.items c.args.head c.self.invariant.order)

pub invariant_of-self-else-self : goal.invariant_of-self-else-self
invariant_of-self-else-self g c =
    let Fact = HasValues g.T.Integer.rank g.T.Integer.value_count in
    let old = c.self.inside.list.heads.items in
    record {
      values = All-permutation Fact (c.args.head ∷ old) c.sift_up.new.self.heads.items (added g c)
          (All-cons Fact c.args.head old c.requires.values c.self.invariant.values);
      order = c.sift_up.ensures.order;
      some = λ yes. absurd (let no = c.if-self.false in cc);
      one = rw c.if-self.false (pushed-one c.args.head c.args.self.now.heads
          c.sift_up.new.self.heads.items (added-before g c) c.requires.none
          (subst (λ before. HasOneOfEach before.heads) c.self.view_is c.self.invariant.one));
    }

pub returns-else-self-clause-heads : goal.returns-else-self-clause-heads
returns-else-self-clause-heads g c = rw c.if-self.false (pushed-in c.args.head c.args.self.now.heads
    c.sift_up.new.self.heads.items (added-before g c) c.requires.none
    (subst (λ before. HasOneOfEach before.heads) c.self.view_is c.self.invariant.one))

pub returns-else-self-clause-count : goal.returns-else-self-clause-count
returns-else-self-clause-count g c =
    let long = length_permutation (c.args.head ∷ c.args.self.now.heads)
    c.sift_up.new.self.heads.items (added-before g c) in
    rw c.if-self.false (omega (arith, long))

pub returns-else-self-clause-compared : goal.returns-else-self-clause-compared
returns-else-self-clause-compared g c =
    let new = c.sift_up.new.self in
    subst (λ before. new.comparisons.made ≤ before.comparisons
    + 2 * binary_digits (length (counted_heads c.self.inside.is_open new.heads.items)))
    c.self.view_is
    (rw c.if-self.false (omega (arith, c.sift_up.ensures.compared)))
