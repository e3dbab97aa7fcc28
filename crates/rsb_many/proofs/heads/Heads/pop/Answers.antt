use Rattle.std.proofs.Common.{◌≡◌, ◌+◌, ◌<◌, ◌≤◌, false, [], ◌∷◌, drop, length, sym, ap, subst, ◌∙◌, arith, IsPermutation}
use Rattle.std.proofs.lemmas.Bool.{eqb-false, eqb-true}
use Rattle.std.proofs.lemmas.List.{nil_from_length}
use Rattle.std.proofs.lemmas.List.Sorted.{IsPermutation-refl}
use Rattle.std.specs.Prelude.{IsFalse, None}
use Rattle.std.specs.Vec.{vec_len}
use Rattle.rsb_many.specs.Heads.{closing_bound, head_of, key_of, HasValues}
use Rattle.rsb_many.specs.HeapOrder.{counted_heads, HasOneOfEach}
use Rattle.rsb_many.specs.Keys.{comes_before}
use Rattle.rsb_many.proofs.lemmas.heap.Heads.{fact-at, first-drop, first-least_of}
use Rattle.rsb_many.proofs.lemmas.heap.HeadsIn.{all-in, first-in, one-fewer, others-in}
use Rattle.rsb_many.proofs.heads.Heads.pop.Given.{Over}
use Rattle.rsb_many.proofs.heads.Heads.pop.Goals as goal

-- There is no head.
pub returns-then-is_empty-clause-taken : goal.returns-then-is_empty-clause-taken
returns-then-is_empty-clause-taken g c =
    let items = c.self.inside.list.heads.items in
    let none = eqb-true (vec_len c.self.inside.list.heads) 0
    (sym c.is_empty.ensures ∙ c.if-is_empty.true) in
    let nothing : items ≡ [] = nil_from_length items (omega (arith, none, c.self.inside.list.heads.ok.0)) in
    let closed : c.self.inside.is_open ≡ false =
    subst (λ kept. IsFalse kept.is_open) (sym c.self.view_is) c.close.ensures.closed in
    let now : c.close.new.self.heads ≡ [] = sym (ap (λ kept. kept.heads) c.self.view_is)
    ∙ ap (λ is_open. counted_heads is_open items) closed ∙ nothing in
    let same = ap (λ heads. length heads) now in (
      record {
        none = λ input. sym (c.close.ensures.heads input) ∙ ap (λ heads. head_of heads input) now;
        count = sym c.close.ensures.count ∙ same;
      },
      record { none = λ input. ap (λ heads. head_of heads input) now; count = same },
    )

-- There is a head.
some-there : (g : Over) (c : goal.After-result-1 g) → 0 < length c.self.inside.list.heads.items
some-there g c =
    let none = eqb-false (vec_len c.self.inside.list.heads) 0
    (sym c.is_empty.ensures ∙ c.if-is_empty.false) in
    omega (arith, none, c.self.inside.list.heads.ok.0)

-- It comes before the others in the list.
first-there : (g : Over) (c : goal.After-result-1 g)
    → c.self.inside.list.heads.items ≡ c.index.result.now ∷ drop 1 c.self.inside.list.heads.items
first-there g c = first-drop g.T.Integer.rank c.self.inside.list.heads.items c.index.result.now
    (some-there g c) c.index.ensures

-- The place was closed.
closed-there : (g : Over) (c : goal.After-result-1 g) → c.self.inside.is_open ≡ false
closed-there g c = subst (λ kept. IsFalse kept.is_open) (sym c.self.view_is) c.close.ensures.closed

-- So no other head belongs to its input.
one-there : (g : Over) (c : goal.After-result-1 g)
    → HasOneOfEach (drop 1 c.self.inside.list.heads.items)
    × (head_of (drop 1 c.self.inside.list.heads.items) c.index.result.now.input ≡ None)
one-there g c =
    let items = c.self.inside.list.heads.items in
    one-fewer c.index.result.now (drop 1 items) (subst HasOneOfEach (first-there g c)
    (subst (λ is_open. HasOneOfEach (counted_heads is_open items)) (closed-there g c)
    c.self.invariant.one))

-- The list is unchanged, and it is not empty.
pub invariant_of-self : goal.invariant_of-self
invariant_of-self g c = record {
  values = c.self.invariant.values;
  order = c.self.invariant.order;
  some = λ yes. some-there g c;
  one = (one-there g c).0;
}

-- The head that comes out is the first of a heap.
pub returns-clause-taken : goal.returns-clause-taken
returns-clause-taken g c =
    let rank = g.T.Integer.rank in
    let items = c.self.inside.list.heads.items in
    let head = c.index.result.now in
    let rest = drop 1 items in
    let now : c.close.new.self.heads ≡ head ∷ rest = sym (ap (λ kept. kept.heads) c.self.view_is)
    ∙ ap (λ is_open. counted_heads is_open items) (closed-there g c) ∙ first-there g c in
    record {
      was = sym (c.close.ensures.heads head.input) ∙ ap (λ heads. head_of heads head.input) now
          ∙ first-in head rest;
      leaves = record {
        here = (one-there g c).1;
        others = λ other differs. sym (others-in head rest other differs)
            ∙ ap (λ heads. head_of heads other) (sym now) ∙ c.close.ensures.heads other;
      };
      count = sym c.close.ensures.count ∙ ap (λ heads. length heads) now ∙ omega arith;
      least = λ input. all-in input
          (λ other. IsFalse (comes_before (key_of rank other) (key_of rank head))) rest
          (first-least_of rank items rest head c.self.invariant.order
          (some-there g c) c.index.ensures
          (subst (IsPermutation items) (first-there g c) (IsPermutation-refl items)));
    }

-- It has values.
pub returns-clause-values : goal.returns-clause-values
returns-clause-values g c =
    let items = c.self.inside.list.heads.items in
    fact-at g.T.Integer.rank (HasValues g.T.Integer.rank g.T.Integer.value_count) items items
    c.self.invariant.values (IsPermutation-refl items) 0 c.index.result.now (some-there g c)
    c.index.ensures

-- The only comparisons are those that close the place.
pub returns-clause-compared : goal.returns-clause-compared
returns-clause-compared g c =
    subst (λ kept. kept.comparisons ≤ c.args.self.now.comparisons + closing_bound c.args.self.now)
    (sym c.self.view_is) c.close.ensures.compared
