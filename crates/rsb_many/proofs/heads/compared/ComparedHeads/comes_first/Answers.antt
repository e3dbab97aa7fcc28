use Rattle.std.proofs.Common.{◌≡◌, ap, sym, ◌∙◌}
use Rattle.std.proofs.lemmas.List.Sorted.{IsPermutation-refl}
use Rattle.std.proofs.Math.Bool.{beq}
use Rattle.std.specs.Prelude.{nat_lt, not, ◌&&◌, ◌||◌}
use Rattle.rsb_many.specs.Heads.{key_of, HasValues}
use Rattle.rsb_many.specs.Keys.{comes_before}
use Rattle.rsb_many.proofs.lemmas.heap.Heads.{fact-at, key_at-is}
use Rattle.rsb_many.proofs.lemmas.heap.Keys.{comes_before-parts}
use Rattle.rsb_many.proofs.heads.compared.ComparedHeads.comes_first.Goals as goal

-- Values compare as their ranks do.
pub returns-clause-first : goal.returns-clause-first
returns-clause-first g c = λ none.
    let rank = g.T.Integer.rank in
    let items = c.args.self.now.heads.items in
    let head = c.index-one.result.now in
    let one = key_of rank head in
    let other = key_of rank c.args.other.now in
    let values : HasValues rank g.T.Integer.value_count head =
    fact-at rank (HasValues rank g.T.Integer.value_count) items items c.requires.values
    (IsPermutation-refl items) c.args.place head c.requires.place c.index-one.ensures in
    let order = g.met.T.Integer.in_order head.at c.args.other.now.at values.at
    c.requires.other.at in
    let is = key_at-is rank items c.args.place head none c.requires.place c.index-one.ensures in
    let told : (c.is_lt.result || (c.is_eq.result
    && ((beq head.started c.args.other.now.started && nat_lt head.input c.args.other.now.input)
    || (not head.started && c.args.other.now.started)))) ≡ comes_before one other =
    rw (
      c.is_lt.ensures,
      c.is_eq.ensures,
      c.cmp-order.ensures,
      order,
      values.stands,
      c.requires.other.stands,
    )
    (comes_before-parts one other) in
    told ∙ ap (λ key. comes_before key other) (sym is)
