use Rattle.std.proofs.Common.{refl}
use Rattle.ip_sets.proofs.lemmas.aligned.Left.{none-gives, none-goes, split-gives, split-goes}
use Rattle.ip_sets.proofs.blocks.BlocksIterator.next.Goals as goal

-- Nothing is left.
pub returns-in_err-span-clause-steps : goal.returns-in_err-span-clause-steps
returns-in_err-span-clause-steps g c = rw c.from_residual.ensures
    (none-gives g.T.Integer.rank g.T.Integer.value_count g.I.Draw.can_draw g.I.Draw.may_give
    g.I.Draw.draws_left g.T.Address.width c.args.self.now _ c.in_err-span.ensures)

pub returns-in_err-span-clause-goes : goal.returns-in_err-span-clause-goes
returns-in_err-span-clause-goes g c = rw c.from_residual.ensures
    (none-goes g.T.Integer.rank g.T.Integer.value_count g.I.Draw.can_draw g.I.Draw.may_give
    g.I.Draw.draws_left g.T.Address.width c.args.self.now _ c.in_err-span.ensures)

-- The biggest block at the start of the span comes first.
pub returns-clause-steps : goal.returns-clause-steps
returns-clause-steps g c =
    split-gives g.T.Integer.rank g.T.Integer.value_count g.I.Draw.can_draw g.I.Draw.may_give
    g.I.Draw.draws_left g.T.Address.width c.args.self.now c.next_span.new.self
    c.in_ok-span.span _ _ c.requires c.in_ok-span.ensures c.split-block.ensures _ refl refl

pub returns-clause-goes : goal.returns-clause-goes
returns-clause-goes g c =
    split-goes g.T.Integer.rank g.T.Integer.value_count g.I.Draw.can_draw g.I.Draw.may_give
    g.I.Draw.draws_left g.T.Address.width c.args.self.now c.next_span.new.self
    c.in_ok-span.span _ _ c.requires c.in_ok-span.ensures c.split-block.ensures _ refl refl
