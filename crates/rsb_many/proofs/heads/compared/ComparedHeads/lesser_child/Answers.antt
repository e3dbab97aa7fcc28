use Rattle.std.proofs.Common.{arith, sym, ◌∙◌}
use Rattle.rsb_many.proofs.lemmas.heap.Heads.{left-lesser, right-lesser}
use Rattle.rsb_many.proofs.heads.compared.ComparedHeads.lesser_child.Goals as goal

-- The right child comes before the left one.
pub returns-then-comes_first-clause-child : goal.returns-then-comes_first-clause-child
returns-then-comes_first-clause-child g c =
    right-lesser g.T.Integer.rank c.args.self.now.heads.items c.args.place c.index.result.now
    (omega (arith, c.if-right-len.false, c.len.ensures, c.args.self.now.heads.ok.0)) c.index.ensures
    (λ other. sym (c.comes_first.ensures.first other) ∙ c.if-comes_first.true)

-- The right child does not come before the left one.
pub returns-else-comes_first-clause-child : goal.returns-else-comes_first-clause-child
returns-else-comes_first-clause-child g c =
    left-lesser g.T.Integer.rank c.args.self.now.heads.items c.args.place c.index.result.now
    (omega (arith, c.if-right-len.false, c.len.ensures, c.args.self.now.heads.ok.0)) c.index.ensures
    (λ other. sym (c.comes_first.ensures.first other) ∙ c.if-comes_first.false)
