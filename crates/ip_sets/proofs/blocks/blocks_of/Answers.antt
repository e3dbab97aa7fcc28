use Rattle.std.proofs.Common.{subst, sym, All}
use Rattle.range_set_blaze.specs.Runs.{members}
use Rattle.ip_sets.specs.Blocks.{AreMaximalBlocks}
use Rattle.ip_sets.specs.BlocksLeft.{block_runs, blocks_may_give, IsAligned}
use Rattle.ip_sets.proofs.lemmas.aligned.Left.{all-aligned, all-given}
use Rattle.ip_sets.proofs.blocks.blocks_of.Goals as goal

-- The blocks that the calls gave are those of a list that the stream may give.
pub returns-clause-blocks : goal.returns-clause-blocks
returns-clause-blocks g c =
    let runs_of = block_runs g.T.Integer.rank g.T.Address.width in
    let given = all-given g.T.Integer.rank g.T.Address.width g.I.Draw.may_give
    c.loop-block.yielded c.into_iter-block-iterator.result c.loop-block.block-iterator
    c.next.new.self c.loop-block.yielded_by c.in-None.ensures.steps in
    let at = c.new-block-items.ensures.gives (runs_of c.loop-block.yielded)
    (subst (λ each. blocks_may_give g.T.Integer.rank g.I.Draw.may_give each
    (runs_of c.loop-block.yielded)) c.into_iter-block-iterator.ensures.into_iter_gives given) in (
      at.0,
      at.1,
      subst (λ items. AreMaximalBlocks (members at.0) (runs_of items))
          (sym c.loop-block.invariant) at.2,
    )

-- Each of them is aligned.
pub returns-clause-aligned : goal.returns-clause-aligned
returns-clause-aligned g c =
    subst (All (IsAligned g.T.Integer.rank g.T.Address.width)) (sym c.loop-block.invariant)
    (all-aligned g.T.Integer.rank g.T.Address.width g.I.Draw.may_give c.loop-block.yielded
    c.into_iter-block-iterator.result c.loop-block.block-iterator c.loop-block.yielded_by)
