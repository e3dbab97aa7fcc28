use Rattle.std.proofs.Common.{◌≡◌, ◌∙◌, ◌-◌, ◌^◌, ap, min, subst}
use Rattle.range_set_blaze.specs.Runs.{IsCanonicalIn, members}
use Rattle.rsb_streams.specs.Listed.{listed_may_give}
use Rattle.ip_sets.specs.Blocks.{AreMaximalBlocks}
use Rattle.ip_sets.specs.BlocksLeft.{block_runs, blocks_may_give}
use Rattle.ip_sets.proofs.lemmas.aligned.Left.{all-given}
use Rattle.ip_commands.proofs.lemmas.Lines.{as-many}
use Rattle.ip_commands.proofs.commands.count.block_count.Goals as goal

-- The runs of a set neither overlap nor touch.
pub returns-clause-canonical : goal.returns-clause-canonical
returns-clause-canonical g c =
    subst (IsCanonicalIn g.T.Integer.value_count) c.ranges-2.ensures.ranges c.ranges-2.ensures.ready

-- The blocks that came are those of the set.
pub returns-clause-count : goal.returns-clause-count
returns-clause-count g c =
    let rank = g.T.Integer.rank in
    let runs_of = block_runs rank g.T.Address.width in
    let items = c.loop-block.yielded in
    let may = listed_may_give rank (λ s. s) in
    let given = all-given rank g.T.Address.width may items c.into_iter-block-iterator.result
    c.loop-block._block-iterator c.next.new.self c.loop-block.yielded_by c.in-None.ensures.steps in
    let at = c.blocks-block-items.ensures.gives (runs_of items)
    (subst (λ each. blocks_may_give rank may each (runs_of items))
    c.into_iter-block-iterator.ensures.into_iter_gives given) in
    let runs : at.0 ≡ c.args.set.now = at.1 ∙ c.ranges-2.ensures.ranges in (
      runs_of items,
      subst (λ each. AreMaximalBlocks (members each) (runs_of items)) runs at.2,
      c.loop-block.invariant
          ∙ ap (λ many. min many (2 ^ 64 - 1)) (as-many rank g.T.Address.width items),
    )
