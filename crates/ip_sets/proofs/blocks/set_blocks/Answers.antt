use Rattle.std.proofs.Common.{◌∙◌}
use Rattle.std.proofs.lemmas.Result.{IfOk-weaker}
use Rattle.range_set_blaze.specs.Runs.{members}
use Rattle.ip_sets.specs.BlocksLeft.{block_runs}
use Rattle.ip_sets.proofs.lemmas.aligned.Fewest.{maximal-blocks, maximal-fewest, maximal-same}
use Rattle.ip_sets.proofs.blocks.set_blocks.Goals as goal

pub returns-clause-exact : goal.returns-clause-exact
returns-clause-exact g c = IfOk-weaker c.blocks_of.result _ _ (λ blocks at.
    let list = block_runs g.T.Integer.rank g.T.Address.width blocks.items in
    maximal-blocks (members c.args.set.now) list
    (maximal-same at.0 c.args.set.now list (at.1 ∙ c.ranges-2.ensures.ranges) at.2))
    c.blocks_of.ensures.blocks

pub returns-clause-ascending : goal.returns-clause-ascending
returns-clause-ascending g c = IfOk-weaker c.blocks_of.result _ _ (λ blocks at. at.2.ascending)
    c.blocks_of.ensures.blocks

pub returns-clause-fewest : goal.returns-clause-fewest
returns-clause-fewest g c = IfOk-weaker c.blocks_of.result _ _ (λ blocks at.
    let list = block_runs g.T.Integer.rank g.T.Address.width blocks.items in
    maximal-fewest (members c.args.set.now) list
    (maximal-same at.0 c.args.set.now list (at.1 ∙ c.ranges-2.ensures.ranges) at.2))
    c.blocks_of.ensures.blocks
