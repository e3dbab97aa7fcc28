use Rattle.std.proofs.lemmas.Result.{IfOk-weaker}
use Rattle.range_set_blaze.proofs.lemmas.gathering.Pieces.{fewer-common}
use Rattle.range_set_blaze.proofs.set.RangeSetBlaze.bitand.Goals as goal

-- The result has the ranks that both sets have.
pub returns-clause-members : goal.returns-clause-members
returns-clause-members g c =
    IfOk-weaker c.kept_of.result _ _ (λ set is. is.exact) c.kept_of.ensures

-- So it has fewer runs than both together.
pub returns-clause-run_count : goal.returns-clause-run_count
returns-clause-run_count g c = IfOk-weaker c.kept_of.result _ _
    (λ set is. fewer-common g.T.Integer.value_count c.args.self.now c.args.other.now set is.left
    is.right is.made is.exact) c.kept_of.ensures
