use Rattle.std.proofs.lemmas.Result.{IfOk-weaker}
use Rattle.range_set_blaze.proofs.lemmas.gathering.Pieces.{few-single}
use Rattle.range_set_blaze.proofs.set.RangeSetBlaze.bitxor.Goals as goal

-- The result has the ranks that exactly one of the sets has.
pub returns-clause-members : goal.returns-clause-members
returns-clause-members g c =
    IfOk-weaker c.kept_of.result _ _ (λ set is. is.exact) c.kept_of.ensures

-- So it has at most as many runs as both together.
pub returns-clause-run_count : goal.returns-clause-run_count
returns-clause-run_count g c = IfOk-weaker c.kept_of.result _ _
    (λ set is. few-single g.T.Integer.value_count c.args.self.now c.args.other.now set is.left
    is.right is.made is.exact) c.kept_of.ensures
