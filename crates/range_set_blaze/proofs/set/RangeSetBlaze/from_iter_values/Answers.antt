use Rattle.std.proofs.lemmas.Result.{IfOk-weaker}
use Rattle.range_set_blaze.specs.Algebra.{ranks_of}
use Rattle.rsb_storage.specs.Set.{IsSetOf}
use Rattle.rsb_many.proofs.lemmas.inputs.HandedIn.{gave-run}
use Rattle.range_set_blaze.proofs.lemmas.gathering.SingleValues.{singles-gave}
use Rattle.range_set_blaze.proofs.set.RangeSetBlaze.from_iter_values.Goals as goal

-- Each range has one of the values.
pub returns-clause-members : goal.returns-clause-members
returns-clause-members g c = IfOk-weaker c.from_iter.result _ _ (λ set.
    singles-gave g.T.Integer.rank g.J.IntoIter.Iterator.next_gives g.J.IntoIterator.into_iter_gives
    c.args.values c.into_iter.result c.new-singles.result set c.into_iter.ensures.into_iter_gives
    c.new-singles.ensures) c.from_iter.ensures.members

-- The same, stated by `GaveRun`.
pub returns-clause-runs : goal.returns-clause-runs
returns-clause-runs g c = IfOk-weaker c.from_iter.result _ _
    (λ set. gave-run g.J.IntoIterator.into_iter_gives g.J.IntoIter.Iterator.next_gives
    c.args.values (λ items. IsSetOf set (ranks_of g.T.Integer.rank items)))
    (returns-clause-members g c)
