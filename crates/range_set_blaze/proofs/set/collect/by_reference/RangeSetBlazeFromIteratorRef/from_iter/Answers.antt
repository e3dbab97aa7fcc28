use Rattle.std.proofs.lemmas.Result.{IfOk-weaker}
use Rattle.range_set_blaze.specs.Algebra.{ranks_of}
use Rattle.rsb_storage.specs.Set.{IsSetOf}
use Rattle.range_set_blaze.proofs.lemmas.gathering.LentItems.{copied-gave}
use Rattle.range_set_blaze.proofs.set.collect.by_reference.RangeSetBlazeFromIteratorRef.from_iter.Goals as goal

-- The values are those that the references point to.
pub returns : goal.returns
returns g c = record {
  ran = IfOk-weaker c.from_iter_values.result _ _
      (λ set gave.
      let lent = copied-gave g.J.IntoIter.Iterator.next_gives g.J.IntoIterator.into_iter_gives
      c.args.values c.into_iter.result c.copied.result
      (λ values. IsSetOf set (ranks_of g.T.Integer.rank values))
      c.into_iter.ensures.into_iter_gives c.copied.ensures.source gave in (
        lent.0,
        lent.1,
        lent.2,
        (lent.3.1.0, lent.3.1.1, λ complete. (lent.3.0, lent.3.1.2)),
        lent.4,
      ))
      c.from_iter_values.ensures.members;
}
