use Rattle.std.proofs.lemmas.Result.{IfOk-weaker}
use Rattle.range_set_blaze.proofs.lemmas.gathering.LentItems.{lent-gave}
use Rattle.range_set_blaze.proofs.set.collect.by_reference.RangeSetBlazeFromIteratorRefRangeInclusive.from_iter.Goals as goal

-- The ranges have the members of those that were given by reference.
pub returns : goal.returns
returns g c = record {
  ran = IfOk-weaker c.from_iter.result _ _
      (λ set gave.
      let lent = lent-gave g.T.Integer.rank g.J.IntoIter.Iterator.next_gives
      g.J.IntoIterator.into_iter_gives c.args.ranges c.into_iter.result c.new.result set
      c.into_iter.ensures.into_iter_gives c.new.ensures gave in (
        lent.0,
        lent.1,
        lent.2,
        (lent.3.1.0, lent.3.1.1, λ complete. (lent.3.0, lent.3.1.2)),
        lent.4,
      ))
      c.from_iter.ensures.members;
}
