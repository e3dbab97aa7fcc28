use Rattle.std.proofs.lemmas.Result.{on_ok_weaker}
use Rattle.range_set_blaze.proofs.lemmas.insertion.Bounds.{adds-only}
use Rattle.range_set_blaze.proofs.set.RangeSetBlaze.insert.Goals as goal

-- The range from a value to itself has only that value.
pub returns-clause-members : goal.returns-clause-members
returns-clause-members g c =
    on_ok_weaker c.ranges_insert.result
    (adds-only c.args.self.now c.ranges_insert.new.self (g.T.Integer.rank c.args.value))
    (rw (c.new.ensures.start, c.new.ensures.end) at
    (c.ranges_insert.ensures.members c.new.ensures.exhausted))
