use Rattle.range_set_blaze.proofs.lemmas.elements.Listed.{whole-over}
use Rattle.range_set_blaze.proofs.set.RangeSetBlaze.iter.Goals as goal

-- Nothing has been taken from the runs yet.
pub returns : goal.returns
returns g c =
    let over = whole-over g.T.Integer.rank g.T.Integer.value_count c.over.result c.over.ensures
    c.ranges-2.ensures.ready c.ranges-2.ensures.ranges in
    record { runs = over.runs; ready = over.ready; ready_back = over.ready_back }
