use Rattle.std.proofs.Common.{◌∙◌}
use Rattle.std.proofs.lemmas.Result.{IfOk-weaker}
use Rattle.rsb_integer.specs.Rank.{intervals_of}
use Rattle.rsb_integer.specs.Runs.{members}
use Rattle.rsb_streams.proofs.lemmas.sorting.Collected.{gathered}
use Rattle.rsb_many.proofs.lemmas.inputs.HandedIn.{gave-run}
use Rattle.rsb_storage.specs.Set.{IsSetOf}
use Rattle.range_set_blaze.proofs.set.RangeSetBlaze.from_iter.Goals as goal

-- The kept ranges are non-empty.
pub from_list-requires : goal.from_list-requires
from_list-requires g c =
    let ran = c.in_ok-kept.ensures.ran in
    let came = gathered g.T.Integer.rank g.T.Integer.value_count g.J.IntoIter.Iterator.next_gives
    c.into_iter.result c.new-joined.result ran.0 ran.3.0 ran.1 c.in_ok-kept.kept.items
    c.new-joined.ensures.gives ran.2 ran.3.1 (ran.3.2 tt) ran.4.0 in
    came.collects.proper

-- They have the members of those that came.
pub returns-clause-members : goal.returns-clause-members
returns-clause-members g c =
    let ran = c.in_ok-kept.ensures.ran in
    let came = gathered g.T.Integer.rank g.T.Integer.value_count g.J.IntoIter.Iterator.next_gives
    c.into_iter.result c.new-joined.result ran.0 ran.3.0 ran.1 c.in_ok-kept.kept.items
    c.new-joined.ensures.gives ran.2 ran.3.1 (ran.3.2 tt) ran.4.0 in
    IfOk-weaker c.from_list.result _ _
    (λ set is. (
      c.into_iter.result,
      came.items,
      c.into_iter.ensures.into_iter_gives,
      came.drains,
      λ place. is place ∙ came.collects.same place,
    ))
    c.from_list.ensures

-- The same, stated by `GaveRun`.
pub returns-clause-runs : goal.returns-clause-runs
returns-clause-runs g c = IfOk-weaker c.from_list.result _ _
    (λ set gave. gave-run g.J.IntoIterator.into_iter_gives g.J.IntoIter.Iterator.next_gives
    c.args.ranges (λ items. IsSetOf set (members (intervals_of g.T.Integer.rank items))) gave)
    (returns-clause-members g c)
