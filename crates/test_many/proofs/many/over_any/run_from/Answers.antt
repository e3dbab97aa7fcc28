use Rattle.std.proofs.Common.{ap, ◌∙◌}
use Rattle.rsb_integer.specs.Rank.{intervals_of}
use Rattle.range_set_blaze.proofs.GivenRuns.{given-run}
use Rattle.test_many.proofs.many.over_any.run_from.Goals as goal

-- Each range that the loop meets is a run of the set.
pub returns-then-eq : goal.returns-then-eq
returns-then-eq g c =
    let runs = c.ranges-range-items.ensures in
    given-run g.T.Integer.rank g.T.Integer.value_count c.args.set.now c.loop-range.yielded
    c.into_iter-range-iterator.result c.loop-range.range-iterator c.next.new.self c.in-Some.range
    (ap (intervals_of g.T.Integer.rank) c.into_iter-range-iterator.ensures.into_iter_gives
    ∙ runs.ranges) runs.runs c.loop-range.yielded_by c.in-Some.ensures.steps
