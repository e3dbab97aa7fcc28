use Rattle.std.proofs.Common.{ap}
use Rattle.rsb_integer.specs.Rank.{interval_of, intervals_of}
use Rattle.rsb_integer.specs.Runs.{members}
use Rattle.rsb_integer.specs.Selection.{intersection}
use Rattle.range_set_blaze.specs.FirstFit.{IsFirstFit}
use Rattle.range_set_blaze.specs.Split.{from_on}
use Rattle.range_set_blaze.proofs.lemmas.fitting.FirstFits.{passed-all, passed-fit, passed-next}
use Rattle.range_set_c.proofs.lemmas.Fitting.{falls-short, fit-along, members-from, shorter-along}
use Rattle.range_set_c.proofs.long_run.first_run_from.Given.{Over}
use Rattle.range_set_c.proofs.long_run.first_run_from.Goals as goal
use Rattle.range_set_c.proofs.long_run.first_run_from.Goals.{Then-is_long}

-- If the next run is long enough, it is the first such run.
abbrev found-long : (g : Over) (c : Then-is_long g)
    → IsFirstFit g.T.Integer.value_count
    (intersection (members c.args.set.now) (from_on (g.T.Integer.rank c.args.value)))
    (g.T.SafeLen.SafeLength.number c.args.len) (interval_of g.T.Integer.rank c.in-Some.range)
found-long g c =
    let rank = g.T.Integer.rank in
    let runs = intervals_of rank c.ranges_in-ranges.result in
    let all = c.ranges_in-ranges.ensures in
    fit-along _ _ _
    (members-from _ c.args.set.now runs _ _ (rank c.args.value) _ (ap rank c.new.ensures.start)
    (ap rank c.new.ensures.end) c.max_value.ensures (all.members c.new.ensures.exhausted)) _
    (interval_of rank c.in-Some.range)
    (passed-fit _ _ runs all.ready (interval_of rank c.in-Some.range)
    (intervals_of rank c.next.new.self) (rw c.in-Some.ensures.steps at c.loop-range.invariant.2)
    (c.is_long.ensures.0 c.if-is_long.true))

pub returns-then-is_long-clause-run : goal.returns-then-is_long-clause-run
returns-then-is_long-clause-run g c = (found-long g c).maximal

pub returns-then-is_long-clause-first : goal.returns-then-is_long-clause-first
returns-then-is_long-clause-first g c = (found-long g c).first

-- Otherwise it is passed.
pub loop-range-preserved : goal.loop-range-preserved
loop-range-preserved g c =
    let rank = g.T.Integer.rank in
    let runs = intervals_of rank c.ranges_in-ranges.result in
    let left = passed-next _ _ runs c.ranges_in-ranges.ensures.ready
    (interval_of rank c.in-Some.range) (intervals_of rank c.next.new.self)
    (rw c.in-Some.ensures.steps at c.loop-range.invariant.2)
    (falls-short c.is_long.result _ _ c.is_long.ensures c.if-is_long.false) in
    (left.canonical, tt, left)

-- If no run is left, every run is too short.
pub returns-clause-none : goal.returns-clause-none
returns-clause-none g c none =
    let rank = g.T.Integer.rank in
    let runs = intervals_of rank c.ranges_in-ranges.result in
    let all = c.ranges_in-ranges.ensures in
    shorter-along _ _ _
    (members-from _ c.args.set.now runs _ _ (rank c.args.value) _ (ap rank c.new.ensures.start)
    (ap rank c.new.ensures.end) c.max_value.ensures (all.members c.new.ensures.exhausted)) _
    (passed-all _ _ runs all.ready (rw c.in_default.ensures.steps.0 at c.loop-range.invariant.2))
