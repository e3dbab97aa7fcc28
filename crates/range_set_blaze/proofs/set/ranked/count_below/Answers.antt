use Rattle.std.proofs.Common.{◌<◌}
use Rattle.std.proofs.lemmas.List.Elements.{All-head}
use Rattle.rsb_integer.specs.Runs.{Interval}
use Rattle.rsb_storage.specs.Storage.{run_of, runs_of}
use Rattle.range_set_blaze.proofs.lemmas.ranking.Counted.{counted-all, counted-fits, counted-next, counted-past}
use Rattle.range_set_blaze.proofs.set.ranked.count_below.Goals as goal

-- The next run ends within the type.
pub part_below-requires-clause-run : goal.part_below-requires-clause-run
part_below-requires-clause-run g c =
    let rank = g.T.Integer.rank in
    All-head (λ (each : Interval). each.last < g.T.Integer.value_count)
    (run_of rank c.in-Some.run') (runs_of rank c.next_run.new.entries)
    (rw c.in-Some.ensures at c.loop-run.invariant).canonical.within

-- If none of it is below the value, all members below the value are counted.
pub returns-in_default-part_below : goal.returns-in_default-part_below
returns-in_default-part_below g c =
    let rank = g.T.Integer.rank in
    counted-past _ c.args.runs.now (runs_of rank c.next_run.new.entries)
    (run_of rank c.in-Some.run') _ _ (rw c.in-Some.ensures at c.loop-run.invariant)
    c.in_default-part_below.ensures

-- Otherwise the part of it below the value is counted too.
pub add_length-requires-clause-fits : goal.add_length-requires-clause-fits
add_length-requires-clause-fits g c =
    let rank = g.T.Integer.rank in
    counted-fits _ c.args.runs.now (runs_of rank c.next_run.new.entries)
    (run_of rank c.in-Some.run') _ _ (rw c.in-Some.ensures at c.loop-run.invariant)
    (run_of rank c.in-Some-part_below.part) c.in-Some-part_below.ensures

pub loop-run-preserved : goal.loop-run-preserved
loop-run-preserved g c =
    let rank = g.T.Integer.rank in
    rw c.add_length.ensures
    (counted-next _ c.args.runs.now (runs_of rank c.next_run.new.entries)
    (run_of rank c.in-Some.run') _ _ (rw c.in-Some.ensures at c.loop-run.invariant)
    (run_of rank c.in-Some-part_below.part) c.in-Some-part_below.ensures)

-- If no run is left, all members below the value are counted.
pub returns : goal.returns
returns g c =
    counted-all _ c.args.runs.now _ _
    (rw c.in_default.ensures at c.loop-run.invariant)
