use Rattle.rsb_storage.specs.Storage.{run_of, runs_of}
use Rattle.range_set_blaze.proofs.lemmas.fitting.FirstFits.{passed-all, passed-fit, passed-next}
use Rattle.rsb_storage.proofs.lemmas.runs.Storage.{le-fails}
use Rattle.range_set_blaze.proofs.set.first_fit.long_run.Goals as goal

-- If the next run is long enough, it is the first such run.
pub returns-then-is_long : goal.returns-then-is_long
returns-then-is_long g c =
    let rank = g.T.Integer.rank in
    passed-fit _ _ c.args.runs.now c.requires (run_of rank c.in-Some.run')
    (runs_of rank c.next_run.new.entries) (rw c.in-Some.ensures at c.loop-run.invariant)
    (c.is_long.ensures.0 c.if-is_long.true)

-- Otherwise it is passed.
pub loop-run-preserved : goal.loop-run-preserved
loop-run-preserved g c =
    let rank = g.T.Integer.rank in
    passed-next _ _ c.args.runs.now c.requires (run_of rank c.in-Some.run')
    (runs_of rank c.next_run.new.entries) (rw c.in-Some.ensures at c.loop-run.invariant)
    (le-fails c.is_long.result _ _ c.is_long.ensures c.if-is_long.false)

-- If no run is left, every run is too short.
pub returns : goal.returns
returns g c =
    passed-all _ _ c.args.runs.now c.requires
    (rw c.in_default.ensures at c.loop-run.invariant)
