use Rattle.std.proofs.Common.{arith}
use Rattle.rsb_integer.proofs.lemmas.Canonical.{canonical-tail}
use Rattle.rsb_storage.specs.Storage.{run_of, runs_of}
use Rattle.rsb_storage.proofs.lemmas.runs.Storage.{sum_by-canonical}
use Rattle.rsb_storage.proofs.lemmas.splitting.Parting.{counted-next}
use Rattle.range_set_blaze.proofs.set.split.length_of_runs.Goals as goal

-- The runs that are left are canonical.
pub add_length-requires-clause-some : goal.add_length-requires-clause-some
add_length-requires-clause-some g c =
    (rw c.in-Some.ensures at c.loop-run.invariant.canonical).apart.in_order

pub add_length-requires-clause-fits : goal.add_length-requires-clause-fits
add_length-requires-clause-fits g c =
    let rank = g.T.Integer.rank in
    (counted-next g.T.Integer.value_count _ c.args.runs.now
    (runs_of rank c.next_run.new.entries) (run_of rank c.in-Some.run') c.requires
    (rw c.in-Some.ensures at c.loop-run.invariant.counted)).0

pub loop-run-preserved : goal.loop-run-preserved
loop-run-preserved g c =
    let rank = g.T.Integer.rank in
    let n = g.T.Integer.value_count in
    let rest = runs_of rank c.next_run.new.entries in
    let run = run_of rank c.in-Some.run' in
    let counted = (counted-next n _ c.args.runs.now rest run c.requires
    (rw c.in-Some.ensures at c.loop-run.invariant.counted)).1 in
    record {
      canonical = canonical-tail n run rest
          (rw c.in-Some.ensures at c.loop-run.invariant.canonical);
      counted = omega (arith, counted, c.add_length.ensures);
    }

-- If no run is left, all members are counted.
pub returns : goal.returns
returns g c =
    let rank = g.T.Integer.rank in
    let counted = rw c.in_default.ensures at c.loop-run.invariant.counted in
    let all = sum_by-canonical g.T.Integer.value_count c.args.runs.now
    c.requires in
    omega (arith, counted, all)
