use Rattle.std.proofs.Common.{◌≡◌, ◌+◌, ◌++◌, ap, arith, suc, zero}
use Rattle.rsb_integer.specs.Runs.{length_of}
use Rattle.rsb_storage.specs.Storage.{run_of, runs_of}
use Rattle.range_set_blaze.specs.Retain.{ascending_ranks, ranks_from}
use Rattle.range_set_blaze.proofs.lemmas.gathering.AskedValues.{below-lower, left_runs-next, ranks_from-first}
use Rattle.range_set_blaze.proofs.set.retain.next_left.Goals as goal

-- If the run has more values, they are left.
pub returns-then-starts_before : goal.returns-then-starts_before
returns-then-starts_before g c =
    let rank = g.T.Integer.rank in
    let rest = runs_of rank c.args.entries.now in
    let more = c.starts_before.ensures.0 c.if-starts_before.true in
    let next = c.add_one.ensures in
    record {
      canonical = (omega (arith, next), omega (arith, next, more), c.requires.value, c.requires.later);
      listed = rw next (ap (λ ranks. ranks ++ ascending_ranks rest)
          (ranks_from-first (rank c.args.run.start) (rank c.args.run.end) c.requires.order));
    }

-- Otherwise the next run is left.
pub returns : goal.returns
unfolding ranks_from
returns g c =
    let rank = g.T.Integer.rank in
    let run = run_of rank c.args.run in
    let rest = runs_of rank c.args.entries.now in
    let order = c.requires.order in
    let count : length_of run ≡ suc zero =
    grind (arith, order, c.starts_before.ensures.1, c.if-starts_before.false) in
    rw (left_runs-next rank c.next_run.result c.args.entries.now c.next_run.new.entries c.next_run.ensures)
    (record {
      canonical = below-lower g.T.Integer.value_count (run.last + 2) (run.first + 1) rest
          (omega (arith, order)) c.requires.later;
      listed = ap (λ count. ranks_from run.first count ++ ascending_ranks rest) count;
    })
