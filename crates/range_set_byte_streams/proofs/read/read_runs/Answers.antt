use Rattle.std.proofs.Common.{arith, refl, sym, ◌+◌, ◌-◌, ◌++◌, [], ◌∷◌, None, Some}
use Rattle.std.proofs.lemmas.Result.{err_from_is_err_and}
use Rattle.rsb_integer.specs.Runs.{from_to}
use Rattle.range_set_byte_streams.proofs.lemmas.Runs.{reads-canonical, recounted, set-read}
use Rattle.range_set_byte_streams.proofs.lemmas.Source.{past-front}
use Rattle.range_set_byte_streams.proofs.read.read_runs.Goals as goal

pub loop-index-init : goal.loop-index-init
loop-index-init g c = record {
  room = λ some.
      let room = c.requires.room (omega arith) in
      omega arith;
  reads = λ bytes first. (
    recounted bytes (g.R.Read.remaining c.args.input.now) g.T.Integer.value_count c.args.start []
        c.new-set.result None c.args.count (c.args.count - 0) (sym c.new-set.ensures) (omega arith) first,
    λ begins. begins,
  );
}

-- The next run is wrong, or cannot be read.
pub returns-in_err-run-clause-fault : goal.returns-in_err-run-clause-fault
returns-in_err-run-clause-fault g c = λ bytes fault first told.
    let passed = err_from_is_err_and c.from_residual.result c.from_residual.ensures.1 in
    let set = c.loop-index.set in
    let reads = c.loop-index.invariant.reads bytes first in
    c.in_err-run.ensures.fault bytes set fault
    (recounted bytes (g.R.Read.remaining c.loop-index.input) g.T.Integer.value_count c.loop-index.place set
    set c.loop-index.previous (c.args.count - c.loop-index.index)
    (c.args.count - 1 - c.loop-index.index + 1) refl (omega (arith, c.loop-index-test.true)) reads.0) cc

pub returns-in_err-run-clause-past : goal.returns-in_err-run-clause-past
returns-in_err-run-clause-past g c = λ bytes first.
    let passed = err_from_is_err_and c.from_residual.result c.from_residual.ensures.1 in
    let set = c.loop-index.set in
    let reads = c.loop-index.invariant.reads bytes first in
    rw passed.1 (c.in_err-run.ensures.past bytes set
    (recounted bytes (g.R.Read.remaining c.loop-index.input) g.T.Integer.value_count c.loop-index.place set
    set c.loop-index.previous (c.args.count - c.loop-index.index)
    (c.args.count - 1 - c.loop-index.index + 1) refl (omega (arith, c.loop-index-test.true)) reads.0))

-- A run was read before an allocation failed.
pub returns-in_err-push_run-clause-spared : goal.returns-in_err-push_run-clause-spared
returns-in_err-push_run-clause-spared g c = λ bytes first error told.
    let reads = c.loop-index.invariant.reads bytes first in
    reads.1 (c.in_ok-run.ensures.begins reads.0.rest reads.0.left)

pub returns-in_err-push_run-clause-past : goal.returns-in_err-push_run-clause-past
returns-in_err-push_run-clause-past g c = λ bytes first.
    let passed = err_from_is_err_and c.from_residual-in_err-push_run.result
    c.from_residual-in_err-push_run.ensures.1 in
    let set = c.loop-index.set in
    let reads = c.loop-index.invariant.reads bytes first in
    let next = c.in_ok-run.ensures.others bytes set
    (recounted bytes (g.R.Read.remaining c.loop-index.input) g.T.Integer.value_count c.loop-index.place set
    set c.loop-index.previous (c.args.count - c.loop-index.index)
    (c.args.count - 1 - c.loop-index.index + 1) refl (omega (arith, c.loop-index-test.true)) reads.0) in
    rw passed.1 (past-front bytes next.expected.read next.rest (g.R.Read.remaining c.next_run.new.input)
    next.expected.parts next.left)

pub loop-index-preserved : goal.loop-index-preserved
loop-index-preserved g c = record {
  room = λ some.
      let room = c.in_ok-run.ensures.room in
      omega arith;
  reads = λ bytes first.
      let n = g.T.Integer.value_count in
      let set = c.loop-index.set in
      let run = c.in_ok-run.run' in
      let new = g.R.Read.remaining c.next_run.new.input in
      let left = c.args.count - 1 - c.loop-index.index in
      let pushed = set ++ (from_to run.first run.last ∷ []) in
      let reads = c.loop-index.invariant.reads bytes first in
      let next = c.in_ok-run.ensures.others bytes set
      (recounted bytes (g.R.Read.remaining c.loop-index.input) n c.loop-index.place set
      set c.loop-index.previous (c.args.count - c.loop-index.index) (left + 1) refl
      (omega (arith, c.loop-index-test.true)) reads.0) in
      let same = c.in_ok-push_run.ensures.pushed
      (reads-canonical bytes new n run.end pushed (Some run.last) left next) in (
        recounted bytes new n run.end pushed c.push_run.new.set (Some run.last) left
            (c.args.count - (c.loop-index.index + 1)) (sym same) (omega (arith, c.loop-index-test.true)) next,
        λ _. reads.1 (c.in_ok-run.ensures.begins reads.0.rest reads.0.left),
      );
}

-- All runs were read.
pub returns-clause-read : goal.returns-clause-read
returns-clause-read g c = λ bytes first.
    let set = c.loop-index.set in
    let reads = c.loop-index.invariant.reads bytes first in
    let now = g.R.Read.remaining c.loop-index.input in
    set-read bytes now g.T.Integer.value_count c.loop-index.place set c.loop-index.previous
    (recounted bytes now g.T.Integer.value_count c.loop-index.place set set c.loop-index.previous
    (c.args.count - c.loop-index.index) 0 refl (omega (arith, c.loop-index-test.false)) reads.0)
