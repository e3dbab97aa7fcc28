use Rattle.std.proofs.Common.{[], subst, arith, None, Some}
use Rattle.rsb_integer.specs.Rank.{intervals_of}
use Rattle.range_set_bytes.specs.Reading.{ExpectsRuns}
use Rattle.range_set_bytes.proofs.lemmas.Done.{empty-list, runs-done, some-list, too-long}
use Rattle.range_set_bytes.proofs.lemmas.NextRun.{made-interval, pushed-range}
use Rattle.range_set_bytes.proofs.read.read_runs.Goals as goal

pub loop-index-init : goal.loop-index-init
loop-index-init g c = record {
  expected = rw c.new-ranges.ensures.items (subst
      (ExpectsRuns g.T.Integer.value_count c.args.bytes.now c.args.rest.now [] None) (omega arith)
      c.requires.expected);
  begun = λ begun. begun;
  some = λ some. absurd (some c.new-ranges.ensures.items);
}

pub next_run-requires-clause-expected : goal.next_run-requires-clause-expected
next_run-requires-clause-expected g c =
    let runs = intervals_of g.T.Integer.rank c.loop-index.ranges.items in (
      runs,
      subst (ExpectsRuns g.T.Integer.value_count c.args.bytes.now c.loop-index.left.now runs c.loop-index.previous)
          (omega (arith, c.loop-index-test.true)) c.loop-index.invariant.expected,
    )

pub returns-in_err-push-clause-spared : goal.returns-in_err-push-clause-spared
returns-in_err-push-clause-spared g c = λ error is.
    c.loop-index.invariant.begun c.in_ok-run.ensures.begins

pub loop-index-preserved : goal.loop-index-preserved
loop-index-preserved g c =
    let rank = g.T.Integer.rank in
    let n = g.T.Integer.value_count in
    let run = c.in_ok-run.run' in
    let runs = intervals_of rank c.loop-index.ranges.items in
    let before = subst (ExpectsRuns n c.args.bytes.now c.loop-index.left.now runs c.loop-index.previous)
    (omega (arith, c.loop-index-test.true)) c.loop-index.invariant.expected in
    let next = c.in_ok-run.ensures.others runs before in
    let range_is = made-interval rank c.new.result c.from_rank.result c.from_rank-in-loop-index.result run.first run.last
    c.new.ensures.exhausted c.new.ensures.start c.new.ensures.end c.from_rank.ensures
    c.from_rank-in-loop-index.ensures in
    let all = pushed-range rank c.loop-index.ranges.items c.push.new.self.items c.new.result run.first run.last
    c.in_ok-push.ensures.items range_is in
    record {
      expected = rw all (subst (ExpectsRuns n c.args.bytes.now run.rest.now _ (Some run.last)) (omega arith) next);
      begun = λ _. c.loop-index.invariant.begun c.in_ok-run.ensures.begins;
      some = λ _. c.loop-index.invariant.begun c.in_ok-run.ensures.begins;
    }

pub returns-then-not-is_empty-clause-fault : goal.returns-then-not-is_empty-clause-fault
returns-then-not-is_empty-clause-fault g c = λ fault is.
    let runs = intervals_of g.T.Integer.rank c.loop-index.ranges.items in
    let expected = subst (ExpectsRuns g.T.Integer.value_count c.args.bytes.now c.loop-index.left.now runs c.loop-index.previous)
    (omega (arith, c.loop-index-test.false)) c.loop-index.invariant.expected in
    too-long g.T.Integer.value_count c.args.bytes.now c.loop-index.left.now runs c.loop-index.previous expected
    (some-list c.loop-index.left.now c.if-not-is_empty.ensures) fault cc

pub returns-clause-read : goal.returns-clause-read
returns-clause-read g c =
    let runs = intervals_of g.T.Integer.rank c.loop-index.ranges.items in
    let expected = subst (ExpectsRuns g.T.Integer.value_count c.args.bytes.now c.loop-index.left.now runs c.loop-index.previous)
    (omega (arith, c.loop-index-test.false)) c.loop-index.invariant.expected in
    let done = runs-done g.T.Integer.value_count c.args.bytes.now c.loop-index.left.now runs c.loop-index.previous expected
    (empty-list c.loop-index.left.now c.if-not-is_empty.ensures) in
    done.1

pub returns-clause-writable : goal.returns-clause-writable
returns-clause-writable g c =
    let runs = intervals_of g.T.Integer.rank c.loop-index.ranges.items in
    let expected = subst (ExpectsRuns g.T.Integer.value_count c.args.bytes.now c.loop-index.left.now runs c.loop-index.previous)
    (omega (arith, c.loop-index-test.false)) c.loop-index.invariant.expected in
    let done = runs-done g.T.Integer.value_count c.args.bytes.now c.loop-index.left.now runs c.loop-index.previous expected
    (empty-list c.loop-index.left.now c.if-not-is_empty.ensures) in
    done.0

pub returns-clause-some : goal.returns-clause-some
returns-clause-some g c = c.loop-index.invariant.some
