use Rattle.std.proofs.Common.{arith}
use Rattle.std.proofs.lemmas.Result.{err_from_is_err_and}
use Rattle.range_set_bytes.proofs.lemmas.Done.{count-expected, runs-expected}
use Rattle.range_set_bytes.proofs.read.read_set.Goals as goal

pub next_number-requires-clause-expected : goal.next_number-requires-clause-expected
next_number-requires-clause-expected g c = count-expected g.T.Integer.value_count c.args.bytes.now
    c.in_ok-rest.rest.now c.to_rank-greatest.result c.min-most.result
    (omega (arith, c.to_rank-greatest.ensures.rank, c.max_value.ensures)) c.in_ok-rest.ensures.read
    (omega (arith, c.min-most.ensures, c.from.ensures))

pub read_runs-requires-clause-expected : goal.read_runs-requires-clause-expected
read_runs-requires-clause-expected g c = runs-expected g.T.Integer.value_count c.args.bytes.now
    c.in_ok-rest.rest.now c.in_ok-count.left.now c.to_rank-greatest.result c.min-most.result c.in_ok-count.count
    (omega (arith, c.to_rank-greatest.ensures.rank, c.max_value.ensures)) c.in_ok-rest.ensures.read
    (omega (arith, c.min-most.ensures, c.from.ensures)) c.in_ok-count.ensures.value.1
    c.in_ok-count.ensures.read

pub returns-in_err-ranges-clause-fault : goal.returns-in_err-ranges-clause-fault
returns-in_err-ranges-clause-fault g c = λ fault is.
    let passed = err_from_is_err_and c.from_residual-in_err-ranges.result c.from_residual-in_err-ranges.ensures.1 in
    c.in_err-ranges.ensures.fault fault cc
