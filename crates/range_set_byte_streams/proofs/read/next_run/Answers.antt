use Rattle.std.proofs.lemmas.Result.{err_from_is_err_and}
use Rattle.range_set_bytes.specs.Leb128.{leb128}
use Rattle.range_set_byte_streams.proofs.lemmas.Runs.{gap-reads, length-reads, others-reads, reads-past, run-begins}
use Rattle.range_set_byte_streams.proofs.lemmas.Source.{past-more}
use Rattle.std.proofs.Common.{◌+◌}
use Rattle.range_set_byte_streams.proofs.read.next_run.Goals as goal

-- The gap is wrong, or cannot be read.
pub returns-in_err-gap-clause-fault : goal.returns-in_err-gap-clause-fault
returns-in_err-gap-clause-fault g c = λ bytes runs fault reads told.
    let passed = err_from_is_err_and c.from_residual.result c.from_residual.ensures.1 in
    c.in_err-gap.ensures.fault bytes fault
    (rw c.from.ensures (gap-reads bytes (g.R.Read.remaining c.args.input.now) g.T.Integer.value_count
    c.args.place runs c.args.previous c.args.after c.args.greatest c.rank_after-from.result c.least_gap.result
    c.requires.greatest c.rank_after-from.ensures c.least_gap.ensures reads)) cc

pub returns-in_err-gap-clause-past : goal.returns-in_err-gap-clause-past
returns-in_err-gap-clause-past g c = λ bytes runs reads.
    let passed = err_from_is_err_and c.from_residual.result c.from_residual.ensures.1 in
    rw passed.1 (reads-past bytes (g.R.Read.remaining c.args.input.now)
    (g.R.Read.remaining c.next_number.new.input) g.T.Integer.value_count c.args.place runs c.args.previous
    (c.args.after + 1) reads (c.in_err-gap.ensures.past reads.rest reads.left))

-- The length is.
pub returns-in_err-more-clause-fault : goal.returns-in_err-more-clause-fault
returns-in_err-more-clause-fault g c = λ bytes runs fault reads told.
    let passed = err_from_is_err_and c.from_residual-in_err-more.result c.from_residual-in_err-more.ensures.1 in
    let high = rw c.from.ensures at c.in_ok-gap.ensures.value.1 in
    c.in_err-more.ensures.fault bytes fault
    (rw c.from.ensures (length-reads bytes (g.R.Read.remaining c.args.input.now) g.T.Integer.value_count
    c.args.place runs c.args.previous c.args.after c.args.greatest c.rank_after-from.result c.least_gap.result
    c.requires.greatest c.rank_after-from.ensures c.least_gap.ensures reads c.in_ok-gap.gap c.in_ok-gap.middle
    (g.R.Read.remaining c.next_number.new.input) c.in_ok-gap.ensures.value.0 high
    (c.in_ok-gap.ensures.read reads.rest reads.left) c.in_ok-gap.ensures.end)) cc

pub returns-in_err-more-clause-past : goal.returns-in_err-more-clause-past
returns-in_err-more-clause-past g c = λ bytes runs reads.
    let passed = err_from_is_err_and c.from_residual-in_err-more.result c.from_residual-in_err-more.ensures.1 in
    let now = g.R.Read.remaining c.next_number-2.new.input in
    let first = c.in_ok-gap.ensures.read reads.rest reads.left in
    rw passed.1 (reads-past bytes (g.R.Read.remaining c.args.input.now) now g.T.Integer.value_count
    c.args.place runs c.args.previous (c.args.after + 1) reads
    (past-more reads.rest (leb128 c.in_ok-gap.gap) first.after now first.parts
    (c.in_err-more.ensures.past first.after first.left)))

-- Both are the run.
pub returns-clause-others : goal.returns-clause-others
returns-clause-others g c = λ bytes runs reads.
    let high = rw c.from.ensures at c.in_ok-gap.ensures.value.1 in
    let most = rw c.from.ensures at c.in_ok-more.ensures.value.1 in
    let first = c.in_ok-gap.ensures.read reads.rest reads.left in
    others-reads bytes (g.R.Read.remaining c.args.input.now) g.T.Integer.value_count
    c.args.place runs c.args.previous c.args.after c.args.greatest c.rank_after-from.result c.least_gap.result
    c.requires.greatest c.rank_after-from.ensures c.least_gap.ensures reads c.in_ok-gap.gap c.in_ok-gap.middle
    (g.R.Read.remaining c.next_number.new.input) c.in_ok-gap.ensures.value.0 high first
    c.in_ok-gap.ensures.end c.in_ok-more.more c.in_ok-more.end
    (g.R.Read.remaining c.next_number-2.new.input) most
    (c.in_ok-more.ensures.read first.after first.left) c.in_ok-more.ensures.end

pub returns-clause-begins : goal.returns-clause-begins
returns-clause-begins g c = λ rest is.
    let first = c.in_ok-gap.ensures.read rest is in
    run-begins rest (g.R.Read.remaining c.next_number.new.input)
    (g.R.Read.remaining c.next_number-2.new.input) c.in_ok-gap.gap c.in_ok-more.more first
    (c.in_ok-more.ensures.read first.after first.left)
