use Rattle.std.proofs.Common.{arith, ◌≡◌, ◌+◌, ◌/◌, ◌-◌, ◌^◌, min}
use Rattle.std.proofs.lemmas.Result.{err_from_is_err_and}
use Rattle.range_set_bytes.specs.Format.{header}
use Rattle.range_set_byte_streams.proofs.lemmas.Runs.{count-read, count-reads}
use Rattle.range_set_byte_streams.proofs.lemmas.Source.{consumed, past-more}
use Rattle.range_set_byte_streams.proofs.read.read_count.Goals as goal

pub returns-in_err-read_header-clause-fault : goal.returns-in_err-read_header-clause-fault
returns-in_err-read_header-clause-fault g c = λ bytes fault is told.
    let passed = err_from_is_err_and c.from_residual.result c.from_residual.ensures.1 in
    c.in_err-read_header.ensures.fault bytes fault is cc

-- The count is wrong, or cannot be read.
pub returns-in_err-count-clause-fault : goal.returns-in_err-count-clause-fault
returns-in_err-count-clause-fault g c = λ bytes fault is told.
    let n = g.T.Integer.value_count in
    let most = c.min-most.result in
    let mid = g.R.Read.remaining c.read_header.new.input in
    let most_is : most ≡ min (c.args.greatest / 2 + 1) (2 ^ 64 - 1) = omega (arith, c.min-most.ensures, c.from.ensures) in
    let parts = consumed (g.R.Read.remaining c.args.input.now) mid bytes (header n) is
    c.in_ok-read_header.ensures.read in
    let passed = err_from_is_err_and c.from_residual-in_err-count.result c.from_residual-in_err-count.ensures.1 in
    c.in_err-count.ensures.fault bytes fault
    (count-reads n c.args.greatest most bytes parts.0 mid c.requires.greatest most_is parts.1 parts.2) cc

pub returns-in_err-count-clause-past : goal.returns-in_err-count-clause-past
returns-in_err-count-clause-past g c = λ bytes is.
    let n = g.T.Integer.value_count in
    let mid = g.R.Read.remaining c.read_header.new.input in
    let parts = consumed (g.R.Read.remaining c.args.input.now) mid bytes (header n) is
    c.in_ok-read_header.ensures.read in
    let passed = err_from_is_err_and c.from_residual-in_err-count.result c.from_residual-in_err-count.ensures.1 in
    rw passed.1 (past-more bytes (header n) parts.0 (g.R.Read.remaining c.next_number.new.input) parts.1
    (c.in_err-count.ensures.past parts.0 parts.2))

pub returns-clause-read : goal.returns-clause-read
returns-clause-read g c = λ bytes is.
    let n = g.T.Integer.value_count in
    let most = c.min-most.result in
    let mid = g.R.Read.remaining c.read_header.new.input in
    let most_is : most ≡ min (c.args.greatest / 2 + 1) (2 ^ 64 - 1) = omega (arith, c.min-most.ensures, c.from.ensures) in
    let parts = consumed (g.R.Read.remaining c.args.input.now) mid bytes (header n) is
    c.in_ok-read_header.ensures.read in
    count-read n c.args.greatest most bytes parts.0 mid c.requires.greatest most_is parts.1 parts.2
    c.in_ok-count.count c.in_ok-count.place (g.R.Read.remaining c.next_number.new.input)
    c.in_ok-count.ensures.value.1 (c.in_ok-count.ensures.read parts.0 parts.2) c.in_ok-count.ensures.end
