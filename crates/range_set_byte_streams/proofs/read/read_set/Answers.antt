use Rattle.std.proofs.lemmas.Result.{err_from_is_err_and}
use Rattle.range_set_byte_streams.proofs.read.read_set.Goals as goal

pub returns-in_err-count-clause-fault : goal.returns-in_err-count-clause-fault
returns-in_err-count-clause-fault g c = λ bytes fault is told.
    let passed = err_from_is_err_and c.from_residual.result c.from_residual.ensures.1 in
    c.in_err-count.ensures.fault bytes fault is cc

-- A run is wrong, or cannot be read.
pub returns-in_err-set-clause-fault : goal.returns-in_err-set-clause-fault
returns-in_err-set-clause-fault g c = λ bytes fault is told.
    let passed = err_from_is_err_and c.from_residual-in_err-set.result c.from_residual-in_err-set.ensures.1 in
    c.in_err-set.ensures.fault bytes fault (c.in_ok-count.ensures.read bytes is).reads cc

pub returns-in_err-set-clause-spared : goal.returns-in_err-set-clause-spared
returns-in_err-set-clause-spared g c = λ bytes error is told.
    let passed = err_from_is_err_and c.from_residual-in_err-set.result c.from_residual-in_err-set.ensures.1 in
    let has = c.in_ok-count.ensures.read bytes is in
    has.begins (c.in_err-set.ensures.spared bytes has.reads error cc)

pub returns-in_err-set-clause-past : goal.returns-in_err-set-clause-past
returns-in_err-set-clause-past g c = λ bytes is.
    let passed = err_from_is_err_and c.from_residual-in_err-set.result c.from_residual-in_err-set.ensures.1 in
    rw passed.1 (c.in_err-set.ensures.past bytes (c.in_ok-count.ensures.read bytes is).reads)

-- All was read.
pub returns-clause-read : goal.returns-clause-read
returns-clause-read g c = λ bytes is.
    (c.in_ok-set.ensures.read bytes (c.in_ok-count.ensures.read bytes is).reads).1

pub returns-clause-writable : goal.returns-clause-writable
returns-clause-writable g c = λ bytes is.
    (c.in_ok-set.ensures.read bytes (c.in_ok-count.ensures.read bytes is).reads).0
