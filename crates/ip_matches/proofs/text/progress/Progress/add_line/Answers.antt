use Rattle.ip_matches.proofs.lemmas.KeptLines.{has_more, has_no_more, stops_writing}
use Rattle.ip_matches.proofs.lemmas.Reading.{err_same}
use Rattle.ip_matches.proofs.text.progress.Progress.add_line.Goals as goal

-- The line is not kept.
pub returns-then-not-keeps-clause-kept : goal.returns-then-not-keeps-clause-kept
returns-then-not-keeps-clause-kept g c = λ before start has.
    has_no_more c.args.filter.now before c.args.line.now start _ c.args.self.now has
    (λ fact. cc (c.keeps.ensures.1 fact, c.if-not-keeps.true))

-- The line is kept, and could not be written.
pub returns-in_err-lay_line-clause-fault : goal.returns-in_err-lay_line-clause-fault
returns-in_err-lay_line-clause-fault g c = λ before start has.
    let stop = c.in_err-lay_line in
    err_same c.from_residual-in_err-lay_line.result stop.field-0.0 _
    c.from_residual-in_err-lay_line.ensures.1
    (stops_writing c.args.filter.now before c.args.line.now start _ c.args.self.now has
    (c.keeps.ensures.0 c.if-not-keeps.false) _ _ stop.field-0.0 stop.ensures.fault
    stop.ensures.laid)

-- The line is kept.
pub returns-clause-kept : goal.returns-clause-kept
returns-clause-kept g c = λ before start has.
    has_more c.args.filter.now before c.args.line.now start _ c.args.self.now has
    (c.keeps.ensures.0 c.if-not-keeps.false) _ _ c.in_ok-lay_line.ensures.laid
    c.in_ok-count.ensures.next
