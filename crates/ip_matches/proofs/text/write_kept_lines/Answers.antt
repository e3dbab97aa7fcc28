use Rattle.ip_matches.proofs.lemmas.KeptLines.{err_part, finished, not_of_write, ok_count, started, stopped, stopped_at_write, stopped_part, unfinished}
use Rattle.ip_matches.proofs.lemmas.Reading.{IfSome-from, ok_holds}
use Rattle.ip_matches.proofs.text.write_kept_lines.Goals as goal

-- All lines were kept or not, and what waits is written.
pub returns-in-Ok-clause-kept : goal.returns-in-Ok-clause-kept
returns-in-Ok-clause-kept g c =
    ok_count c.finish.result _ _ _ _ _ c.finish.ensures.written c.finish.ensures.count
    (λ count written is. IfSome-from (g.R.Read.remaining c.args.input.now) _ (λ bytes known.
    let start = started c.args.filter.now bytes (g.R.Read.remaining c.args.input.now)
    (g.W.Write.contents c.args.output.now) c.new-progress.result known c.new-progress.ensures.page
    c.new-progress.ensures.count in
    finished c.args.filter.now bytes (g.W.Write.contents c.args.output.now)
    (g.W.Write.contents c.read_lines.new.output) _ c.read_lines.new.progress
    (c.in-Ok.ensures.kept bytes (g.W.Write.contents c.args.output.now) start).0 count written is))

pub returns-in-Ok-clause-end : goal.returns-in-Ok-clause-end
returns-in-Ok-clause-end g c =
    ok_holds c.finish.result _
    (IfSome-from (g.R.Read.remaining c.args.input.now) _ (λ bytes known.
    let start = started c.args.filter.now bytes (g.R.Read.remaining c.args.input.now)
    (g.W.Write.contents c.args.output.now) c.new-progress.result known c.new-progress.ensures.page
    c.new-progress.ensures.count in
    (c.in-Ok.ensures.kept bytes (g.W.Write.contents c.args.output.now) start).1))

-- What waits could not be written.
pub returns-in-Ok-clause-fault : goal.returns-in-Ok-clause-fault
returns-in-Ok-clause-fault g c =
    err_part c.finish.result _ _ _ _ c.finish.ensures.written c.finish.ensures.fault
    (λ fault part is. IfSome-from (g.R.Read.remaining c.args.input.now) _ (λ bytes known.
    let start = started c.args.filter.now bytes (g.R.Read.remaining c.args.input.now)
    (g.W.Write.contents c.args.output.now) c.new-progress.result known c.new-progress.ensures.page
    c.new-progress.ensures.count in
    let has = (c.in-Ok.ensures.kept bytes (g.W.Write.contents c.args.output.now) start).0 in
    unfinished c.args.filter.now bytes (g.W.Write.contents c.args.output.now)
    (g.W.Write.contents c.read_lines.new.output) _ c.read_lines.new.progress has.0 has.2 fault part
    is))

-- A write failed.
pub returns-then-is_of_write-clause-fault : goal.returns-then-is_of_write-clause-fault
returns-then-is_of_write-clause-fault g c =
    IfSome-from (g.R.Read.remaining c.args.input.now) _ (λ bytes known.
    let start = started c.args.filter.now bytes (g.R.Read.remaining c.args.input.now)
    (g.W.Write.contents c.args.output.now) c.new-progress.result known c.new-progress.ensures.page
    c.new-progress.ensures.count in
    let stops = c.in-Err.ensures.fault bytes (g.W.Write.contents c.args.output.now) start in
    stopped_at_write c.args.filter.now bytes (g.W.Write.contents c.args.output.now)
    (g.W.Write.contents c.read_lines.new.output) c.read_lines.new.progress c.in-Err.fault
    (c.is_of_write.ensures.0 c.if-is_of_write.true) stops)

-- A read failed, and what waits is written.
pub returns-in-Ok-finish-clause-fault : goal.returns-in-Ok-finish-clause-fault
returns-in-Ok-finish-clause-fault g c =
    IfSome-from (g.R.Read.remaining c.args.input.now) _ (λ bytes known.
    let start = started c.args.filter.now bytes (g.R.Read.remaining c.args.input.now)
    (g.W.Write.contents c.args.output.now) c.new-progress.result known c.new-progress.ensures.page
    c.new-progress.ensures.count in
    let stops = c.in-Err.ensures.fault bytes (g.W.Write.contents c.args.output.now) start in
    stopped c.args.filter.now bytes (g.W.Write.contents c.args.output.now)
    (g.W.Write.contents c.read_lines.new.output) _ c.read_lines.new.progress c.in-Err.fault
    (not_of_write c.in-Err.fault (λ is. cc (c.is_of_write.ensures.1 is, c.if-is_of_write.false)))
    stops c.in-Ok-finish.ensures.written)

-- A read failed, and what waits could not be written.
pub returns-in-Err-finish-clause-fault : goal.returns-in-Err-finish-clause-fault
returns-in-Err-finish-clause-fault g c =
    IfSome-from (g.R.Read.remaining c.args.input.now) _ (λ bytes known.
    let start = started c.args.filter.now bytes (g.R.Read.remaining c.args.input.now)
    (g.W.Write.contents c.args.output.now) c.new-progress.result known c.new-progress.ensures.page
    c.new-progress.ensures.count in
    let stops = c.in-Err.ensures.fault bytes (g.W.Write.contents c.args.output.now) start in
    stopped_part c.args.filter.now bytes (g.W.Write.contents c.args.output.now)
    (g.W.Write.contents c.read_lines.new.output) _ c.read_lines.new.progress c.in-Err.fault
    c.in-Err-finish.unwritten
    (not_of_write c.in-Err.fault (λ is. cc (c.is_of_write.ensures.1 is, c.if-is_of_write.false)))
    stops c.in-Err-finish.ensures.written c.in-Err-finish.ensures.fault)
