use Rattle.std.proofs.Common.{◌++◌, drop, length, subst, sym}
use Rattle.std.specs.Io.BufRead.{FillKeeps}
use Rattle.ip_matches.specs.Progress.{HasKeptUpTo}
use Rattle.ip_matches.proofs.lemmas.Reading.{err_same, shown_consumed, shown_front}
use Rattle.ip_matches.proofs.text.reading.add_buffered.Goals as goal

-- A fault came at a line of the buffer.
pub returns-in_err-count-in-Ok-clause-fault : goal.returns-in_err-count-in-Ok-clause-fault
returns-in_err-count-in-Ok-clause-fault g c = λ bytes start has.
    let shown = c.in-Ok.bytes.now in
    let whole = shown_front (g.R.Read.remaining c.args.input.now) shown has.0 has.1
    c.in-Ok.ensures.front in
    err_same c.from_residual.result c.in_err-count-in-Ok.field-0.0 _ c.from_residual.ensures.1
    (c.in_err-count-in-Ok.ensures.fault bytes (drop (length shown) has.0) start
    (subst (λ rest. HasKeptUpTo c.args.filter.now bytes start rest _ c.args.progress.now)
    (sym whole) has.2))

-- The whole lines of the buffer were worked on, and consumed.
pub returns-in_ok-count-in-Ok-clause-kept : goal.returns-in_ok-count-in-Ok-clause-kept
returns-in_ok-count-in-Ok-clause-kept g c = λ bytes start has.
    let shown = c.in-Ok.bytes.now in
    let count = c.in_ok-count-in-Ok.count in
    let more = drop (length shown) has.0 in
    let rested = c.fill_buf.follows.lender-at-none in
    let filled = subst (FillKeeps _ (g.R.Read.remaining rested) (g.R.BufRead.consumable_len rested))
    c.in-Ok.is c.fill_buf.follows.holds-at-none in
    let whole = shown_front (g.R.Read.remaining c.args.input.now) shown has.0 has.1
    c.in-Ok.ensures.front in (
      drop count shown ++ more,
      shown_consumed (g.R.Read.remaining c.args.input.now) (g.R.Read.remaining rested)
          (g.R.Read.remaining c.consume.new.self) (g.R.BufRead.consumable_len rested) shown has.0
          count has.1 c.in-Ok.ensures.front filled.0 filled.1 c.consume.ensures.bytes
          c.in_ok-count-in-Ok.ensures.within,
      c.in_ok-count-in-Ok.ensures.kept bytes more start
          (subst (λ rest. HasKeptUpTo c.args.filter.now bytes start rest _ c.args.progress.now)
          (sym whole) has.2),
    )
