use Rattle.std.proofs.Common.{◌≡◌, ◌∙◌, ◌<◌, ◌∷◌, [], Some, ap, arith, length, refl, subst, sym}
use Rattle.std.specs.Io.BufRead.{drop_through, strip_last, take_through}
use Rattle.ip_matches.specs.KeptLines.{text_lines}
use Rattle.ip_matches.specs.MatchFault.{IsReadFault}
use Rattle.ip_matches.specs.Progress.{HasKeptUpTo}
use Rattle.ip_matches.proofs.lemmas.KeptLines.{stops_reading, stops_there, up_to_next}
use Rattle.ip_matches.proofs.lemmas.Reading.{err_same, err_weaker, none_left, read_line}
use Rattle.ip_matches.proofs.lemmas.TextLines.{first_line}
use Rattle.ip_matches.proofs.text.reading.read_lines.Goals as goal

-- A fault came in the buffer.
pub returns-in_err-add_buffered-clause-fault : goal.returns-in_err-add_buffered-clause-fault
returns-in_err-add_buffered-clause-fault g c = λ bytes start has.
    err_same c.from_residual.result c.in_err-add_buffered.field-0.0 _ c.from_residual.ensures.1
    (c.in_err-add_buffered.ensures.fault bytes start (c.loop.invariant bytes start has))

-- A read failed.
pub returns-in_err-read_until-clause-fault : goal.returns-in_err-read_until-clause-fault
returns-in_err-read_until-clause-fault g c = λ bytes start has.
    let here = c.in_ok-add_buffered.ensures.kept bytes start (c.loop.invariant bytes start has) in
    err_weaker c.from_residual-in_err-read_until.result IsReadFault _
    c.from_residual-in_err-read_until.ensures.1
    (stops_reading c.args.filter.now bytes start here.0 _ c.add_buffered.new.progress here.2)

-- There are no more lines.
pub returns-then-branch-eq0-clause-kept : goal.returns-then-branch-eq0-clause-kept
returns-then-branch-eq0-clause-kept g c = λ bytes start has.
    let here = c.in_ok-add_buffered.ensures.kept bytes start (c.loop.invariant bytes start has) in
    let read = read_line (g.R.Read.remaining c.add_buffered.new.input)
    (g.R.Read.remaining c.read_until.new.self) c.clear.new.self.items c.read_until.new.buf.items
    here.0 here.1 c.clear.ensures.items c.in_ok-read_until.ensures.bytes
    c.in_ok-read_until.ensures.rest in
    let none = none_left (g.R.Read.remaining c.add_buffered.new.input) here.0 here.1
    (c.in_ok-read_until.ensures.end c.if-branch-eq0.true) in (
      (
        [],
        refl,
        subst (λ rest. HasKeptUpTo c.args.filter.now bytes start rest
            (g.W.Write.contents c.add_buffered.new.output) c.add_buffered.new.progress)
            none here.2,
      ),
      read.1 ∙ ap (λ left. Some (drop_through 10 left)) none,
    )

-- A fault came at the line that was read.
pub returns-in_err-add_line-clause-fault : goal.returns-in_err-add_line-clause-fault
returns-in_err-add_line-clause-fault g c = λ bytes start has.
    let some : 0 < length c.read_until.new.buf.items = omega (
      arith,
      c.in_ok-read_until.ensures.ok,
      c.if-branch-eq0.false,
      c.read_until.new.buf.ok.0,
    ) in
    let here = c.in_ok-add_buffered.ensures.kept bytes start (c.loop.invariant bytes start has) in
    let read = read_line (g.R.Read.remaining c.add_buffered.new.input)
    (g.R.Read.remaining c.read_until.new.self) c.clear.new.self.items c.read_until.new.buf.items
    here.0 here.1 c.clear.ensures.items c.in_ok-read_until.ensures.bytes
    c.in_ok-read_until.ensures.rest in
    let line : c.without_feed.result.now ≡ strip_last 10 (take_through 10 here.0) =
    c.without_feed.ensures ∙ ap (strip_last 10) (c.deref.ensures.value ∙ read.0) in
    let next : text_lines here.0 ≡ c.without_feed.result.now ∷ text_lines (drop_through 10 here.0) =
    first_line here.0 (omega (arith, some, ap length read.0))
    ∙ ap (λ each. each ∷ text_lines (drop_through 10 here.0)) (sym line) in
    err_same c.from_residual-in_err-add_line.result c.in_err-add_line.field-0.0 _
    c.from_residual-in_err-add_line.ensures.1
    (stops_there c.args.filter.now bytes start here.0 _ c.add_buffered.new.progress here.2
    c.without_feed.result.now (drop_through 10 here.0) next _ _ c.in_err-add_line.field-0.0
    (c.in_err-add_line.ensures.fault here.2.before start here.2.so_far))

-- One more line was worked on.
pub loop-preserved : goal.loop-preserved
loop-preserved g c = λ bytes start has.
    let some : 0 < length c.read_until.new.buf.items = omega (
      arith,
      c.in_ok-read_until.ensures.ok,
      c.if-branch-eq0.false,
      c.read_until.new.buf.ok.0,
    ) in
    let here = c.in_ok-add_buffered.ensures.kept bytes start (c.loop.invariant bytes start has) in
    let read = read_line (g.R.Read.remaining c.add_buffered.new.input)
    (g.R.Read.remaining c.read_until.new.self) c.clear.new.self.items c.read_until.new.buf.items
    here.0 here.1 c.clear.ensures.items c.in_ok-read_until.ensures.bytes
    c.in_ok-read_until.ensures.rest in
    let line : c.without_feed.result.now ≡ strip_last 10 (take_through 10 here.0) =
    c.without_feed.ensures ∙ ap (strip_last 10) (c.deref.ensures.value ∙ read.0) in
    let next : text_lines here.0 ≡ c.without_feed.result.now ∷ text_lines (drop_through 10 here.0) =
    first_line here.0 (omega (arith, some, ap length read.0))
    ∙ ap (λ each. each ∷ text_lines (drop_through 10 here.0)) (sym line) in (
      drop_through 10 here.0,
      read.1,
      up_to_next c.args.filter.now bytes start here.0 _ c.add_buffered.new.progress here.2
          c.without_feed.result.now (drop_through 10 here.0) next _ _
          (c.in_ok-add_line.ensures.kept here.2.before start here.2.so_far),
    )

-- There were too many reads.
pub returns-clause-fault : goal.returns-clause-fault
returns-clause-fault g c = λ bytes start has.
    let here = c.loop.invariant bytes start has in
    stops_reading c.args.filter.now bytes start here.0 _ c.loop.progress here.2
    c.too_many_lines.result c.too_many_lines.ensures
