use Rattle.std.proofs.Common.{◌+◌, ◌++◌, ◌≤◌, arith, drop, length, length-drop, take}
use Rattle.std.proofs.lemmas.List.{take_rest}
use Rattle.ip_matches.proofs.lemmas.KeptLines.{stops_there, up_to_next}
use Rattle.ip_matches.proofs.lemmas.Reading.{err_same, rest_on}
use Rattle.ip_matches.proofs.lemmas.TextLines.{line_before_feed}
use Rattle.ip_matches.proofs.text.reading.add_lines.Goals as goal

-- A fault came at a line.
pub returns-in_err-add_line-clause-fault : goal.returns-in_err-add_line-clause-fault
returns-in_err-add_line-clause-fault g c = λ all more start has.
    let rest = c.loop-end.rest.now in
    let end = c.in-Some.end in
    let here = c.loop-end.invariant.2 all more start has in
    err_same c.from_residual.result c.in_err-add_line.field-0.0 _ c.from_residual.ensures.1
    (stops_there c.args.filter.now all start (rest ++ more) _ c.loop-end.progress here
    (take end rest) (drop (end + 1) rest ++ more)
    (line_before_feed rest more end c.in-Some.ensures) _ _ c.in_err-add_line.field-0.0
    (c.in_err-add_line.ensures.fault here.before start here.so_far))

-- One more line was worked on.
pub loop-end-preserved : goal.loop-end-preserved
loop-end-preserved g c =
    let rest = c.loop-end.rest.now in
    let end = c.in-Some.end in
    let within : end + 1 ≤ length rest = omega (arith, c.in-Some.ensures.0.high) in
    rw take_rest (
      omega (arith, length-drop (end + 1) rest, c.loop-end.invariant.0),
      rest_on c.args.bytes.now rest (end + 1) c.loop-end.invariant.0 c.loop-end.invariant.1 within,
      λ all more start has.
          let here = c.loop-end.invariant.2 all more start has in
          up_to_next c.args.filter.now all start (rest ++ more) _ c.loop-end.progress here
          (take end rest) (drop (end + 1) rest ++ more)
          (line_before_feed rest more end c.in-Some.ensures) _ _
          (c.in_ok-add_line.ensures.kept here.before start here.so_far),
    )
