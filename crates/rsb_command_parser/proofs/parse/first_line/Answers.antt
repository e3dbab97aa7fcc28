use Rattle.std.proofs.Common.{sym}
use Rattle.std.proofs.lemmas.List.{take_rest}
use Rattle.rsb_command_parser.proofs.lemmas.reading.Cuts.{lines-None, lines-Some}
use Rattle.rsb_command_parser.proofs.parse.first_line.Goals as goal

-- If there is no line feed, all of the bytes are one line.
pub returns-in-None-clause-lines : goal.returns-in-None-clause-lines
returns-in-None-clause-lines c =
    lines-None c.args.bytes.now c.requires (sym c.in-None.ensures.place)

pub returns-in-Some-clause-lines : goal.returns-in-Some-clause-lines
returns-in-Some-clause-lines c =
    rw (take_rest, c.without_return.ensures)
    (lines-Some c.args.bytes.now c.in-Some.i (sym c.in-Some.ensures.place))
