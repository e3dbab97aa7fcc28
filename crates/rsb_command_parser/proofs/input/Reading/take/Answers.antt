use Rattle.std.proofs.Common.{◌≡◌, length, rules}
use Rattle.rsb_command_parser.proofs.lemmas.reading.Parts.{IsClosed-take-append}
use Rattle.rsb_command_parser.proofs.input.Reading.take.Goals as goal

-- The bytes up to a line feed are whole lines.
pub take_lines-requires-clause-closed : goal.take_lines-requires-clause-closed
take_lines-requires-clause-closed g c =
    let rest = c.args.self.now.rest.items in
    let bytes = c.args.bytes.now in
    let last = c.in-Some.last in
    let before : c.len-before.result ≡ length rest = search rules in
    rw (before, c.in_ok-extend_from_slice.ensures.items)
    (IsClosed-take-append rest bytes last c.in-Some.ensures.0.high c.in-Some.ensures.1)
