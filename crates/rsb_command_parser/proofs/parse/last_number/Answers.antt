use Rattle.std.proofs.lemmas.Int.{to_z-of_z}
use Rattle.std.specs.Int.{w32}
use Rattle.std.specs.Int.RustNames.{FitsSigned}
use Rattle.rsb_command_parser.proofs.lemmas.reading.Numbers.{number_is_word}
use Rattle.rsb_command_parser.proofs.parse.last_number.Goals as goal

-- The number is the last word of the line.
pub returns-in-Some : goal.returns-in-Some
returns-in-Some c =
    let fits : FitsSigned w32 c.in-Some.last = c.in-Some.ensures.fits in
    simp to_z-of_z
    (number_is_word c.args.line.now c.without_blanks-rest.result.now c.in-Some.last
    c.without_blanks-rest.ensures.words c.in-Some.ensures)
