use Rattle.std.proofs.Common.{◌<◌, ◌∙◌, length, rules, sym}
use Rattle.std.proofs.lemmas.List.{take_rest}
use Rattle.rsb_command_parser.proofs.lemmas.reading.Cuts.{some_before, words-None, words-after_word}
use Rattle.rsb_command_parser.proofs.parse.first_word.Goals as goal

-- The line is one word.
pub returns-in-None : goal.returns-in-None
returns-in-None c =
    let rest = c.without_blanks-rest.result.now in
    let some : 0 < length rest = search rules in
    sym c.without_blanks-rest.ensures.words ∙ words-None rest (sym c.in-None.ensures.place) some

-- A blank ends the first word.
pub returns-in-Some : goal.returns-in-Some
returns-in-Some c =
    let rest = c.without_blanks-rest.result.now in
    let is = sym c.in-Some.ensures.place in
    let some = some_before rest c.in-Some.i c.without_blanks-rest.ensures.first is in
    rw take_rest (sym c.without_blanks-rest.ensures.words
    ∙ words-after_word rest c.in-Some.i is some c.in-Some.ensures.within)
