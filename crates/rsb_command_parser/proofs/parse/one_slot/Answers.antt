use Rattle.std.proofs.Common.{[]}
use Rattle.rsb_command_parser.specs.Spelling.{slot}
use Rattle.rsb_command_parser.proofs.lemmas.reading.OneCommand.{no_more, no_slot_first, no_words, past_first}
use Rattle.rsb_command_parser.proofs.parse.one_slot.Goals as goal

-- There is no word.
pub returns-in_err-word : goal.returns-in_err-word
returns-in_err-word c =
    rw c.from_residual.ensures
    (λ x. no_words c.args.arguments.now (slot x) [] c.in_err-word.ensures)

-- The word is not a slot.
pub returns-in_err-slot : goal.returns-in_err-slot
returns-in_err-slot c =
    rw c.from_residual-in_err-slot.ensures (λ x.
    no_slot_first c.args.arguments.now c.in_ok-word.rest.now c.in_ok-word.word.now x []
    c.in_ok-word.ensures c.in_err-slot.ensures)

-- A word is left over.
pub returns-else-is_blank_line : goal.returns-else-is_blank_line
returns-else-is_blank_line c = λ x are.
    let rest = c.in_ok-word.rest.now in
    no_more rest (λ none. let yes = c.if-is_blank_line.ensures.1 none in absurd cc)
    (past_first c.args.arguments.now rest _ (slot x) [] c.in_ok-word.ensures are)
