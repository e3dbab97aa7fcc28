use Rattle.std.proofs.Common.{[], ◌∷◌}
use Rattle.rsb_command_parser.specs.Spelling.{number, slot}
use Rattle.rsb_command_parser.proofs.lemmas.reading.OneCommand.{no_more, no_number_first, no_slot_first, no_words, past_first}
use Rattle.rsb_command_parser.proofs.parse.slot_and_value.Goals as goal

-- There is no word.
pub returns-in_err-word : goal.returns-in_err-word
returns-in_err-word c =
    rw c.from_residual.ensures
    (λ x. no_words c.args.arguments.now (slot x.0) (number x.1 ∷ []) c.in_err-word.ensures)

-- The first word is not a slot.
pub returns-in_err-slot : goal.returns-in_err-slot
returns-in_err-slot c =
    rw c.from_residual-in_err-slot.ensures (λ x.
    no_slot_first c.args.arguments.now c.in_ok-word.rest.now c.in_ok-word.word.now x.0
    (number x.1 ∷ []) c.in_ok-word.ensures c.in_err-slot.ensures)

-- The next word is not a number.
pub returns-in_err-value : goal.returns-in_err-value
returns-in_err-value c =
    rw c.from_residual-in_err-value.ensures (λ x are.
    no_number_first c.in_ok-word.rest.now x.1 [] c.in_err-value.ensures
    (past_first c.args.arguments.now c.in_ok-word.rest.now _ (slot x.0) (number x.1 ∷ [])
    c.in_ok-word.ensures are))

-- A word is left over.
pub returns-else-is_blank_line : goal.returns-else-is_blank_line
returns-else-is_blank_line c = λ x are.
    let rest = c.in_ok-word.rest.now in
    let last = c.in_ok-value.rest.now in
    no_more last (λ none. let yes = c.if-is_blank_line.ensures.1 none in absurd cc)
    (past_first rest last _ (number x.1) [] c.in_ok-value.ensures.parts
    (past_first c.args.arguments.now rest _ (slot x.0) (number x.1 ∷ []) c.in_ok-word.ensures are))
