use Rattle.std.proofs.Common.{[], ◌∷◌}
use Rattle.rsb_command_parser.specs.Spelling.{number, slot}
use Rattle.rsb_command_parser.proofs.lemmas.reading.OneCommand.{no_more, no_number_first, no_slot_first, no_words, past_first}
use Rattle.rsb_command_parser.proofs.parse.slot_and_range.Goals as goal

-- There is no word.
pub returns-in_err-word : goal.returns-in_err-word
returns-in_err-word c =
    rw c.from_residual.ensures (λ x.
    no_words c.args.arguments.now (slot x.0) (number x.1 ∷ number x.2 ∷ [])
    c.in_err-word.ensures)

-- The first word is not a slot.
pub returns-in_err-slot : goal.returns-in_err-slot
returns-in_err-slot c =
    rw c.from_residual-in_err-slot.ensures (λ x.
    no_slot_first c.args.arguments.now c.in_ok-word.rest.now c.in_ok-word.word.now x.0
    (number x.1 ∷ number x.2 ∷ []) c.in_ok-word.ensures c.in_err-slot.ensures)

-- The next word is not a number.
pub returns-in_err-first : goal.returns-in_err-first
returns-in_err-first c =
    rw c.from_residual-in_err-first.ensures (λ x are.
    no_number_first c.in_ok-word.rest.now x.1 (number x.2 ∷ []) c.in_err-first.ensures
    (past_first c.args.arguments.now c.in_ok-word.rest.now _ (slot x.0)
    (number x.1 ∷ number x.2 ∷ []) c.in_ok-word.ensures are))

-- The word after that is not a number.
pub returns-in_err-last : goal.returns-in_err-last
returns-in_err-last c =
    rw c.from_residual-in_err-last.ensures (λ x are.
    no_number_first c.in_ok-first.rest.now x.2 [] c.in_err-last.ensures
    (past_first c.in_ok-word.rest.now c.in_ok-first.rest.now _ (number x.1) (number x.2 ∷ [])
    c.in_ok-first.ensures.parts
    (past_first c.args.arguments.now c.in_ok-word.rest.now _ (slot x.0)
    (number x.1 ∷ number x.2 ∷ []) c.in_ok-word.ensures are)))

-- A word is left over.
pub returns-else-is_blank_line : goal.returns-else-is_blank_line
returns-else-is_blank_line c = λ x are.
    let rest = c.in_ok-word.rest.now in
    let later = c.in_ok-first.rest.now in
    let last = c.in_ok-last.rest.now in
    no_more last (λ none. let yes = c.if-is_blank_line.ensures.1 none in absurd cc)
    (past_first later last _ (number x.2) [] c.in_ok-last.ensures.parts
    (past_first rest later _ (number x.1) (number x.2 ∷ []) c.in_ok-first.ensures.parts
    (past_first c.args.arguments.now rest _ (slot x.0) (number x.1 ∷ number x.2 ∷ [])
    c.in_ok-word.ensures are)))
