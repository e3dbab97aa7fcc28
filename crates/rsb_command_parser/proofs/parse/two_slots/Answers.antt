use Rattle.std.proofs.Common.{[], ◌∷◌}
use Rattle.rsb_command_parser.specs.Spelling.{slot}
use Rattle.rsb_command_parser.proofs.lemmas.reading.OneCommand.{no_slot_first, no_words, past_first}
use Rattle.rsb_command_parser.proofs.parse.two_slots.Goals as goal

-- There is no word.
pub returns-in_err-word : goal.returns-in_err-word
returns-in_err-word c =
    rw c.from_residual.ensures
    (λ x. no_words c.args.arguments.now (slot x.0) (slot x.1 ∷ []) c.in_err-word.ensures)

-- The first word is not a slot.
pub returns-in_err-left : goal.returns-in_err-left
returns-in_err-left c =
    rw c.from_residual-in_err-left.ensures (λ x.
    no_slot_first c.args.arguments.now c.in_ok-word.rest.now c.in_ok-word.word.now x.0
    (slot x.1 ∷ []) c.in_ok-word.ensures c.in_err-left.ensures)

-- What comes after it is not one slot.
pub returns-in_err-right : goal.returns-in_err-right
returns-in_err-right c =
    rw c.from_residual-in_err-right.ensures (λ x are.
    c.in_err-right.ensures x.1
    (past_first c.args.arguments.now c.in_ok-word.rest.now _ (slot x.0) (slot x.1 ∷ [])
    c.in_ok-word.ensures are))
