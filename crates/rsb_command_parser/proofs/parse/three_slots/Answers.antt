use Rattle.std.proofs.Common.{[], ◌∷◌}
use Rattle.rsb_command_parser.specs.Spelling.{slot}
use Rattle.rsb_command_parser.proofs.lemmas.reading.OneCommand.{no_slot_first, no_words, past_first}
use Rattle.rsb_command_parser.proofs.parse.three_slots.Goals as goal

-- There is no word.
pub returns-in_err-word : goal.returns-in_err-word
returns-in_err-word c =
    rw c.from_residual.ensures (λ x.
    no_words c.args.arguments.now (slot x.0) (slot x.1 ∷ slot x.2 ∷ []) c.in_err-word.ensures)

-- The first word is not a slot.
pub returns-in_err-target : goal.returns-in_err-target
returns-in_err-target c =
    rw c.from_residual-in_err-target.ensures (λ x.
    no_slot_first c.args.arguments.now c.in_ok-word.rest.now c.in_ok-word.word.now x.0
    (slot x.1 ∷ slot x.2 ∷ []) c.in_ok-word.ensures c.in_err-target.ensures)

-- What comes after it is not two slots.
pub returns-in_err-left : goal.returns-in_err-left
returns-in_err-left c =
    rw c.from_residual-in_err-left.ensures (λ x are.
    c.in_err-left.ensures (x.1, x.2)
    (past_first c.args.arguments.now c.in_ok-word.rest.now _ (slot x.0)
    (slot x.1 ∷ slot x.2 ∷ []) c.in_ok-word.ensures are))
