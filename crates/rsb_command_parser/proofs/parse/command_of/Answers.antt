use Rattle.std.proofs.Common.{◌≡◌, arith, pos, refl}
use Rattle.std.proofs.lemmas.Grind.{common_steps}
use Rattle.std.specs.Prelude.{codes}
use Rattle.rsb_command_parser.specs.declared.command.Command.TheVariants.{Add, Del, Has, Gap}
use Rattle.rsb_command_parser.proofs.lemmas.reading.OneCommand.{no_arguments, slot_range_none, slot_value_none}
use Rattle.rsb_command_parser.proofs.parse.command_of.Goals as goal

pub returns-in_err-slot-in-add : goal.returns-in_err-slot-in-add
returns-in_err-slot-in-add c =
    let is_add : c.args.keyword.now ≡ codes "add" = grind (arith, common_steps) in
    rw c.from_residual.ensures
    (no_arguments _ _ _ (Add 0 (pos 0) (pos 0)) refl is_add
    (slot_range_none _ c.in_err-slot-in-add.ensures))

pub returns-in_err-slot-in-has : goal.returns-in_err-slot-in-has
returns-in_err-slot-in-has c =
    let is_has : c.args.keyword.now ≡ codes "has" = grind (arith, common_steps) in
    rw c.from_residual-in_err-slot-in-has.ensures
    (no_arguments _ _ _ (Has 0 (pos 0)) refl is_has
    (slot_value_none _ c.in_err-slot-in-has.ensures))

pub returns-in_err-slot-in-del : goal.returns-in_err-slot-in-del
returns-in_err-slot-in-del c =
    let is_del : c.args.keyword.now ≡ codes "del" = grind (arith, common_steps) in
    rw c.from_residual-in_err-slot-in-del.ensures
    (no_arguments _ _ _ (Del 0 (pos 0)) refl is_del
    (slot_value_none _ c.in_err-slot-in-del.ensures))

pub returns-in_err-slot-in-gap : goal.returns-in_err-slot-in-gap
returns-in_err-slot-in-gap c =
    let is_gap : c.args.keyword.now ≡ codes "gap" = grind (arith, common_steps) in
    rw c.from_residual-in_err-slot-in-gap.ensures
    (no_arguments _ _ _ (Gap 0 (pos 0)) refl is_gap
    (slot_value_none _ c.in_err-slot-in-gap.ensures))
