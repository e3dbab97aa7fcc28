use Rattle.std.proofs.Common.{◌≡◌, arith, refl}
use Rattle.std.proofs.lemmas.Grind.{common_steps}
use Rattle.std.specs.Prelude.{codes}
use Rattle.rsb_command_parser.specs.declared.command.Command.TheVariants.{Union, Intersection, Difference, SymmetricDifference, Complement, Most, Compare}
use Rattle.rsb_command_parser.proofs.lemmas.reading.OneCommand.{four_slots_none, no_arguments, three_slots_none, two_slots_none}
use Rattle.rsb_command_parser.proofs.parse.operation_of.Goals as goal

pub returns-in_err-target-in-or : goal.returns-in_err-target-in-or
returns-in_err-target-in-or c =
    let is_or : c.args.keyword.now ≡ codes "or" = grind (arith, common_steps) in
    rw c.from_residual.ensures
    (no_arguments _ _ _ (Union 0 0 0) refl is_or
    (three_slots_none _ c.in_err-target-in-or.ensures))

pub returns-in_err-target-in-and : goal.returns-in_err-target-in-and
returns-in_err-target-in-and c =
    let is_and : c.args.keyword.now ≡ codes "and" = grind (arith, common_steps) in
    rw c.from_residual-in_err-target-in-and.ensures
    (no_arguments _ _ _ (Intersection 0 0 0) refl is_and
    (three_slots_none _ c.in_err-target-in-and.ensures))

pub returns-in_err-target-in-sub : goal.returns-in_err-target-in-sub
returns-in_err-target-in-sub c =
    let is_sub : c.args.keyword.now ≡ codes "sub" = grind (arith, common_steps) in
    rw c.from_residual-in_err-target-in-sub.ensures
    (no_arguments _ _ _ (Difference 0 0 0) refl is_sub
    (three_slots_none _ c.in_err-target-in-sub.ensures))

pub returns-in_err-target-in-xor : goal.returns-in_err-target-in-xor
returns-in_err-target-in-xor c =
    let is_xor : c.args.keyword.now ≡ codes "xor" = grind (arith, common_steps) in
    rw c.from_residual-in_err-target-in-xor.ensures
    (no_arguments _ _ _ (SymmetricDifference 0 0 0) refl is_xor
    (three_slots_none _ c.in_err-target-in-xor.ensures))

pub returns-in_err-target-in-not : goal.returns-in_err-target-in-not
returns-in_err-target-in-not c =
    let is_not : c.args.keyword.now ≡ codes "not" = grind (arith, common_steps) in
    rw c.from_residual-in_err-target-in-not.ensures
    (no_arguments _ _ _ (Complement 0 0) refl is_not
    (two_slots_none _ c.in_err-target-in-not.ensures))

pub returns-in_err-target-in-most : goal.returns-in_err-target-in-most
returns-in_err-target-in-most c =
    let is_most : c.args.keyword.now ≡ codes "most" = grind (arith, common_steps) in
    rw c.from_residual-in_err-target-in-most.ensures
    (no_arguments _ _ _ (Most 0 0 0 0) refl is_most
    (four_slots_none _ c.in_err-target-in-most.ensures))

pub returns-in_err-left-in-cmp : goal.returns-in_err-left-in-cmp
returns-in_err-left-in-cmp c =
    let is_cmp : c.args.keyword.now ≡ codes "cmp" = grind (arith, common_steps) in
    rw c.from_residual-in_err-left-in-cmp.ensures
    (no_arguments _ _ _ (Compare 0 0) refl is_cmp
    (two_slots_none _ c.in_err-left-in-cmp.ensures))
