use Rattle.std.proofs.Common.{subst, sym}
use Rattle.std.specs.Prelude.{IfErr}
use Rattle.ip_commands.specs.Request.{IsFirstFaultOf}
use Rattle.ip_commands.proofs.lemmas.Files.{passed-on}
use Rattle.ip_commands.proofs.commands.run.Goals as goal

-- A fault of an operation.
pub returns-in-Combine-clause-first : goal.returns-in-Combine-clause-first
returns-in-Combine-clause-first g c =
    let bytes = g.I.Inputs.bytes c.args.inputs.now in
    subst (λ each. IfErr c.write_combination.result (IsFirstFaultOf bytes each))
    (sym c.in-Combine.is) c.write_combination.ensures.first

-- A fault of `count`.
pub returns-in_err-write_counts-in-Count-clause-first :
    goal.returns-in_err-write_counts-in-Count-clause-first
returns-in_err-write_counts-in-Count-clause-first g c =
    let bytes = g.I.Inputs.bytes c.args.inputs.now in
    let fault = c.in_err-write_counts-in-Count.field-0.0 in
    passed-on c.from_residual-in_err-write_counts-in-Count.result fault
    (IsFirstFaultOf bytes c.args.request)
    c.from_residual-in_err-write_counts-in-Count.ensures.1
    (subst (λ each. IsFirstFaultOf bytes each fault) (sym c.in-Count.is)
    c.in_err-write_counts-in-Count.ensures.first)

-- A fault of `has`.
pub returns-in-Has-clause-first : goal.returns-in-Has-clause-first
returns-in-Has-clause-first g c =
    let bytes = g.I.Inputs.bytes c.args.inputs.now in
    subst (λ each. IfErr c.write_names.result (IsFirstFaultOf bytes each))
    (sym c.in-Has.is) c.write_names.ensures.first

-- A fault of `check`.
pub returns-in-Check-clause-first : goal.returns-in-Check-clause-first
returns-in-Check-clause-first g c =
    let bytes = g.I.Inputs.bytes c.args.inputs.now in
    subst (λ each. IfErr c.write_reports.result (IsFirstFaultOf bytes each))
    (sym c.in-Check.is) c.write_reports.ensures.fault

-- A fault of `diff`.
pub returns-in-Diff-clause-first : goal.returns-in-Diff-clause-first
returns-in-Diff-clause-first g c =
    let bytes = g.I.Inputs.bytes c.args.inputs.now in
    subst (λ each. IfErr c.write_diff.result (IsFirstFaultOf bytes each))
    (sym c.in-Diff.is) c.write_diff.ensures.first
