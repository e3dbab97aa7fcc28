use Rattle.std.proofs.Common.{◌∙◌, ap}
use Rattle.ip_commands.specs.Fault.{outcome_past}
use Rattle.ip_commands.proofs.lemmas.Program.{answered-first, answers-kept, ends-in, request-fault, told-first}
use Rattle.ip_commands.specs.declared.fault.Fault.TheVariants.{NotWritten}
use Rattle.ip_commands.proofs.program.answer.Goals as goal

-- The request had a fault.
pub returns-in_err-outcome : goal.returns-in_err-outcome
returns-in_err-outcome g c words are none =
    let bytes = g.I.Inputs.bytes c.args.inputs.now in
    let contents = g.W.Write.contents in
    let told = c.run.new.told.items in
    ends-in bytes words told (contents c.args.output.now) (contents c.run.new.output)
    c.from_residual-in_err-outcome.result c.in_err-outcome.field-0.0
    c.from_residual-in_err-outcome.ensures.1
    (request-fault bytes words told (contents c.args.output.now) (contents c.run.new.output)
    c.in_ok-request.request c.in_err-outcome.field-0.0 (c.in_ok-request.ensures words are)
    c.in_err-outcome.ensures.first c.in_err-outcome.ensures.keeps
    (λ stops. c.run.ensures.quiet stops ∙ none))

-- The output could not be flushed.
pub returns-in_err-flush : goal.returns-in_err-flush
returns-in_err-flush g c words are none =
    let bytes = g.I.Inputs.bytes c.args.inputs.now in
    let contents = g.W.Write.contents in
    let old = contents c.args.output.now in
    let told = c.run.new.told.items in
    ends-in bytes words told old (contents c.flush.new.self) c.from_residual-in_err-flush.result
    (NotWritten c.in_err-flush.field-0.0) c.from_residual-in_err-flush.ensures.1 (
      c.in_ok-request.request,
      c.in_ok-request.ensures words are,
      answered-first bytes words told old (contents c.run.new.output) c.in_ok-request.request
          c.in_ok-outcome.outcome c.in_err-flush.field-0.0 c.in_ok-outcome.ensures.answers,
      tt,
      λ stops. c.run.ensures.quiet stops ∙ none,
    )

-- The request was answered, and the output flushed.
pub returns : goal.returns
returns g c = λ words are none.
    let bytes = g.I.Inputs.bytes c.args.inputs.now in (
      c.in_ok-request.request,
      c.in_ok-outcome.outcome,
      c.in_ok-request.ensures words are,
      answers-kept bytes c.in_ok-request.request c.in_ok-outcome.outcome
          (g.W.Write.contents c.args.output.now) (g.W.Write.contents c.run.new.output)
          (g.W.Write.contents c.flush.new.self) c.in_ok-outcome.ensures.answers
          c.in_ok-flush.ensures.bytes,
      told-first bytes c.in_ok-request.request c.args.told.now.items c.run.new.told.items none
          c.in_ok-outcome.ensures.told,
      c.past.ensures
          ∙ ap (λ each. outcome_past each c.in_ok-outcome.outcome) c.deref.ensures.value,
    )
