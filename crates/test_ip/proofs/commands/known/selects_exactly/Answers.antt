use Rattle.std.proofs.Common.{◌∙◌, ◌++◌, ap}
use Rattle.test_ip.proofs.commands.known.selects_exactly.Goals as goal

-- The answer is what was written, and there is only one.
pub returns-clause-text : goal.returns-clause-text
returns-clause-text g c text is =
    let written = c.in_ok-run.ensures.answers in
    written.3
    ∙ ap (λ before. before ++ written.0) c.new-output.ensures.items
    ∙ c.answer_is_unique.ensures.operation (g.I.Inputs.bytes c.args.inputs.now) c.args.combination
    written.0 text c.requires.known written.1 is
