use Rattle.std.proofs.Common.{◌∙◌, [], map}
use Rattle.std.specs.Prelude.{Err}
use Rattle.ip_commands.proofs.lemmas.Appends.{Keeps-then}
use Rattle.ip_commands.proofs.lemmas.Program.{word-fault}
use Rattle.ip_commands.proofs.program.start.Goals as goal

-- The words have a fault.
pub returns-in-Err : goal.returns-in-Err
returns-in-Err g c = record {
  ends = (
    Err c.in-Err.fault,
    [],
    word-fault (g.I.Inputs.bytes c.args.inputs.now) (map g.S.AsStr.text c.args.words.now) []
        (g.W.Write.contents c.args.output.now) c.in-Err.fault c.in-Err.ensures.fault,
    c.finish-in-Err.ensures.status,
    λ _. c.finish-in-Err.ensures.quiet,
  );
}

-- What the words ask for was run.
pub returns-in-Ok : goal.returns-in-Ok
returns-in-Ok g c =
    let contents = g.E.Write.contents in
    record {
      ends = (
        c.answer-end.result,
        c.answer-end.new.told.items,
        c.answer-end.ensures (map g.S.AsStr.text c.args.words.now) c.in-Ok.ensures.arguments
            c.new-told.ensures.items,
        c.finish.ensures.status,
        λ none quiet. Keeps-then (contents c.args.errors.now) (contents c.tell.new.errors)
            (contents c.finish.new.errors) (c.tell.ensures (c.deref.ensures.value ∙ none))
            (c.finish.ensures.quiet quiet),
      );
    }
