use Rattle.std.proofs.Common.{[], inl, inr, map, refl}
use Rattle.std.specs.Prelude.{Err}
use Rattle.std.specs.String.{string_bytes}
use Rattle.ip_commands.proofs.lemmas.Appends.{Keeps-itself}
use Rattle.ip_commands.proofs.process.start_from_env.Goals as goal

-- The words could not be read, and nothing was written.
pub returns-in-Err : goal.returns-in-Err
returns-in-Err g c = record {
  ends = (
    Err c.in-Err.fault,
    [],
    inr (record {
      fault = c.in-Err.fault;
      ends = refl;
      before = c.in-Err.ensures;
      keeps = Keeps-itself (g.W.Write.contents c.args.output.now);
    }),
    c.finish.ensures.status,
    λ _. c.finish.ensures.quiet,
  );
}

-- The program ran on the words.
pub returns-in-Ok : goal.returns-in-Ok
returns-in-Ok g c =
    let it = c.start.ensures.ends in
    record { ends = (it.0, it.1, inl (map string_bytes c.deref.result.now, it.2), it.3, it.4) }
