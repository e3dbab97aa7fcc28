use Rattle.std.specs.Fmt.{decimal}
use Rattle.std.specs.Io.KnownBytes.{Appends}
use Rattle.std.specs.Prelude.{codes}
use Rattle.ip_commands.proofs.lemmas.Count.{line-written}
use Rattle.ip_commands.proofs.commands.count.write_count.Goals as goal

-- The parts of the line were written, if the text of the number is known.
pub returns : goal.returns
returns g c =
    line-written c.writeln.result (g.N.Display.output c.args.addresses) c.args.family.now
    (codes " addresses: ") (codes ", blocks: ") (decimal c.args.blocks) (codes "\n")
    (Appends (g.W.Write.contents c.args.output.now) (g.W.Write.contents c.writeln.new.self))
    c.writeln.ensures.bytes
