use Rattle.std.proofs.Common.{◌≡◌, map}
use Rattle.std.specs.Io.KnownBytes.{Appends}
use Rattle.ip_commands.specs.Answer.{found_outcome, has_address, names_text}
use Rattle.ip_commands.proofs.lemmas.Names.{names_of, pair_of}
use Rattle.ip_commands.proofs.commands.has.write_names_with.Given as goal

-- the names of the files so far were written, and the outcome says whether there are any
abbrev pub invariant-loop-file : goal.invariant-loop-file
invariant-loop-file g l =
    let names = names_of (has_address l.address) (map pair_of l.yielded) in
    record {
      written : Appends (g.W.Write.contents l.initial.output) (g.W.Write.contents l.output)
          (names_text names);
      ends : l.outcome ≡ found_outcome names;
    }
