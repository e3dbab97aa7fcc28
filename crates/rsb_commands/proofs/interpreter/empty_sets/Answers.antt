use Rattle.std.proofs.Common.{ap, ◌∙◌}
use Rattle.rsb_commands.specs.Interpreter.{sets_of}
use Rattle.rsb_commands.proofs.lemmas.replying.KeptSets.{sets_of-empty}
use Rattle.rsb_commands.proofs.interpreter.empty_sets.Goals as goal

pub returns-clause-empty : goal.returns-clause-empty
returns-clause-empty g c = ap sets_of c.loop.invariant.0 ∙ sets_of-empty c.loop.counter
