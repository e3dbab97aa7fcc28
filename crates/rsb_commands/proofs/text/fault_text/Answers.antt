use Rattle.std.proofs.Common.{rules}
use Rattle.rsb_commands.proofs.lemmas.writing.FaultLine.{appended}
use Rattle.rsb_commands.proofs.text.fault_text.Goals as goal

-- The calls of `write_str` append the whole line.
pub returns : goal.returns
returns c = search (rules, appended)
