use Rattle.ip_commands.proofs.lemmas.ReadBack.{reads_back}
use Rattle.ip_commands.proofs.laws.output_reads_back.Goals as goal

pub returns : goal.returns
returns c = reads_back
