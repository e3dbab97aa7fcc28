use Rattle.ip_commands.proofs.lemmas.ReadBack.{reads_back}
use Rattle.ip_commands.proofs.lemmas.SameText.{same_text}
use Rattle.ip_commands.proofs.laws.output_is_written_again.Goals as goal

pub returns-clause-one : goal.returns-clause-one
returns-clause-one c = λ form v4 v6 text other is also.
    same_text form v4 v6 v4 v6 text other is (reads_back form v4 v6 text is) also

pub returns-clause-again : goal.returns-clause-again
returns-clause-again c = same_text
