use Rattle.ip_commands.proofs.lemmas.OneAnswer.{one_answer, one_count, one_finding}
use Rattle.ip_commands.proofs.laws.answer_is_unique.Goals as goal

pub returns-clause-operation : goal.returns-clause-operation
returns-clause-operation c = one_answer

pub returns-clause-counts : goal.returns-clause-counts
returns-clause-counts c = one_count

pub returns-clause-found : goal.returns-clause-found
returns-clause-found c = one_finding
