use Rattle.ip_sets.proofs.lemmas.spelling.OneMeaning.{IsLine_unique}
use Rattle.ip_sets.proofs.line_laws.one_meaning.Goals as goal

pub returns : goal.returns
returns c = IsLine_unique
