use Rattle.ip_sets.proofs.lemmas.spelling.Around.{content_around, content_nothing}
use Rattle.ip_sets.proofs.line_laws.blanks_and_comments_do_not_count.Goals as goal

pub returns : goal.returns
returns c = record { text = content_around; nothing = content_nothing }
