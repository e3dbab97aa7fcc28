use Rattle.ip_sets.proofs.lemmas.spelling.Brackets.{reads_bracketed}
use Rattle.ip_sets.proofs.line.range.bracketed.Goals as goal

pub returns : goal.returns
returns g c = reads_bracketed g.F.Integer.rank g.F.Family.is_address c.args.text.now
    c.in_ok-enclosed.field-0.now c.one.result c.in_ok-enclosed.ensures c.one.ensures
