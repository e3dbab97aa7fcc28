use Rattle.std.specs.Fmt.{decimal}
use Rattle.ip_sets.proofs.lemmas.spelling.Octets.{from_three}
use Rattle.ip_sets.proofs.line.octets.octet_at.Goals as goal

pub returns-clause-front : goal.returns-clause-front
returns-clause-front c =
    from_three c.args.bytes.now (decimal c.in_ok-number.number) c.args.start c.in_ok-number.count
    c.requires c.in_ok-number.ensures.front
