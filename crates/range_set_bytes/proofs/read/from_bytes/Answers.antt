use Rattle.range_set_bytes.proofs.lemmas.Done.{not-refused, only-set}
use Rattle.range_set_bytes.proofs.read.from_bytes.Goals as goal

pub returns-clause-only : goal.returns-clause-only
returns-clause-only g c = only-set c.read_set-read.result g.T.Integer.value_count c.args.bytes.now
    c.read_set-read.ensures.read c.read_set-read.ensures.writable

pub returns-clause-taken : goal.returns-clause-taken
returns-clause-taken g c = λ runs fault writable is refused.
    not-refused g.T.Integer.value_count c.args.bytes.now fault (c.read_set-read.ensures.fault fault refused)
    runs writable is
