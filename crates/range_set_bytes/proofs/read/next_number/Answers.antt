use Rattle.range_set_bytes.proofs.lemmas.Faults.{number-fault}
use Rattle.range_set_bytes.proofs.read.next_number.Goals as goal

pub returns-in-Err-clause-fault : goal.returns-in-Err-clause-fault
returns-in-Err-clause-fault g c = number-fault g.T.Integer.value_count c.args.bytes.now c.args.rest.now
    c.args.least c.args.most c.in-Err.bad c.fault_at.result c.requires.expected c.in-Err.ensures.bad
    c.fault_at.ensures.place c.fault_at.ensures.reason
