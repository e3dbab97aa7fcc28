use Rattle.range_set_byte_streams.proofs.lemmas.Numbers.{number-stops}
use Rattle.range_set_byte_streams.proofs.read.next_number.Goals as goal

-- What is wrong with the number is what is wrong with the bytes.
pub returns-clause-fault : goal.returns-clause-fault
returns-clause-fault g c = λ bytes fault reads told.
    number-stops bytes (g.R.Read.remaining c.args.input.now)
    (g.R.Read.remaining c.read_number-read.new.input) g.T.Integer.value_count c.args.place c.args.least
    c.args.most fault reads c.requires.some
    (c.read_number-read.ensures.fault reads.rest fault reads.left told)
