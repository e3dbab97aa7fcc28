use Rattle.range_set_byte_streams.proofs.numbers.+read_number.Given as goal

abbrev pub decreases-read_number : goal.decreases-read_number
decreases-read_number g l = l.most
