use Rattle.range_set_bytes.proofs.lengths.+length_of_number.Given as goal

abbrev pub decreases-length_of_number : goal.decreases-length_of_number
decreases-length_of_number g l = l.number
