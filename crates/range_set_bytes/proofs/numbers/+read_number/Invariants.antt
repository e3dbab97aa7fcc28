use Rattle.std.proofs.Common.{length}
use Rattle.range_set_bytes.proofs.numbers.+read_number.Given as goal

abbrev pub decreases-read_number : goal.decreases-read_number
decreases-read_number l = length l.bytes.now
