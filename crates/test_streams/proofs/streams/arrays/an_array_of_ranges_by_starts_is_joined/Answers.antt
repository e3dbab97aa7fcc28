-- The ranges of the array are sorted by their starts.
use Rattle.std.proofs.Common.{rules}
use Rattle.rsb_streams.proofs.lemmas.sources.Arrays.{array-by_starts}
use Rattle.test_streams.proofs.streams.arrays.an_array_of_ranges_by_starts_is_joined.Goals as goal

pub new-stream-requires : goal.new-stream-requires
new-stream-requires g c = λ iter is. array-by_starts _ _ _ _ (search rules) iter is.0
