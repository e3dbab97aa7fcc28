-- The ranges of the array ascend, and no two of them overlap.
use Rattle.std.proofs.Common.{rules}
use Rattle.rsb_streams.proofs.lemmas.sources.Arrays.{array-touching}
use Rattle.test_streams.proofs.streams.arrays.an_array_of_ranges_that_touch_is_a_stream.Goals as goal

pub new-stream-requires : goal.new-stream-requires
new-stream-requires g c = λ iter is. array-touching _ _ _ _ (search rules) iter is.0
