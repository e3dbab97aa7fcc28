-- The ranges of the array ascend with gaps between them.
use Rattle.std.proofs.Common.{rules}
use Rattle.rsb_streams.proofs.lemmas.sources.Arrays.{array-apart}
use Rattle.test_streams.proofs.streams.arrays.an_array_of_ranges_apart_is_a_stream.Goals as goal

pub new-stream-requires : goal.new-stream-requires
new-stream-requires g c = λ iter is. array-apart _ _ _ _ (search rules) iter is.0
