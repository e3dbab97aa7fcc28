use Rattle.range_set_bytes.proofs.lemmas.Done.{same-bytes}
use Rattle.range_set_bytes.proofs.laws.bytes_determine_set.Goals as goal

pub returns : goal.returns
returns c = same-bytes
