use Rattle.range_set_bytes.proofs.lemmas.Done.{same-start}
use Rattle.range_set_bytes.proofs.laws.bytes_show_their_end.Goals as goal

pub returns : goal.returns
returns c = same-start
