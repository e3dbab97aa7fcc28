use Rattle.ip_sets.proofs.lemmas.aligned.Fewest.{maximal-fewest}
use Rattle.ip_sets.proofs.blocks.laws.maximal_blocks_are_fewest.Goals as goal

pub returns : goal.returns
returns c = maximal-fewest
