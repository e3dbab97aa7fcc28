use Rattle.ip_sets.proofs.lemmas.spelling.Blocks.{block_members}
use Rattle.ip_sets.proofs.line_laws.blocks_share_their_first_bits.Goals as goal

pub returns : goal.returns
returns c = block_members
