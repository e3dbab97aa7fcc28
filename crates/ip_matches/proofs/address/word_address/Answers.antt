use Rattle.ip_matches.proofs.lemmas.FirstAddress.{no_word_address}
use Rattle.ip_matches.proofs.address.word_address.Goals as goal

-- The word is no IPv6 address, and has no IPv4 address.
pub returns-in-None : goal.returns-in-None
returns-in-None c = no_word_address c.args.word.now c.in_default.ensures c.in-None.ensures
