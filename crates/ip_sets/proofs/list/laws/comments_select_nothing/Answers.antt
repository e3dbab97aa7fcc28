use Rattle.ip_sets.proofs.lemmas.listing.Contents.{same_list}
use Rattle.ip_sets.proofs.list.laws.comments_select_nothing.Goals as goal

pub returns : goal.returns
returns c = same_list
