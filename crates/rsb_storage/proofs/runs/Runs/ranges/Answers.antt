use Rattle.std.proofs.Common.{◌∙◌}
use Rattle.rsb_storage.proofs.lemmas.elements.Ranges.{intervals_of-ranges}
use Rattle.rsb_storage.proofs.runs.Runs.ranges.Goals as goal

pub returns : goal.returns
returns g c = intervals_of-ranges g.T.Integer.rank c.iter.result ∙ c.iter.ensures.runs
