use Rattle.std.proofs.Common.{◌∙◌, sym}
use Rattle.rsb_storage.proofs.lemmas.runs.EndEntries.{length-runs_of}
use Rattle.rsb_storage.proofs.runs.Runs.len.Goals as goal

-- There are as many runs as entries.
pub returns : goal.returns
returns g c =
    rw (← c.self.view_is)
    (c.len.ensures.len ∙ sym (length-runs_of g.T.Integer.rank c.self.inside.map.entries))
