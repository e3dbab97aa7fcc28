use Rattle.std.proofs.Common.{◌∙◌, ap}
use Rattle.rsb_storage.specs.Storage.{runs_of}
use Rattle.rsb_storage.proofs.lemmas.runs.EndEntries.{length-runs_of}
use Rattle.rsb_storage.proofs.runs.Runs.iter.Goals as goal

-- The iterator gives the entries of the map.
pub returns-clause-runs : goal.returns-clause-runs
returns-clause-runs g c = ap (runs_of g.T.Integer.rank) c.iter.ensures.rest ∙ c.self.view_is

-- There are as many runs as entries.
pub returns-clause-fits : goal.returns-clause-fits
returns-clause-fits g c =
    rw (← c.self.view_is, length-runs_of g.T.Integer.rank c.self.inside.map.entries)
    c.iter.ensures.fits
