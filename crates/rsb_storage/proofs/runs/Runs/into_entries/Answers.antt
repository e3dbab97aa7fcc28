use Rattle.std.proofs.Common.{◌∙◌, ap}
use Rattle.rsb_storage.specs.Storage.{runs_of}
use Rattle.rsb_storage.proofs.runs.Runs.into_entries.Goals as goal

-- The iterator gives the entries of the map.
pub returns : goal.returns
returns g c =
    ap (runs_of g.T.Integer.rank) c.into_iter.ensures.into_iter_gives.0 ∙ c.self.view_is
