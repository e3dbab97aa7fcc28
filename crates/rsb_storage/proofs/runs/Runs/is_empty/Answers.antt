use Rattle.std.proofs.Common.{◌∙◌, sym}
use Rattle.rsb_storage.proofs.lemmas.runs.EndEntries.{length-runs_of, no-items}
use Rattle.rsb_storage.proofs.runs.Runs.is_empty.Goals as goal

-- There are as many runs as entries.
pub returns : goal.returns
returns g c =
    let long = length-runs_of g.T.Integer.rank c.self.inside.map.entries in
    let none = no-items _ in
    rw (← c.self.view_is) (
      (λ is. none.0 (long ∙ c.is_empty.ensures.0 is)),
      (λ is. c.is_empty.ensures.1 (sym long ∙ none.1 is)),
    )
