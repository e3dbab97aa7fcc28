use Rattle.rsb_storage.proofs.lemmas.runs.EndEntries.{first-entry}
use Rattle.rsb_storage.proofs.runs.Runs.after.Goals as goal

-- The first of the entries past the value is that of the first run that starts after it.
pub returns : goal.returns
returns g c =
    rw (← c.starting_after.ensures)
    (first-entry g.T.Integer.rank _ _ c.next_in_range.result c.next_in_range.ensures.run)
