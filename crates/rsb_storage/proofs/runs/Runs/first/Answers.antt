use Rattle.std.proofs.Common.{arith}
use Rattle.rsb_storage.proofs.lemmas.runs.EndEntries.{first-run, length-runs_of, no-items}
use Rattle.rsb_storage.proofs.runs.Runs.first.Goals as goal

-- If there is no entry, there is no run.
pub returns-in_err-entry : goal.returns-in_err-entry
returns-in_err-entry g c =
    let long = length-runs_of g.T.Integer.rank c.self.inside.map.entries in
    let none = c.in_err-entry.ensures.variant in
    rw (c.from_residual.ensures, ← c.self.view_is) ((no-items _).0 (grind (arith, long, none)))

-- Otherwise the first entry is that of the first run.
pub returns : goal.returns
returns g c =
    rw (← c.self.view_is, c.of_entry.ensures.start, c.of_entry.ensures.end)
    (first-run g.T.Integer.rank c.self.inside.map.entries _ c.in_ok-entry.ensures.first)
