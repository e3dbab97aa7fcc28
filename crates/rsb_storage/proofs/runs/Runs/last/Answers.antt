use Rattle.std.proofs.Common.{arith, refl}
use Rattle.rsb_storage.proofs.lemmas.runs.EndEntries.{last-run, length-runs_of, no-items}
use Rattle.rsb_storage.proofs.runs.Runs.last.Goals as goal

-- If there is no entry, there is no run.
pub returns-in_err-entry-clause-none : goal.returns-in_err-entry-clause-none
returns-in_err-entry-clause-none g c =
    let long = length-runs_of g.T.Integer.rank c.self.inside.map.entries in
    let none = c.in_err-entry.ensures.variant in
    rw (c.from_residual.ensures, ← c.self.view_is)
    ((λ is. (no-items _).0 (grind (arith, long, none))), (λ is. refl))

-- Otherwise the last entry is that of the last run.
pub returns-clause-none : goal.returns-clause-none
returns-clause-none g c =
    let long = length-runs_of g.T.Integer.rank c.self.inside.map.entries in
    let some = c.in_ok-entry.ensures.variant in
    rw (← c.self.view_is)
    ((λ none. absurd (cc)), (λ is. absurd (grind (arith, long, some, (no-items _).1 is))))

pub returns-clause-last : goal.returns-clause-last
returns-clause-last g c =
    rw (← c.self.view_is, c.of_entry.ensures.start, c.of_entry.ensures.end)
    (last-run g.T.Integer.rank c.self.inside.map.entries _ c.in_ok-entry.ensures.last)
