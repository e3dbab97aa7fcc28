use Rattle.rsb_storage.proofs.entries.last_run.Goals as goal

-- If there is no entry, there is no run.
pub returns-in_err-entry-clause-run : goal.returns-in_err-entry-clause-run
returns-in_err-entry-clause-run g c = rw c.from_residual.ensures c.in_err-entry.ensures.steps.0

-- Otherwise the last entry is removed.
pub returns-clause-run : goal.returns-clause-run
returns-clause-run g c =
    rw (c.of_entry.ensures.start, c.of_entry.ensures.end) c.in_ok-entry.ensures.steps
