use Rattle.rsb_storage.proofs.entries.next_run.Goals as goal

-- If there is no entry, there is no run.
pub returns-in_err-entry : goal.returns-in_err-entry
returns-in_err-entry g c = rw c.from_residual.ensures c.in_err-entry.ensures.steps.0

-- Otherwise the first entry is removed.
pub returns : goal.returns
returns g c =
    rw (c.of_entry.ensures.start, c.of_entry.ensures.end) c.in_ok-entry.ensures.steps
